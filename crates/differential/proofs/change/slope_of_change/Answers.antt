-- Where the phase operates at the middle c lies in the upper half, else in the lower.
use Rattle.std.proofs.Common.{rules}
use Rattle.differential.proofs.SlopeOfChange.{upper_half, lower_half, found}
use Rattle.differential.proofs.change.slope_of_change.Goals as goal

pub loop-width-preserved : goal.loop-width-preserved
loop-width-preserved c = search (rules, upper_half, lower_half)

pub returns : goal.returns
returns c = search (rules, found)
