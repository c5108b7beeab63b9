-- The table is document 01's, whose weights keep the phasor within 42000.
use Rattle.std.proofs.Common.{rules}
use Rattle.phasors.proofs.Weights.{sixteen_inside, sixteen_rounded}
use Rattle.phasors.proofs.measure.Goals as goal

pub rounded-requires : goal.rounded-requires
rounded-requires c = search (rules, sixteen_inside)

pub returns : goal.returns
returns c = sixteen_rounded {sums = c.sums.result} (search rules) (search rules)
