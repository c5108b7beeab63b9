-- The quotient of the sum, rounded down, is the definition's.
use Rattle.std.proofs.Common.{rules}
use Rattle.whole.proofs.Rounding.{rounds}
use Rattle.whole.proofs.round_by.Goals as goal

pub returns : goal.returns
returns c = search (rules, rounds c.args.x c.args.d c.requires.0)
