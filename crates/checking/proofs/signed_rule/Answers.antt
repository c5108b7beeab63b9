-- `checking::signed_rule`: the check finds this alone too, but close to its limits.
use Rattle.std.proofs.Common.{arith}
use Rattle.std.proofs.lemmas.Grind.{common_steps}
use Rattle.checking.proofs.signed_rule.Goals as goal

pub returns : goal.returns
returns c = grind (arith, common_steps)
