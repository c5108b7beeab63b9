use Rattle.std.proofs.Common.{arith}
use Rattle.session.proofs.Windows.{turn, at_last, no_number}
use Rattle.session.proofs.all_windows.Goals as goal

pub loop-number-preserved : goal.loop-number-preserved
loop-number-preserved g c = turn c.loop-number.invariant (omega arith) c.in_ok-one_window.ensures c.if-not-branch.false

pub returns-then-not-branch : goal.returns-then-not-branch
returns-then-not-branch g c = at_last c.loop-number.invariant (omega arith) c.in_ok-one_window.ensures c.if-not-branch.true

pub returns-after-loop-number : goal.returns-after-loop-number
returns-after-loop-number g c = no_number _ c.loop-number.invariant (omega arith)
