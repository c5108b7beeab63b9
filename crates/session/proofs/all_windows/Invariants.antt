-- Before each window, the lines still to come, right behind what was printed, make up all the lines.
use Rattle.session.proofs.Behind.{Whole}
use Rattle.session.proofs.Windows.{from}
use Rattle.session.proofs.all_windows.Given as goal

abbrev pub invariant-loop-number : goal.invariant-loop-number
invariant-loop-number g l =
    let left = g.R.Read.remaining in
    let held = g.W.Write.contents in
    Whole (from l.fn.state 1) (left l.fn.input) (held l.fn.output) (from l.fn.state l.number) (left l.input) (held l.output)
