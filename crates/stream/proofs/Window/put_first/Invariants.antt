-- `stream::Window::put_first`: the count and the first i numbers are written.
use Rattle.std.proofs.Common.{◌≡◌}
use Rattle.lent.specs.Lent.{over}
use Rattle.stream.specs.Stored.{stored_first}
use Rattle.stream.proofs.Window.put_first.Given as goal

abbrev pub invariant-loop-i : goal.invariant-loop-i
invariant-loop-i l = l.state ≡ over l.fn.state l.at (stored_first l.i l.fn.self)
