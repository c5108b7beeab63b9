-- `lent::put`: the items of src passed so far stand over dst.
use Rattle.std.proofs.Common.{◌≡◌, take}
use Rattle.lent.specs.Lent.{over}
use Rattle.lent.proofs.put.Given as goal

abbrev pub invariant-loop-j : goal.invariant-loop-j
invariant-loop-j g l = l.dst ≡ over l.fn.dst l.at (take l.j l.src)
