-- `lent::first_difference`: what is left of the two slices decides the finding.
use Rattle.std.proofs.Common.{◌≡◌, drop}
use Rattle.lent.specs.Lent.{differ_from, first_difference}
use Rattle.lent.proofs.first_difference.Given as goal

abbrev pub invariant-loop-i : goal.invariant-loop-i
invariant-loop-i l = differ_from l.i (drop l.i l.a) (drop l.i l.b) ≡ first_difference l.a l.b
