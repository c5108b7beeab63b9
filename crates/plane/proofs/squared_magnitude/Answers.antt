-- A square is not negative, so its bits are the number itself.
use mathlib.Core.Path.{ap}
use native.Mathlib.Omega.{arith}
use lib.IntN.{nat_abs}
use lib.Signed.{yes_non_neg}
use Rattle.whole.proofs.Machine.{back}
use Rattle.plane.specs.Plane.{squared_magnitude}
use Rattle.plane.proofs.Bounds.{within_dot}
use Rattle.plane.proofs.Laws.{squared_nonneg}
use Rattle.plane.proofs.squared_magnitude.Goals as goal

pub overflow_cast-result : goal.overflow_cast-result
overflow_cast-result c =
    let small = within_dot c.requires c.requires in
    simp (back c.square.result c.square.type_inv)
    (rw c.square.ensures (yes_non_neg (squared_nonneg c.args.p), record { fits = omega (arith, small.size) }))

pub returns : goal.returns
unfolding squared_magnitude
returns c = simp (back c.square.result c.square.type_inv) (ap nat_abs c.square.ensures)
