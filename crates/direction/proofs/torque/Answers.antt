-- The products fit.
use mathlib.Core.Path.{refl}
use Rattle.whole.proofs.Machine.{back}
use Rattle.plane.proofs.Bounds.{inside_times}
use Rattle.plane.proofs.Steps.{multiply}
use Rattle.direction.specs.Sizes.{sequence_size}
use Rattle.direction.specs.Direction.{torque}
use Rattle.direction.proofs.torque.Goals as goal

pub dot-requires : goal.dot-requires
dot-requires c =
    rw c.times.ensures (multiply {a = sequence_size} (search) (inside_times {b = sequence_size} c.requires.0 (search)) tt tt tt)

pub returns : goal.returns
unfolding torque
returns c = rw (back c.dot.result c.dot.type_inv, c.dot.ensures, c.times.ensures) refl
