-- The sum of three currents fits.
use mathlib.Core.Path.{refl}
use Rattle.plane.proofs.Bounds.{inside_plus, inside_wider}
use Rattle.distance.specs.Mho.{residual}
use Rattle.distance.proofs.Sizes.{residual_inside}
use Rattle.distance.proofs.mho.residual.Goals as goal

pub add-requires-2 : goal.add-requires-2
add-requires-2 c =
    let h = c.requires in rw c.add.ensures (inside_wider (inside_plus h.inside_a h.inside_b) tt, inside_wider h.inside_c tt)

pub returns : goal.returns
unfolding residual
returns c = rw (c.add-2.ensures, c.add.ensures) (refl, residual_inside c.requires)
