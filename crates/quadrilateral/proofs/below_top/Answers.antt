-- r Z I, 1000000 V and their difference fit, and so does its product with Ir.
use mathlib.Core.Path.{refl}
use mir.Facts.{to_z-of_z}
use Rattle.whole.proofs.Machine.{back}
use Rattle.whole.proofs.Size.{lit}
use Rattle.plane.proofs.Bounds.{inside_scaled, inside_minus, inside_wider}
use Rattle.plane.proofs.Steps.{multiply}
use Rattle.quadrilateral.specs.Quadrilateral.{reactance, below_top}
use Rattle.quadrilateral.proofs.below_top.Goals as goal

pub sub-short-requires : goal.sub-short-requires
sub-short-requires c =
    let h = c.requires in
    rw (c.scaled.ensures, c.scaled-2.ensures, to_z-of_z c.ranges.r)
    (inside_wider (inside_scaled h.0 h.1) tt, inside_wider (inside_scaled (lit _) h.2) tt)

pub cross-requires : goal.cross-requires
cross-requires c =
    let h = c.requires in
    rw (c.sub-short.ensures, c.scaled.ensures, c.scaled-2.ensures, to_z-of_z c.ranges.r)
    (multiply (inside_minus (inside_scaled h.0 h.1) (inside_scaled (lit _) h.2)) h.3 tt tt tt)

pub returns : goal.returns
unfolding below_top reactance
returns c =
    rw (back c.cross.result c.cross.type_inv, c.cross.ensures, c.sub-short.ensures, c.scaled.ensures, c.scaled-2.ensures, to_z-of_z c.ranges.r) refl
