-- The settings are in range, so every call may be made.
use mathlib.Core.Path.{refl}
use Rattle.whole.proofs.Machine.{back}
use Rattle.whole.proofs.Size.{wider, rd}
use Rattle.plane.proofs.Bounds.{within_dot}
use Rattle.settings.proofs.Sizes.{forward_within, reverse_within}
use Rattle.direction.specs.Direction.{direction_of}
use Rattle.direction.proofs.of_fault.Goals as goal

ruleset limits_within = (forward_within, reverse_within)

pub side-requires : goal.side-requires
side-requires c =
    let f = rd (forward_within c.args.s.good) tt in
    let r = rd (reverse_within c.args.s.good) tt in
    let q = within_dot c.requires.1 c.requires.1 in
    rw (c.forward_limit-zf.ensures, c.reverse_limit-zr.ensures, c.square.ensures)
    (simp (f, r, rd q tt) (search limits_within, search limits_within, wider q tt))

pub returns : goal.returns
unfolding direction_of
returns c =
    let told = simp (
      back c.forward_limit-zf.result c.forward_limit-zf.type_inv,
      back c.reverse_limit-zr.result c.reverse_limit-zr.type_inv,
      back c.torque-t.result c.torque-t.type_inv,
      back c.square.result c.square.type_inv,
    ) at c.side.ensures in
    rw (told, ← c.reaches_pickup.ensures, c.if-not-reaches_pickup.false)
    (refl, rw (c.forward_limit-zf.ensures, c.reverse_limit-zr.ensures, c.torque-t.ensures, c.square.ensures, c.angle.ensures.0) refl)
