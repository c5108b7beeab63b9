-- The product fits before it is rounded.
use mathlib.Core.Path.{refl}
use lib.IntN.{pos}
use lib.Signed.{lt_z_yes}
use Rattle.whole.proofs.Size.{lit, wider}
use Rattle.plane.proofs.Bounds.{inside_factor, inside_wider}
use Rattle.direction.specs.Sequence.{turned, scale}
use Rattle.direction.proofs.Sizes.{turned_inside}
use Rattle.direction.proofs.sequence.turned.Goals as goal

pub rounded-requires : goal.rounded-requires
rounded-requires c =
    let h = c.requires in
    (lt_z_yes tt, rw c.times.ensures (inside_wider (inside_factor h.0.real h.0.imag h.1) tt), wider (lit (pos scale)) tt)

pub returns : goal.returns
unfolding turned
returns c = rw (c.rounded.ensures, c.times.ensures) (refl, turned_inside c.requires.0 c.requires.1)
