-- What is formed at scale 16384 fits.
use mathlib.Core.Path.{refl}
use lib.IntN.{pos}
use lib.Signed.{lt_z_yes}
use Rattle.whole.proofs.Size.{lit, wider}
use Rattle.plane.specs.Sizes.{phasor_size}
use Rattle.plane.proofs.Bounds.{inside_factor, inside_scaled, inside_wider}
use Rattle.direction.specs.Sequence.{sequence, scale}
use Rattle.direction.proofs.Sizes.{two_inside, three_inside, sequence_inside}
use Rattle.direction.proofs.sequence.sequence.Goals as goal

pub add-requires : goal.add-requires
add-requires c =
    let h = c.requires in
    rw (c.scaled-first.ensures, c.times-second.ensures)
    (inside_wider (inside_scaled (lit (pos scale)) h.2.inside_a) tt, inside_wider (inside_factor h.0.real h.0.imag h.2.inside_b) tt)

pub add-requires-2 : goal.add-requires-2
add-requires-2 c =
    let h = c.requires in
    rw (c.add.ensures, c.scaled-first.ensures, c.times-second.ensures, c.times-third.ensures)
    (inside_wider (two_inside h.0 h.1 h.2) tt, inside_wider (inside_factor {c = phasor_size} h.1.real h.1.imag (search)) tt)

pub rounded-requires : goal.rounded-requires
rounded-requires c =
    let h = c.requires in
    rw (c.add-2.ensures, c.add.ensures, c.scaled-first.ensures, c.times-second.ensures, c.times-third.ensures)
    (lt_z_yes tt, inside_wider (three_inside h.0 h.1 h.2) tt, wider (lit (pos scale)) tt)

pub returns : goal.returns
unfolding sequence
returns c =
    let h = c.requires in
    rw (c.rounded.ensures, c.add-2.ensures, c.add.ensures, c.scaled-first.ensures, c.times-second.ensures, c.times-third.ensures)
    (refl, sequence_inside h.0 h.1 h.2)
