-- How large each quantity of the direction is, from the ranges of a good settings record and of phasors within 42000 of zero. So nothing
-- exceeds 64 bits.
use mathlib.Core.Path.{◌≡◌}
use lib.IntN.{ℤ, pos, ◌*ℤ◌}
use mir.Syntax.{w64}
use mir.Val.{SFits}
use mir.Facts.{to_z-of_z}
use Rattle.whole.specs.Sizes.{Within}
use Rattle.whole.proofs.Size.{lit, wider}
use Rattle.plane.specs.declared.Phasor.{Phasor}
use Rattle.plane.specs.declared.Phases.{Phases}
use Rattle.plane.specs.Plane.{plus, times, scaled}
use Rattle.plane.specs.Sizes.{Inside, AllInside, phasor_size}
use Rattle.whole.proofs.Machine.{Read}
use Rattle.plane.proofs.Steps.{product}
use Rattle.plane.proofs.Bounds.{inside_plus, inside_factor, inside_scaled, inside_rounded, inside_wider}
use Rattle.settings.specs.Table.{most_limit}
use Rattle.direction.specs.Sequence.{scale, turned, sequence}
use Rattle.direction.specs.Sizes.{Turn, sequence_size, polarising_size, square_size}

pub turn_inside : {f : Phasor} → Turn f → Inside 14189 f
turn_inside t = record { real = wider t.real tt; imag = t.imag }

-- 3V1, 3V2 and 3I2: the first two terms, all three, and what they are rounded to
module _ {f g : Phasor} {x : Phases Phasor} (p : Turn f) (q : Turn g) (h : AllInside phasor_size x) where
  pub two_inside : Inside 1630000000 (plus (scaled (pos scale) x.a) (times f x.b))
  two_inside = inside_wider (inside_plus (inside_scaled (lit (pos scale)) h.inside_a) (inside_factor p.real p.imag h.inside_b)) tt

  pub three_inside : Inside 2600000000 (plus (plus (scaled (pos scale) x.a) (times f x.b)) (times g x.c))
  three_inside = inside_wider (inside_plus two_inside (inside_factor q.real q.imag h.inside_c)) tt

  pub sequence_inside : Inside sequence_size (sequence f g x)
  unfolding sequence
  sequence_inside = inside_wider (inside_rounded scale tt three_inside) tt

-- aP and a²P
pub turned_inside : {f p : Phasor} → Turn f → Inside sequence_size p → Inside polarising_size (turned f p)
unfolding turned
turned_inside f p = inside_wider (inside_rounded scale tt (inside_factor f.real f.imag p)) tt

-- zf |3I2|² and zr |3I2|²: the machine's product fits, and is the product
module _ {z q : ℤ} (h : Within most_limit z) (k : Within square_size q) where
  pub limit_square_fits : SFits w64 (Read z *ℤ Read q)
  limit_square_fits = (product h k tt tt tt).0

  pub limit_square : Read (Read z *ℤ Read q) ≡ z *ℤ q
  limit_square = (product h k tt tt tt).1

pub ruleset limits = (to_z-of_z, limit_square_fits, limit_square)
