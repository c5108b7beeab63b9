-- How large complex numbers get, so that nothing exceeds 64 bits, document 01's 42000 among it; and how long they are.
use Rattle.std.specs.Prelude.{ℕ, ◌+◌, ◌*◌, ◌^◌, T, ltb, ℤ, pos, ◌+ℤ◌, ◌*ℤ◌, ◌≤ℤ◌}
use Rattle.whole.specs.Sizes.{Within}
use Rattle.plane.specs.declared.Phasor.{Phasor}
use Rattle.plane.specs.declared.Phases.{Phases}

-- The one way in which a contract bounds a complex number: each component lies within b of zero.
pub record Inside (b : ℕ) (p : Phasor) : Type 0 where
  pub real : Within b p.re
  pub imag : Within b p.im

-- Two factors. It is their products that have to fit in 64 bits, and a sum or a difference of two products: one factor may be large where the
-- other is small.
pub record Multiply (p q : Phasor) : Type 0 where
  pub p_most : ℕ
  pub q_most : ℕ
  pub p_inside : Inside p_most p
  pub q_inside : Inside q_most q
  pub p_fits : T (ltb p_most (2 ^ 63))
  pub q_fits : T (ltb q_most (2 ^ 63))
  pub both_fit : T (ltb (p_most * q_most + p_most * q_most) (2 ^ 63))

-- All three phases.
pub record AllInside (b : ℕ) (v : Phases Phasor) : Type 0 where
  pub inside_a : Inside b v.a
  pub inside_b : Inside b v.b
  pub inside_c : Inside b v.c

-- "Every component then lies within 42000 of zero."
abbrev pub phasor_size : ℕ
phasor_size = 42000

-- The vector (x, y) is at most a long: what the triangle inequality speaks of. A length is a root, so it is spoken of by its square alone.
pub record Len (x y a : ℤ) : Type 0 where
  pub nonneg : pos 0 ≤ℤ a
  pub square : (x *ℤ x +ℤ y *ℤ y) ≤ℤ (a *ℤ a)

-- p is at most a long
abbrev pub Long : Phasor → ℕ → Type 0
Long p a = Len p.re p.im (pos a)
