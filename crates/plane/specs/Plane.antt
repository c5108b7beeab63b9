-- Complex numbers with whole parts, and what document 01 does with them. Each operation is the textbook's.
use Rattle.std.specs.Prelude.{ℕ, ℤ, pos, neg_ℤ, nat_abs, ◌+ℤ◌, ◌-ℤ◌, ◌*ℤ◌}
use Rattle.whole.specs.Round.{Near, round_by}
use Rattle.plane.specs.declared.Phasor.{Phasor}

-- 0
abbrev pub zero : Phasor
zero = record { re = pos 0; im = pos 0 }

-- p + q
unfoldable pub plus : Phasor → Phasor → Phasor
plus p q = record { re = p.re +ℤ q.re; im = p.im +ℤ q.im }

-- p - q
unfoldable pub minus : Phasor → Phasor → Phasor
minus p q = record { re = p.re -ℤ q.re; im = p.im -ℤ q.im }

-- p q
unfoldable pub times : Phasor → Phasor → Phasor
times p q = record { re = p.re *ℤ q.re -ℤ p.im *ℤ q.im; im = p.re *ℤ q.im +ℤ p.im *ℤ q.re }

-- n p, for a whole number n
unfoldable pub scaled : ℤ → Phasor → Phasor
scaled n p = record { re = n *ℤ p.re; im = n *ℤ p.im }

-- each component rounded by d
unfoldable pub rounded : ℕ → Phasor → Phasor
rounded d p = record { re = round_by d p.re; im = round_by d p.im }

-- each component of d q is at most d/2 away from that of p: so it is with q rounded, whichever way a tie goes
pub record NearTo (d : ℕ) (p q : Phasor) : Type 0 where
  pub real : Near d p.re q.re
  pub imag : Near d p.im q.im

-- p*, the conjugate
abbrev pub conjugate : Phasor → Phasor
conjugate p = record { re = p.re; im = neg_ℤ p.im }

-- -j p
unfoldable pub minus_j : Phasor → Phasor
minus_j p = record { re = p.im; im = neg_ℤ p.re }

-- Re(p q*)
unfoldable pub dot : Phasor → Phasor → ℤ
dot p q = p.re *ℤ q.re +ℤ p.im *ℤ q.im

-- Im(p q*)
unfoldable pub cross : Phasor → Phasor → ℤ
cross p q = p.im *ℤ q.re -ℤ p.re *ℤ q.im

-- |p|²
abbrev pub squared : Phasor → ℤ
squared p = dot p p

-- |p|² as a natural number, to take a root of
unfoldable pub squared_magnitude : Phasor → ℕ
squared_magnitude p = nat_abs (squared p)
