-- How `Inside` goes through each operation. The bounds are numerals and compute: `inside_wider (inside_times p q) tt`.
use mathlib.Core.Path.{◌≡◌}
use mathlib.Core.List.{[], ◌∷◌}
use Prim.Native.Nat.{ℕ, ◌+◌, ◌*◌, ◌/◌, ◌<◌}
use native.Mathlib.Nat.{le-div_iff_mul-le}
use native.Mathlib.Omega.{arith}
use lib.Dec.{T, leb, ltb, ltb→lt}
use lib.IntN.{ℤ, pos, ◌-ℤ◌, ◌*ℤ◌}
use Rattle.whole.specs.Sizes.{Within}
use Rattle.whole.specs.Round.{Near}
use Rattle.whole.proofs.Certificate.{quo, ring! }
use Rattle.whole.proofs.Size.{neg, add, sub, mul, wider, along, abs_mul}
use Rattle.whole.proofs.Rounding.{round_near, round_error}
use Rattle.plane.specs.declared.Phasor.{Phasor}
use Rattle.plane.specs.Plane.{plus, minus, times, scaled, rounded, minus_j, dot, cross}
use Rattle.plane.specs.Sizes.{Inside}

pub inside_plus : {a b : ℕ} {p q : Phasor} → Inside a p → Inside b q → Inside (a + b) (plus p q)
unfolding plus
inside_plus h k = record { real = add h.real k.real; imag = add h.imag k.imag }

pub inside_minus : {a b : ℕ} {p q : Phasor} → Inside a p → Inside b q → Inside (a + b) (minus p q)
unfolding minus
inside_minus h k = record { real = sub h.real k.real; imag = sub h.imag k.imag }

-- a product with a factor whose two components are bounded apart, as those of a and of k are
pub inside_factor :
    {a b c : ℕ} {f p : Phasor} → Within a f.re → Within b f.im → Inside c p → Inside (a * c + b * c) (times f p)
unfolding times
inside_factor re im h =
    record { real = sub (mul re h.real) (mul im h.imag); imag = add (mul re h.imag) (mul im h.real) }

pub inside_times : {a b : ℕ} {p q : Phasor} → Inside a p → Inside b q → Inside (a * b + a * b) (times p q)
inside_times h k = inside_factor h.real h.imag k

pub inside_scaled : {a b : ℕ} {n : ℤ} {p : Phasor} → Within a n → Inside b p → Inside (a * b) (scaled n p)
unfolding scaled
inside_scaled h k = record { real = mul h k.real; imag = mul h k.imag }

-- how large a rounded number is
round_bound : {d b : ℕ} {A y : ℤ} → 0 < d → Near d A y → Within b A → Within ((b + d / 2) / d) y
round_bound {d} {b} {A} {y} p n w =
    let e : pos d *ℤ y ≡ A -ℤ (A -ℤ pos d *ℤ y) = ring! (pos d ∷ A ∷ y ∷ []) (search quo depth 40) tt in
    let k = along e (sub w (round_error n)) in
    record { size = (le-div_iff_mul-le p).1 (omega (arith, k.size, abs_mul (pos d) y)) }

pub inside_rounded : {b : ℕ} {p : Phasor} (d : ℕ) → T (ltb 0 d) → Inside b p → Inside ((b + d / 2) / d) (rounded d p)
unfolding rounded
inside_rounded {p = p} d t h =
    let above = ltb→lt 0 d t in
    record {
      real = round_bound above (round_near d above p.re) h.real;
      imag = round_bound above (round_near d above p.im) h.imag;
    }

pub inside_minus_j : {b : ℕ} {p : Phasor} → Inside b p → Inside b (minus_j p)
unfolding minus_j
inside_minus_j h = record { real = h.imag; imag = neg h.real }

pub within_dot : {a b : ℕ} {p q : Phasor} → Inside a p → Inside b q → Within (a * b + a * b) (dot p q)
unfolding dot
within_dot h k = add (mul h.real k.real) (mul h.imag k.imag)

pub within_cross : {a b : ℕ} {p q : Phasor} → Inside a p → Inside b q → Within (a * b + a * b) (cross p q)
unfolding cross
within_cross h k = sub (mul h.imag k.real) (mul h.real k.imag)

pub inside_wider : {a b : ℕ} {p : Phasor} → Inside a p → T (leb a b) → Inside b p
inside_wider h t = record { real = wider h.real t; imag = wider h.imag t }

-- the bound of an equal number: a call's result is equal to its definition
pub inside_along : {b : ℕ} {p q : Phasor} → p ≡ q → Inside b q → Inside b p
inside_along e h = rw e h
