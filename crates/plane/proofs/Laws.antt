-- What the operations mean: Re(p q*) and Im(p q*) are the parts of that product, -j is the complex number (0, -1), a square is not negative, each
-- component is rounded as document 01 says, and what |p|² is as a natural number.
use mathlib.Core.Path.{◌≡◌, refl, ap}
use Prim.Native.Nat.{ℕ, ◌+◌, ◌*◌, ◌%◌, ◌≤◌}
use native.Mathlib.Nat.{div-eq_of_lt}
use native.Mathlib.Omega.{arith}
use lib.Dec.{T, ltb, ltb→lt}
use mathlib.Core.List.{[], ◌∷◌}
use lib.IntN.{pos, neg_ℤ}
use lib.Signed.{◌≤ℤ◌, yes_non_neg, pos-nat_abs}
use Rattle.whole.proofs.Certificate.{quo, ring!, le!, g_sq, ◌⊞◌}
use Rattle.whole.specs.Round.{Rounded, round_by}
use Rattle.whole.proofs.Rounding.{round_near, round_is}
use Rattle.plane.specs.declared.Phasor.{Phasor}
use Rattle.plane.specs.Plane.{NearTo, times, rounded, conjugate, minus_j, dot, cross, squared, squared_magnitude, zero}
use Rattle.plane.specs.Sizes.{Inside}
use Rattle.plane.proofs.Bounds.{within_dot}
use Rattle.plane.proofs.Made.{pair}

pub dot_is : (p q : Phasor) → dot p q ≡ (times p (conjugate q)).re
unfolding dot times
dot_is p q = ring! (p.re ∷ p.im ∷ q.re ∷ q.im ∷ []) (search quo depth 40) tt

pub cross_is : (p q : Phasor) → cross p q ≡ (times p (conjugate q)).im
unfolding cross times
cross_is p q = ring! (p.re ∷ p.im ∷ q.re ∷ q.im ∷ []) (search quo depth 40) tt

pub minus_j_is : (p : Phasor) → minus_j p ≡ times (record { re = pos 0; im = neg_ℤ (pos 1) }) p
unfolding minus_j times
minus_j_is p =
    pair (ring! (p.re ∷ p.im ∷ []) (search quo depth 40) tt) (ring! (p.re ∷ p.im ∷ []) (search quo depth 40) tt)

pub squared_nonneg : (p : Phasor) → pos 0 ≤ℤ squared p
unfolding dot
squared_nonneg p = le! (p.re ∷ p.im ∷ []) (g_sq p.re ⊞ g_sq p.im) (search quo depth 40) tt

-- a product with 0
pub dot_zero : (p : Phasor) → dot p zero ≡ pos 0
unfolding dot
dot_zero p = ring! (p.re ∷ p.im ∷ []) (search quo depth 40) tt

pub cross_zero : (p : Phasor) → cross p zero ≡ pos 0
unfolding cross
cross_zero p = ring! (p.re ∷ p.im ∷ []) (search quo depth 40) tt

pub times_zero : (p : Phasor) → times p zero ≡ zero
unfolding times
times_zero p =
    pair (ring! (p.re ∷ p.im ∷ []) (search quo depth 40) tt) (ring! (p.re ∷ p.im ∷ []) (search quo depth 40) tt)

pub rounded_zero : (d : ℕ) → T (ltb 0 d) → rounded d zero ≡ zero
unfolding rounded round_by
rounded_zero d t =
    let above = ltb→lt 0 d t in
    let z : round_by d (pos 0) ≡ pos 0 = ap pos (div-eq_of_lt (omega arith)) in
    pair z z

pub minus_j_zero : minus_j zero ≡ zero
unfolding minus_j
minus_j_zero = refl

-- each component of a rounded number is document 01's one whole number
pub rounded_is : (d : ℕ) → T (ltb 0 d) → d % 2 ≡ 0 → (p : Phasor) → Rounded d p.re (rounded d p).re × Rounded d p.im (rounded d p).im
unfolding rounded
rounded_is d t even p = let above = ltb→lt 0 d t in (round_is d above even p.re, round_is d above even p.im)

-- and near, whichever way a tie goes
pub rounded_near : (d : ℕ) → T (ltb 0 d) → (p : Phasor) → NearTo d p (rounded d p)
unfolding rounded
rounded_near d t p = let above = ltb→lt 0 d t in record { real = round_near d above p.re; imag = round_near d above p.im }

-- ---- the squared magnitude as a natural number

pub squared_magnitude_is : (p : Phasor) → pos (squared_magnitude p) ≡ squared p
unfolding squared_magnitude
squared_magnitude_is p = pos-nat_abs (squared p) (yes_non_neg (squared_nonneg p))

pub squared_magnitude_zero : squared_magnitude zero ≡ 0
unfolding squared_magnitude dot
squared_magnitude_zero = refl

pub squared_magnitude_most : {b : ℕ} {p : Phasor} → Inside b p → squared_magnitude p ≤ b * b + b * b
unfolding squared_magnitude
squared_magnitude_most h = (within_dot h h).size
