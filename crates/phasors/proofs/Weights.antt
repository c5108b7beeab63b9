-- The sums sample by sample, and how large they get: each sample, at most 32768 in size, adds at most 32768 times its coefficients.
-- So the weights of a table bound the sums, and with the divisor the phasor, whatever is measured.
use mathlib.Core.Path.{◌≡◌, refl, sym, ap, ◌∙◌}
use mathlib.Core.List.{List}
use Prim.Native.Nat.{ℕ, ◌+◌, ◌*◌, ◌/◌, ◌%◌, ◌^◌, ◌≤◌}
use native.Mathlib.Numerals.{add-one}
use native.Mathlib.Omega.{arith}
use lib.Dec.{T, leb, ltb}
use lib.IntN.{ℤ, pos, nat_abs, ◌+ℤ◌, ◌-ℤ◌, ◌*ℤ◌}
use lib.ListN.{length}
use lib.Signed.{nat_abs-le}
use mir.Syntax.{w16, w64}
use mir.Val.{SFits}
use Rattle.whole.specs.Sizes.{Within}
use Rattle.whole.specs.Round.{Rounded}
use Rattle.whole.specs.Sum.{sum_of}
use Rattle.whole.proofs.Sums.{sum_next as added}
use Rattle.whole.proofs.Machine.{Read}
use Rattle.whole.proofs.Size.{neg, add, sub, mul, lit, rd}
use Rattle.plane.specs.declared.Phasor.{Phasor}
use Rattle.plane.specs.Plane.{NearTo, zero, rounded}
use Rattle.plane.specs.Sizes.{Inside, phasor_size}
use Rattle.plane.proofs.Bounds.{inside_rounded, inside_wider}
use Rattle.plane.proofs.Steps.{step, product}
use Rattle.plane.proofs.Laws.{rounded_is, rounded_near}
use Rattle.samples.specs.Window.{frames}
use Rattle.phasors.specs.Rate.{Rate, cosine, sine, sixteen}
use Rattle.phasors.specs.Sums.{with_sample, sum_to, exact, phasor_of}
use Rattle.phasors.specs.Sizes.{weight, Summed}

pub sum_next :
    (coefficients : List ℤ) (shift : ℕ) (x : ℕ → ℤ) (n : ℕ) →
    sum_to coefficients shift x (n + 1) ≡ with_sample (sum_to coefficients shift x n) (x n) (cosine coefficients n) (sine coefficients shift n)
unfolding sum_to
sum_next coefficients shift x n = rw (add-one n)

-- ---- one turn of the loop

-- a sample or a coefficient lies within what an i16 holds
pub fitted : {z : ℤ} → SFits w16 z → Within 32768 z
fitted {z} f = record { size = nat_abs-le z f.sfits }

-- and the product of two, added to a number or taken off it, as the machine works it out of x and y, which are u and v
module _ {z x y u v : ℤ} (h : Within (2 ^ 62) z) (f : SFits w16 u) (g : SFits w16 v) (d : x ≡ u) (e : y ≡ v) where
  times_is : Read (Read x *ℤ Read y) ≡ u *ℤ v
  times_is = rw (d, e) ((product (fitted f) (fitted g) tt tt tt).1)

  pub product_added :
      SFits w64 (Read z +ℤ Read (Read x *ℤ Read y)) × (Read (Read z +ℤ Read (Read x *ℤ Read y)) ≡ z +ℤ u *ℤ v)
  product_added = step ◌+ℤ◌ (rd h tt) times_is (add h (mul (fitted f) (fitted g))) tt

  pub product_taken_off :
      SFits w64 (Read z -ℤ Read (Read x *ℤ Read y)) × (Read (Read z -ℤ Read (Read x *ℤ Read y)) ≡ z -ℤ u *ℤ v)
  product_taken_off = step ◌-ℤ◌ (rd h tt) times_is (sub h (mul (fitted f) (fitted g))) tt

pub summed_none : (coefficients : List ℤ) (shift : ℕ) (x : ℕ → ℤ) → Summed coefficients shift x 0 zero
unfolding sum_to sum_of
summed_none coefficients shift x = record { summed = refl; real = lit (pos 0); imag = lit (pos 0) }

pub summed_next :
    (coefficients : List ℤ) (shift : ℕ) (x : ℕ → ℤ) (n : ℕ) {sums : Phasor} → Summed coefficients shift x n sums → Within 32768 (x n) →
    Summed coefficients shift x (n + 1) (with_sample sums (x n) (cosine coefficients n) (sine coefficients shift n))
unfolding with_sample
summed_next coefficients shift x n h k = record {
  summed =
      ap (λ (s : Phasor). with_sample s (x n) (cosine coefficients n) (sine coefficients shift n)) h.summed ∙ sym (sum_next coefficients shift x n);
  real = grown (cosine coefficients) h.real (mul k (lit (cosine coefficients n)));
  imag = grown (sine coefficients shift) h.imag (neg (mul k (lit (sine coefficients shift n))));
}
  where
    grown :
        (f : ℕ → ℤ) {z y : ℤ} → Within (32768 * weight f n) z → Within (32768 * nat_abs (f n)) y →
        Within (32768 * weight f (n + 1)) (z +ℤ y)
    grown f p q = record { size = omega (arith, (add p q).size, added (λ k. nat_abs (f k)) n) }

-- and from their type alone: a sample adds at most 2 ^ 30 to each sum
pub inside_next :
    (n : ℕ) {sums : Phasor} {x c s : ℤ} → Inside (2 ^ 30 * n) sums → Within 32768 x → Within 32768 c → Within 32768 s →
    Inside (2 ^ 30 * (n + 1)) (with_sample sums x c s)
unfolding with_sample
inside_next n h x c s = record {
  real = record { size = omega (arith, (add h.real (mul x c)).size) };
  imag = record { size = omega (arith, (sub h.imag (mul x s)).size) };
}

-- ---- a whole cycle

-- the sums over a whole cycle
abbrev pub Cycle : Rate → (ℕ → ℤ) → Phasor → Type 0
Cycle rate x sums = Summed rate.cosines rate.shift x (length rate.cosines) sums

-- How a rate keeps its phasors within 42000 of zero: neither weight is above `most`, and 32768 times that, rounded, is at most 42000.
pub record Measures (rate : Rate) (most : ℕ) : Type 0 where
  pub real : weight (cosine rate.cosines) (length rate.cosines) ≤ most
  pub imag : weight (sine rate.cosines rate.shift) (length rate.cosines) ≤ most
  pub above : T (ltb 0 rate.divisor)
  pub small : T (leb ((32768 * most + rate.divisor / 2) / rate.divisor) phasor_size)

pub inside_cycle :
    {rate : Rate} {most : ℕ} {x : ℕ → ℤ} {sums : Phasor} → Measures rate most → Cycle rate x sums → Inside (32768 * most) sums
inside_cycle m h = record {
  real = record { size = omega (arith, h.real.size, m.real) };
  imag = record { size = omega (arith, h.imag.size, m.imag) };
}

-- rounded, they are the phasor
pub rounded_cycle :
    {rate : Rate} {most : ℕ} {x : ℕ → ℤ} {sums : Phasor} → Measures rate most → Cycle rate x sums →
    (rounded rate.divisor sums ≡ phasor_of rate x) × Inside phasor_size (rounded rate.divisor sums)
unfolding phasor_of
rounded_cycle {rate} m h = (
  ap (rounded rate.divisor) h.summed,
  inside_wider (inside_rounded rate.divisor m.above (inside_cycle m h)) m.small,
)

-- each component of a phasor is document 01's one whole number, for a rate with an even divisor
pub phasor_is :
    (rate : Rate) (x : ℕ → ℤ) → T (ltb 0 rate.divisor) → rate.divisor % 2 ≡ 0 →
    Rounded rate.divisor (exact rate x).re (phasor_of rate x).re × Rounded rate.divisor (exact rate x).im (phasor_of rate x).im
unfolding phasor_of
phasor_is rate x t even = rounded_is rate.divisor t even (exact rate x)

-- and near to the sums, whichever way a tie goes
pub phasor_near : (rate : Rate) → T (ltb 0 rate.divisor) → (x : ℕ → ℤ) → NearTo rate.divisor (exact rate x) (phasor_of rate x)
unfolding phasor_of
phasor_near rate t x = rounded_near rate.divisor t (exact rate x)

-- ---- sixteen samples a cycle

pub sixteen_is : (x : ℕ → ℤ) → Rounded 131072 (exact sixteen x).re (phasor_of sixteen x).re × Rounded 131072 (exact sixteen x).im (phasor_of sixteen x).im
sixteen_is x = phasor_is sixteen x tt refl

-- a sample for each frame
pub sixteen_frames : length sixteen.cosines ≡ frames
sixteen_frames = refl

-- 32768 times 164736, rounded by 131072, is 41184
pub sixteen_measures : Measures sixteen 164736
unfolding sum_of
sixteen_measures = record { real = omega arith; imag = omega arith; above = tt; small = tt }

-- what is rounded, and what comes of it
pub sixteen_inside : {x : ℕ → ℤ} {sums : Phasor} → Cycle sixteen x sums → Inside (2 ^ 62) sums
sixteen_inside h = inside_wider (inside_cycle sixteen_measures h) tt

pub sixteen_rounded :
    {x : ℕ → ℤ} {sums r : Phasor} → Cycle sixteen x sums → r ≡ rounded 131072 sums → (r ≡ phasor_of sixteen x) × Inside phasor_size r
sixteen_rounded h e = rw e (rounded_cycle sixteen_measures h)
