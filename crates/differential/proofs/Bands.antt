-- Which bands have room: one and a half times any even divisor, and at sixteen samples a cycle the smallest that the argument gives.
use mathlib.Core.Path.{◌≡◌, refl}
use Prim.Native.Nat.{ℕ, ◌*◌, ◌/◌, ◌%◌, ◌≤◌, ◌<◌}
use native.Mathlib.Nat.{mul-le-mul}
use native.Mathlib.Omega.{arith, by_contra}
use lib.Dec.{T, ltb, ltb→lt}
use Rattle.phasors.specs.Rate.{Rate, sixteen}
use Rattle.phasors.proofs.Weights.{phasor_near}
use Rattle.differential.specs.Demand3.{FirstHalf, SecondHalf, OfWindows, one_and_a_half, FirstAtSixteen, SecondAtSixteen}
use Rattle.differential.proofs.Demand3.{Room, first_half, second_half}

-- of the sixty-fourths of a count 46 will do for the corner, which is 45.3 of them: with the one for the root it is 93, and one and a half
-- counts have 96
pub forty_six : (d : ℕ) {w : ℕ} → d % 2 ≡ 0 → 93 * d < 64 * w → Room d (46 * d) w
forty_six d even less = record { corner = record { reaches = by_half (d / 2) (omega arith) }; room = omega arith }
  where
    by_half : (h : ℕ) → d ≡ 2 * h → 8192 * (h * h) ≤ 46 * d * (46 * d)
    by_half h e = rw e (omega arith)

-- ---- demand 3 at any rate, with any band that has room

module _ (rate : Rate) (above : T (ltb 0 rate.divisor)) {c b : ℕ} (r : Room rate.divisor c b) where
  pub first_at : OfWindows rate (FirstHalf b)
  first_at w ends p K pickup = first_half r (ltb→lt 0 rate.divisor above) _ _ (λ e. phasor_near rate above _) K pickup ends

  pub second_at : OfWindows rate (SecondHalf b)
  second_at w ends p K pickup = second_half r _ _ (λ e. phasor_near rate above _) K pickup ends

-- one and a half counts, for an even divisor
module _ (rate : Rate) (above : T (ltb 0 rate.divisor)) (even : rate.divisor % 2 ≡ 0) where
  room : 93 * rate.divisor < 64 * one_and_a_half rate.divisor
  room = omega (arith, ltb→lt 0 rate.divisor above)

  pub first_at_any_rate : OfWindows rate (FirstHalf (one_and_a_half rate.divisor))
  first_at_any_rate = first_at rate above (forty_six rate.divisor even room)

  pub second_at_any_rate : OfWindows rate (SecondHalf (one_and_a_half rate.divisor))
  second_at_any_rate = second_at rate above (forty_six rate.divisor even room)

-- and in document 01's numbers: "196608 is one and a half times 131072"
one_and_a_half_lem : one_and_a_half sixteen.divisor ≡ 196608
one_and_a_half_lem = refl

pub first_at_sixteen : FirstAtSixteen
first_at_sixteen = first_at sixteen tt (forty_six 131072 refl (omega arith))

pub second_at_sixteen : SecondAtSixteen
second_at_sixteen = second_at sixteen tt (forty_six 131072 {w = 196608} refl (omega arith))

-- ---- how much of the band the argument uses

-- a band of 187412 will do in place of 196608
pub smallest_band : Room 131072 5931642 187412
smallest_band = record { corner = record { reaches = omega arith }; room = omega arith }

pub smallest_first : OfWindows sixteen (FirstHalf 187412)
smallest_first = first_at sixteen tt smallest_band

pub smallest_second : OfWindows sixteen (SecondHalf 187412)
smallest_second = second_at sixteen tt smallest_band

-- and none below it has room
pub no_smaller_band : (c w : ℕ) → Room 131072 c w → 187412 ≤ w
no_smaller_band c w r =
    let long : 5931642 ≤ c = by_contra 5931642 c (λ k. let short : c ≤ 5931641 = omega arith in omega (arith, mul-le-mul short short, r.corner.reaches)) in
    omega (arith, r.room)
