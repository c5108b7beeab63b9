-- A channel of zeros has the phasor 0, and a phase without currents the sum 0.
use mathlib.Core.Path.{◌≡◌, refl, ap, ◌∙◌}
use mathlib.Core.List.{[], ◌∷◌}
use Prim.Native.Nat.{ℕ, zero, suc}
use lib.Dec.{T, ltb}
use lib.IntN.{ℤ, pos}
use lib.ListN.{length}
use Rattle.whole.proofs.Certificate.{quo, ring! }
use Rattle.plane.specs.declared.Phasor.{Phasor}
use Rattle.plane.specs.Plane as plane
use Rattle.plane.proofs.Laws.{rounded_zero}
use Rattle.plane.proofs.Made.{pair}
use Rattle.phasors.specs.Rate.{Rate, cosine, sine}
use Rattle.phasors.specs.Sums.{with_sample, sum_to, phasor_of}
use Rattle.phasors.specs.Grid.{total}

-- a sample of 0 adds nothing
nothing_more : (c s : ℤ) → with_sample plane.zero (pos 0) c s ≡ plane.zero
unfolding with_sample
nothing_more c s = pair (ring! (c ∷ []) (search quo depth 40) tt) (ring! (s ∷ []) (search quo depth 40) tt)

module _ (rate : Rate) (x : ℕ → ℤ) (still : (k : ℕ) → x k ≡ pos 0) where
  sum_zero : (n : ℕ) → sum_to rate.cosines rate.shift x n ≡ plane.zero
  unfolding sum_to
  sum_zero zero = refl
  sum_zero (suc n) =
      let c = cosine rate.cosines n in
      let s = sine rate.cosines rate.shift n in
      (λ i. with_sample (sum_zero n i) (still n i) c s) ∙ nothing_more c s

  pub phasor_zero : T (ltb 0 rate.divisor) → phasor_of rate x ≡ plane.zero
  unfolding phasor_of
  phasor_zero t = ap (plane.rounded rate.divisor) (sum_zero (length rate.cosines)) ∙ rounded_zero rate.divisor t

pub total_zero : (f : ℕ → Phasor) (n : ℕ) → ((k : ℕ) → f k ≡ plane.zero) → total f n ≡ plane.zero
unfolding total plane.plus
total_zero f zero h = refl
total_zero f (suc n) h = λ i. plane.plus (total_zero f n h i) (h n i)
