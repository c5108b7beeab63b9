-- The fact about one end, folded over the ends of a phase: the restraint against L, and by the triangle inequality the differential against
-- the exact one. Of the restraint demand 3 uses `all_below` and `all_above` alone.
use mathlib.Core.Path.{◌≡◌, ap, ◌∙◌, subst₂}
use Prim.Native.Nat.{ℕ, zero, suc, ◌+◌, ◌*◌, ◌≤◌}
use native.Mathlib.Omega.{arith}
use lib.IntN.{pos}
use Rattle.whole.specs.Sum.{sum_of}
use Rattle.plane.specs.declared.Phasor.{Phasor}
use Rattle.plane.specs.Plane.{NearTo, minus, scaled}
use Rattle.plane.specs.Sizes.{Long}
use Rattle.phasors.specs.Grid.{total}
use Rattle.phasors.proofs.Totals.{long_total, total_scaled, total_minus}
use Rattle.differential.specs.Differential.{restraint}
use Rattle.differential.specs.Demand3.{L, H}
use Rattle.differential.proofs.OneEnd.{Corner, deviation, deviates, end_below, end_above}

sum_const : (c n : ℕ) → sum_of (λ e. c) n ≡ c * n
unfolding sum_of
sum_const c zero = omega arith
sum_const c (suc n) = omega (arith, sum_const c n)

-- the deviation of a sum is the sum of the deviations
deviation_total : (d : ℕ) (x i : ℕ → Phasor) (n : ℕ) → total (λ e. deviation d (x e) (i e)) n ≡ deviation d (total x n) (total i n)
deviation_total d x i n =
    total_scaled (pos 64) (λ e. minus (x e) (scaled (pos d) (i e))) n
    ∙ ap (scaled (pos 64)) (total_minus x (λ e. scaled (pos d) (i e)) n ∙ ap (minus (total x n)) (total_scaled (pos d) i n))

module _ {d c : ℕ} (corner : Corner d c) {x i : ℕ → Phasor} (near : (e : ℕ) → NearTo d (x e) (i e)) where
  pub all_below : (m n : ℕ) → 64 * L m x n ≤ m * (d * restraint i n + c * n)
  unfolding L restraint sum_of
  all_below m zero = omega arith
  all_below m (suc n) = omega (arith, all_below m n, end_below corner (near n) m)

  pub all_above : (m n : ℕ) → m * (d * restraint i n) ≤ 64 * H m x n + m * (c + d) * n
  unfolding L restraint sum_of
  all_above m zero = omega arith
  all_above m (suc n) = omega (arith, all_above m n, end_above corner (near n) m)

  pub all_deviate : (n : ℕ) → Long (deviation d (total x n) (total i n)) (c * n)
  all_deviate n =
      subst₂ Long (deviation_total d x i n) (sum_const c n)
      (long_total (λ e. deviation d (x e) (i e)) (λ e. c) n (λ e. deviates corner (near e)))
