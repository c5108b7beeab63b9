-- Demand 3, both halves. At the board: the triangle inequality moves the differential by at most the corner c for each end, and the
-- restraint by as much and a sixty-fourth for the root; the slope takes at most the whole of the restraint, since K is at most 100. So the
-- band must hold 2c and d, in sixty-fourths: 46 + 46 + 1 of the 96 that one and a half counts have.
use mathlib.Core.Path.{sym}
use mathlib.Core.List.{[], ◌∷◌}
use Prim.Native.Nat.{ℕ, suc, ◌+◌, ◌*◌, ◌≤◌, ◌<◌}
use native.Mathlib.Omega.{arith, by_contra}
use native.Mathlib.Nat.{mul-le-mul}
use lib.IntN.{pos, ◌*ℤ◌}
use lib.Signed.{◌≤ℤ◌, ◌<ℤ◌}
use Rattle.whole.proofs.Certificate.{quo, le!, lt!, false!, g_le, g_lt, g_num, g_sq, ◌⊞◌, ◌⊠◌}
use Rattle.whole.proofs.Roots.{sq_lt}
use Rattle.whole.proofs.Order.{le_ℤ, lt_ℤ, le_ℕ, lt_ℕ}
use Rattle.plane.proofs.Triangle.{len_add, len_neg, len_scale, len_root}
use Rattle.plane.specs.declared.Phasor.{Phasor}
use Rattle.plane.specs.Plane.{NearTo, minus, scaled, dot, squared}
use Rattle.plane.specs.Sizes.{Long}
use Rattle.plane.proofs.Laws.{squared_magnitude_is}
use Rattle.phasors.specs.Grid.{total}
use Rattle.differential.specs.Differential.{square, restraint, comparison}
use Rattle.differential.specs.Demand3.{L, H, F, FirstHalf, SecondHalf, Whenever}
use Rattle.differential.proofs.Rule.{operates_rule}
use Rattle.differential.proofs.OneEnd.{Corner, exact_low, exact_high}
use Rattle.differential.proofs.AllEnds.{all_below, all_above, all_deviate}

-- a band w, in counts times d: it holds the corner twice, and a sixty-fourth
pub record Room (d c w : ℕ) : Type 0 where
  pub corner : Corner d c
  pub room : 2 * c + d < 64 * w

module _ {d c : ℕ} (corner : Corner d c) {x i : ℕ → Phasor} (near : (e : ℕ) → NearTo d (x e) (i e)) (m K U n : ℕ) where
  -- a differential above the slope, whatever U is: the exact one is above too, but for c an end
  above_slope : 1 ≤ m → 1 ≤ d → K * U * (K * U) < 40960000 * square i n → m * (d * (K * U)) < 100 * (64 * (F m x n + 1) + m * (c * n))
  unfolding square scaled minus dot
  above_slope m1 d1 op =
      let S = total i n in
      let T = total x n in
      let R = 64 * (F m x n + 1) + m * (c * n) in
      let md : 1 ≤ m * d = mul-le-mul m1 d1 in
      let one = g_le (le_ℤ md) in
      let over : (pos (K * U) *ℤ pos (K * U)) <ℤ (pos 40960000 *ℤ squared S) = rw (sym (squared_magnitude_is S)) (lt_ℤ op) in
      let back = len_add (len_scale (pos 64) (g_num 64) (exact_high m T)) (len_neg (len_scale (pos m) (g_num m) (all_deviate corner near n))) in
      sq_lt (m * (d * (K * U))) (100 * R)
      (lt_ℕ
      (lt! (pos R ∷ pos m ∷ pos d ∷ pos K ∷ pos U ∷ S.re ∷ S.im ∷ T.re ∷ T.im ∷ [])
      (g_num 10000 ⊠ g_le back.square ⊞ g_sq (pos (m * d)) ⊠ g_lt over ⊞ one ⊠ (one ⊞ g_num 2)) (search quo depth 40 fits 4000) tt))

  -- a differential not above the slope: nor is the exact one, but for c an end
  below_slope : 40960000 * square i n ≤ K * U * (K * U) → 64 * (100 * F m x n) ≤ m * d * (K * U) + 100 * m * (c * n)
  unfolding square scaled minus dot
  below_slope op =
      let S = total i n in
      let T = total x n in
      let f = F m x n in
      let under : (pos 40960000 *ℤ squared S) ≤ℤ (pos (K * U) *ℤ pos (K * U)) = rw (sym (squared_magnitude_is S)) (le_ℤ op) in
      let grid : Long (scaled (pos 6400) S) (K * U) = record {
        nonneg = g_num (K * U);
        square = le! (pos K ∷ pos U ∷ S.re ∷ S.im ∷ []) (g_le under) (search quo depth 40) tt;
      } in
      let back = len_add (len_scale (pos (m * d)) (g_num (m * d)) grid) (len_scale (pos (100 * m)) (g_num (100 * m)) (all_deviate corner near n)) in
      le_ℕ
      (len_root (pos (64 * (100 * f))) back
      (le! (pos f ∷ pos m ∷ pos d ∷ pos c ∷ pos n ∷ pos K ∷ pos U ∷ S.re ∷ S.im ∷ T.re ∷ T.im ∷ [])
      (g_num 40960000 ⊠ g_le (exact_low m T)) (search quo depth 40 fits 2000) tt))

-- ---- what is left is arithmetic of whole numbers; g is F + 1, and h is H

within_band :
    (d c w m K n U l g : ℕ) → 2 * c + d < 64 * w → K ≤ 100 → 64 * l ≤ m * (d * U + c * n) →
    m * (d * (K * U)) < 100 * (64 * g + m * (c * n)) → K * l < 100 * (g + w * n * m)
within_band d c w m K n U l g room k1 below large =
    let sixty-four-times : 64 * (K * l) < 64 * (100 * (g + w * n * m)) =
    lt_ℕ
    (lt! (pos d ∷ pos c ∷ pos w ∷ pos m ∷ pos K ∷ pos n ∷ pos U ∷ pos l ∷ pos g ∷ [])
    (g_lt (lt_ℤ large) ⊞ g_num K ⊠ g_le (le_ℤ below) ⊞ g_le (le_ℤ k1) ⊠ g_num (m * c * n) ⊞ g_num (100 * n * m) ⊠ (g_lt (lt_ℤ room) ⊞ g_num d ⊞ g_num 1))
    (search quo depth 40 fits 2000) tt) in
    omega arith

past_band :
    (d c w m K n U f h : ℕ) → 2 * c + d < 64 * w → K ≤ 100 → 1 ≤ m * n → m * (d * U) ≤ 64 * h + m * (c + d) * n →
    64 * (100 * f) ≤ m * d * (K * U) + 100 * m * (c * n) → K * h + 100 * w * n * m ≤ 100 * f → ⊥
past_band d c w m K n U f h room k1 some above top past =
    false! (pos d ∷ pos c ∷ pos w ∷ pos m ∷ pos K ∷ pos n ∷ pos U ∷ pos f ∷ pos h ∷ [])
    (g_num 64 ⊠ g_le (le_ℤ past) ⊞ g_le (le_ℤ top) ⊞ g_num K ⊠ g_le (le_ℤ above) ⊞ g_le (le_ℤ k1) ⊠ g_num (m * n * (c + d))
    ⊞ g_num (100 * n * m) ⊠ g_lt (lt_ℤ room) ⊞ g_num 100 ⊠ g_le (le_ℤ some) ⊞ g_num 99) (search quo depth 40 fits 2000) tt

-- ---- the two halves, for every band with room

pub first_half : {d c w : ℕ} → Room d c w → 1 ≤ d → Whenever d (FirstHalf w)
first_half {d} {c} {w} r d1 x i near K pickup n k1 n1 e m m1 =
    within_band d c w m K n (restraint i n) (L m x n) (F m x n + 1) r.room k1 (all_below r.corner near m n)
    (above_slope r.corner near m K (restraint i n) n m1 d1 ((operates_rule K pickup (comparison i n)).0 e).1)

pub second_half : {d c w : ℕ} → Room d c w → Whenever d (SecondHalf w)
second_half {d} {c} {w} r x i near K pickup n k1 n1 over m m1 past =
    let restrained = K * restraint i n * (K * restraint i n) in
    let s = 40960000 * square i n in
    (operates_rule K pickup (comparison i n)).1 (over, by_contra (suc restrained) s (λ not. beyond (omega arith)))
  where
    beyond : 40960000 * square i n ≤ K * restraint i n * (K * restraint i n) → ⊥
    beyond op =
        past_band d c w m K n (restraint i n) (F m x n) (H m x n) r.room k1 (mul-le-mul m1 n1) (all_above r.corner near m n)
        (below_slope r.corner near m K (restraint i n) n op) past
