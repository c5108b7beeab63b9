-- Rounding by d, proved once over d: the rule of document 01 has exactly one number, `round_by` computes it,
-- and how far off it is follows from `Near` alone.
use mathlib.Core.Path.{◌≡◌, refl}
use mathlib.Core.List.{[], ◌∷◌}
use Prim.Native.Nat.{ℕ, ◌+◌, ◌/◌, ◌%◌, ◌≤◌, ◌<◌}
use native.Mathlib.Nat.{div-add-mod, mod-lt}
use native.Mathlib.Omega.{arith}
use lib.IntN.{ℤ, pos, negsuc, nat_abs, ◌+ℤ◌, ◌-ℤ◌, ◌*ℤ◌}
use lib.Signed.{◌≤ℤ◌, ◌<ℤ◌, quot_z, shr_z}
use Rattle.std.specs.Int.{int_div_euclid}
use Rattle.whole.specs.Sizes.{Within}
use Rattle.whole.specs.Round.{Rounded, Near, round_by}
use Rattle.whole.proofs.Difference.{diff, d_le, d_lt}
use Rattle.whole.proofs.Certificate.{quo, le!, lt!, false!, g_le, g_lt, g_num, ◌⊞◌, ◌⊠◌}
use Rattle.whole.proofs.Order.{≤_antisym, ≤_unless, le_ℤ}
use Rattle.whole.proofs.Size.{abs_of}

-- ---- the quotient rounded down: d times it is at most z, and d times one more is above

pub floor : (z : ℤ) (d : ℕ) → 0 < d → ((pos d *ℤ shr_z z d) ≤ℤ z) × (z <ℤ (pos d *ℤ shr_z z d +ℤ pos d))
floor (pos a) d p =
    let e = div-add-mod a d in let l = mod-lt a p in (d_le (search diff) (omega arith), d_lt (search diff) (omega arith))
floor (negsuc a) d p =
    let e = div-add-mod a d in let l = mod-lt a p in (d_le (search diff) (omega arith), d_lt (search diff) (omega arith))

-- d y is below d z + d only where y is at most z
pub at_most : (d : ℕ) (y z : ℤ) → (pos d *ℤ y) <ℤ (pos d *ℤ z +ℤ pos d) → y ≤ℤ z
at_most d y z h = ≤_unless y z (λ k. false! (pos d ∷ y ∷ z ∷ []) (g_lt h ⊞ g_num d ⊠ g_lt k) (search quo depth 40) tt)

-- ---- the rounded number

-- half of d is added, and the quotient rounded down
pub rounds : (x d : ℤ) → pos 0 <ℤ d → int_div_euclid (x +ℤ quot_z d (pos 2)) d ≡ round_by (nat_abs d) x
unfolding round_by
rounds x (pos n) h = down (x +ℤ pos (n / 2)) n
  where
    down : (z : ℤ) (n : ℕ) → int_div_euclid z (pos n) ≡ shr_z z n
    down (pos a) n = refl
    down (negsuc a) n = refl
rounds x (negsuc n) h = absurd h.lt

-- whatever d is, d times it is near
pub round_near : (d : ℕ) → 0 < d → (A : ℤ) → Near d A (round_by d A)
unfolding round_by
round_near d p A =
    let h = pos (d / 2) in
    let y = shr_z (A +ℤ h) d in
    let half : d ≤ d / 2 + d / 2 + 1 = omega arith in
    record {
      low = le! (pos d ∷ h ∷ A ∷ y ∷ []) (g_le (floor (A +ℤ h) d p).0) (search quo depth 40) tt;
      high = le! (pos d ∷ h ∷ A ∷ y ∷ []) (g_lt (floor (A +ℤ h) d p).1 ⊞ g_le (le_ℤ half)) (search quo depth 40) tt;
    }

-- for an even d it is the number that document 01 asks for
pub round_is : (d : ℕ) → 0 < d → d % 2 ≡ 0 → (A : ℤ) → Rounded d A (round_by d A)
unfolding round_by
round_is d p even A =
    let h = pos (d / 2) in
    let y = shr_z (A +ℤ h) d in
    let half : d ≤ d / 2 + d / 2 = omega arith in
    record {
      low = (round_near d p A).low;
      high = lt! (pos d ∷ h ∷ A ∷ y ∷ []) (g_lt (floor (A +ℤ h) d p).1 ⊞ g_le (le_ℤ half)) (search quo depth 40) tt;
    }

-- and no second number is
pub round_unique : {d : ℕ} {A y z : ℤ} → Rounded d A y → Rounded d A z → y ≡ z
round_unique {d} {A} r t = ≤_antisym (one_way r t) (one_way t r)
  where
    one_way : {y z : ℤ} → Rounded d A y → Rounded d A z → y ≤ℤ z
    one_way {y} {z} r t =
        let half : d / 2 + d / 2 ≤ d = omega arith in
        at_most d y z (lt! (pos d ∷ pos (d / 2) ∷ A ∷ y ∷ z ∷ []) (g_le r.low ⊞ g_lt t.high ⊞ g_le (le_ℤ half)) (search quo depth 40) tt)

-- ---- what `Near` alone tells

-- A is at most half of d away from d y
pub round_error : {d : ℕ} {A y : ℤ} → Near d A y → Within (d / 2) (A -ℤ pos d *ℤ y)
round_error {d} {A} {y} n =
    abs_of
    (le! (pos d ∷ pos (d / 2) ∷ A ∷ y ∷ []) (g_le n.low) (search quo depth 40) tt)
    (le! (pos d ∷ pos (d / 2) ∷ A ∷ y ∷ []) (g_le n.high) (search quo depth 40) tt)
