-- Vectors of two whole numbers and bounds on their length: Cauchy's inequality, and the triangle's.
use mathlib.Core.List.{[], ◌∷◌}
use lib.IntN.{ℤ, pos, neg_ℤ, ◌+ℤ◌, ◌-ℤ◌, ◌*ℤ◌}
use lib.Signed.{◌≤ℤ◌, le_z_yes}
use Rattle.plane.specs.Sizes.{Len}
use Rattle.whole.proofs.Certificate.{quo, le!, g_le, g_num, g_sq, ◌⊞◌, ◌⊠◌}
use Rattle.whole.proofs.Order.{≤_trans, sq_≤}

-- a scalar product is at most the product of the lengths
pub cauchy : {x y z w a b : ℤ} → Len x y a → Len z w b → (x *ℤ z +ℤ y *ℤ w) ≤ℤ (a *ℤ b)
cauchy {x} {y} {z} {w} {a} {b} h k =
    sq_≤ (x *ℤ z +ℤ y *ℤ w) (a *ℤ b) (h.nonneg ⊠ k.nonneg)
    (le! (x ∷ y ∷ z ∷ w ∷ a ∷ b ∷ []) (g_le h.square ⊠ g_sq b ⊞ (g_sq x ⊞ g_sq y) ⊠ g_le k.square ⊞ g_sq (x *ℤ w -ℤ y *ℤ z)) (search quo depth 40) tt)

-- a sum is at most as long as the lengths together
pub len_add : {x y z w a b : ℤ} → Len x y a → Len z w b → Len (x +ℤ z) (y +ℤ w) (a +ℤ b)
len_add {x} {y} {z} {w} {a} {b} h k =
    record {
      nonneg = h.nonneg ⊞ k.nonneg;
      square = le! (x ∷ y ∷ z ∷ w ∷ a ∷ b ∷ []) (g_le h.square ⊞ g_le k.square ⊞ g_num 2 ⊠ g_le (cauchy h k)) (search quo depth 40) tt;
    }

pub len_scale : {x y a : ℤ} (k : ℤ) → pos 0 ≤ℤ k → Len x y a → Len (k *ℤ x) (k *ℤ y) (k *ℤ a)
len_scale {x} {y} {a} k p h =
    record {
      nonneg = p ⊠ h.nonneg;
      square = le! (x ∷ y ∷ a ∷ k ∷ []) (g_sq k ⊠ g_le h.square) (search quo depth 40) tt;
    }

pub len_neg : {x y a : ℤ} → Len x y a → Len (neg_ℤ x) (neg_ℤ y) a
len_neg {x} {y} {a} h =
    record { nonneg = h.nonneg; square = le! (x ∷ y ∷ a ∷ []) (g_le h.square) (search quo depth 40) tt }

-- a number whose square is at most the vector's is at most the bound
pub len_root : {x y a : ℤ} (t : ℤ) → Len x y a → (t *ℤ t) ≤ℤ (x *ℤ x +ℤ y *ℤ y) → t ≤ℤ a
len_root {a = a} t h k = sq_≤ t a h.nonneg (≤_trans k h.square)

-- nothing has no length
pub len_zero : Len (pos 0) (pos 0) (pos 0)
len_zero = record { nonneg = le_z_yes tt; square = le_z_yes tt }
