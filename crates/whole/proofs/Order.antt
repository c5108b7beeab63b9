-- The order of the whole numbers: laws ready to cite.
-- That numerals, squares, and sums and products of what is not negative are not negative: `g_num`, `g_sq`, `⊞`, `⊠` of Certificate.
use mathlib.Core.Path.{◌≡◌}
use mathlib.Core.List.{[], ◌∷◌}
use Prim.Native.Nat.{ℕ, ◌≤◌, ◌<◌}
use native.Mathlib.Omega.{arith}
use lib.Dec.{not_T}
use lib.IntN.{ℤ, pos, ◌*ℤ◌}
use lib.Signed.{◌≤ℤ◌, ◌<ℤ◌, lt_z, lt_z_yes, lt_z_no}
use Rattle.whole.proofs.Difference.{diff, d_atom, d_le, d_lt, d_eq, of_le, of_lt}
use Rattle.whole.proofs.Certificate.{quo, le!, false!, g_le, g_lt, g_num, ◌⊞◌, ◌⊠◌}

pub ≤_trans : {a b c : ℤ} → a ≤ℤ b → b ≤ℤ c → a ≤ℤ c
≤_trans {a} {b} {c} h k = le! (a ∷ b ∷ c ∷ []) (g_le h ⊞ g_le k) (search quo depth 40) tt

pub ≤_antisym : {a b : ℤ} → a ≤ℤ b → b ≤ℤ a → a ≡ b
≤_antisym {a} {b} h k =
    let da = d_atom a in let db = d_atom b in d_eq (search diff) (omega (arith, of_le h (search diff), of_le k (search diff)))

-- by contradiction
pub ≤_unless : (a b : ℤ) → (b <ℤ a → ⊥) → a ≤ℤ b
≤_unless a b f = lt_z_no (not_T (lt_z b a) (λ t. f (lt_z_yes t)))

-- squares in order, with the larger number not negative, have their numbers in order
pub sq_≤ : (t s : ℤ) → pos 0 ≤ℤ s → (t *ℤ t) ≤ℤ (s *ℤ s) → t ≤ℤ s
sq_≤ t s p h =
    ≤_unless t s (λ q. false! (t ∷ s ∷ []) (g_le h ⊞ g_lt q ⊠ (g_lt q ⊞ g_num 2 ⊠ p ⊞ g_num 2) ⊞ g_num 2 ⊠ p) (search quo depth 40) tt)

-- ---- between the natural numbers and the whole numbers

pub le_ℤ : {a b : ℕ} → a ≤ b → pos a ≤ℤ pos b
le_ℤ h = d_le (search diff) (omega arith)

pub lt_ℤ : {a b : ℕ} → a < b → pos a <ℤ pos b
lt_ℤ h = d_lt (search diff) (omega arith)

pub le_ℕ : {a b : ℕ} → pos a ≤ℤ pos b → a ≤ b
le_ℕ h = omega (arith, of_le h (search diff))

pub lt_ℕ : {a b : ℕ} → pos a <ℤ pos b → a < b
lt_ℕ h = omega (arith, of_lt h (search diff))
