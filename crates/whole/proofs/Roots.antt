-- The two roots: each computing form has its meaning, and no second number has it.
use mathlib.Core.Path.{◌≡◌}
use mathlib.Core.Bool.{true, false, not}
use Prim.Native.Nat.{ℕ, zero, suc, ◌+◌, ◌*◌, ◌/◌, ◌≤◌, ◌<◌}
use native.Mathlib.Nat.{le_antisymm, mul-le-mul}
use native.Mathlib.Omega.{arith, by_contra}
use lib.Dec.{T, leb, leb→le, nleb→lt}
use Rattle.whole.specs.Root.{IsFloorRoot, IsRootUp, bump, from_quarter, root_within, floor_root, root_up}

-- squares in order have their numbers in order
pub sq_lt : (a b : ℕ) → a * a < b * b → a < b
sq_lt a b h = by_contra (suc a) b (λ k. let l : b ≤ a = omega arith in omega (arith, mul-le-mul l l))

pub sq_le : (a b : ℕ) → a * a ≤ b * b → a ≤ b
sq_le a b h = by_contra a b (λ k. let l : suc b ≤ a = omega arith in omega (arith, mul-le-mul l l))

-- ---- rounded down

pub floor_root_unique : {n r s : ℕ} → IsFloorRoot n r → IsFloorRoot n s → r ≡ s
floor_root_unique {r = r} {s = s} p q =
    le_antisymm (omega (arith, sq_lt r (s + 1) (omega arith))) (omega (arith, sq_lt s (r + 1) (omega arith)))

-- doubling the root of a quarter loses one at most
from_quarter_is : (n r : ℕ) → IsFloorRoot (n / 4) r → IsFloorRoot n (from_quarter n r)
from_quarter_is n r h =
    let s = (2 * r + 1) * (2 * r + 1) in
    elim (leb s n) as (λ t. (T t → s ≤ n) → (T (not t) → n < s) → IsFloorRoot n (bump t (2 * r)))
    [ true ↦ λ f g. omega (arith, f tt) | false ↦ λ f g. omega (arith, g tt) ] (leb→le s n) (nleb→lt s n)

root_within_is : (k n : ℕ) → n ≤ k → IsFloorRoot n (root_within k n)
root_within_is zero n h = omega arith
root_within_is (suc k) zero h = omega arith
root_within_is (suc k) (suc j) h =
    from_quarter_is (suc j) (root_within k (suc j / 4)) (root_within_is k (suc j / 4) (omega arith))

pub floor_root_is : (n : ℕ) → IsFloorRoot n (floor_root n)
unfolding floor_root
floor_root_is n = root_within_is n n (omega arith)

-- of what is equal to it: its meaning, and how large it is; and what has its meaning is equal to it
module _ {n r : ℕ} where
  pub floor_root_means : r ≡ floor_root n → IsFloorRoot n r
  floor_root_means e = rw e (floor_root_is n)

  pub floor_root_below : r ≡ floor_root n → (b : ℕ) → n < b * b → r < b
  floor_root_below e b h = sq_lt r b (omega (arith, floor_root_means e))

  pub floor_root_only : IsFloorRoot n r → r ≡ floor_root n
  floor_root_only h = floor_root_unique h (floor_root_is n)

-- document 02, CR 3: the root, "from the root of a quarter of the number, doubled and corrected by one at most"
pub floor_root_from_quarter : (n : ℕ) → floor_root n ≡ from_quarter n (floor_root (n / 4))
floor_root_from_quarter n = floor_root_unique (floor_root_is n) (from_quarter_is n (floor_root (n / 4)) (floor_root_is (n / 4)))

-- ---- rounded up

pub root_up_unique : {n u v : ℕ} → IsRootUp n u → IsRootUp n v → u ≡ v
root_up_unique {u = u} {v = v} p q = le_antisymm (p.least v q.enough) (q.least u p.enough)

pub root_up_is : (n : ℕ) → IsRootUp n (root_up n)
unfolding root_up
root_up_is zero = omega arith
root_up_is (suc n) =
    record { enough = omega (arith, floor_root_is n); least = λ v h. sq_lt (floor_root n) v (omega (arith, floor_root_is n)) }
