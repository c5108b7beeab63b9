-- How many calls the root of n takes, the first one counted: of zero it is one, of any other number one more than of a quarter of it.
-- That is how deep the calls lie in each other, since each makes at most one.
use mathlib.Core.Path.{◌≡◌, refl, ap}
use Prim.Native.Nat.{ℕ, zero, suc, ◌*◌, ◌/◌, ◌^◌, ◌≤◌, ◌<◌}
use native.Mathlib.Omega.{arith}

-- the first number only bounds the steps
abbrev calls_within : ℕ → ℕ → ℕ
calls_within zero n = 1
calls_within (suc k) n = elim n [ zero ↦ 1 | suc j ↦ suc (calls_within k (suc j / 4)) ]

unfoldable pub calls : ℕ → ℕ
calls n = calls_within n n

same_within : (k l n : ℕ) → n ≤ k → n ≤ l → calls_within k n ≡ calls_within l n
same_within zero zero zero p q = refl
same_within zero (suc l) zero p q = refl
same_within (suc k) zero zero p q = refl
same_within (suc k) (suc l) zero p q = refl
same_within zero zero (suc j) p q = elim p [ ]
same_within zero (suc l) (suc j) p q = elim p [ ]
same_within (suc k) zero (suc j) p q = elim q [ ]
same_within (suc k) (suc l) (suc j) p q = ap suc (same_within k l (suc j / 4) (omega arith) (omega arith))

pub calls_next : (n : ℕ) → 0 < n → calls n ≡ suc (calls (n / 4))
unfolding calls
calls_next zero h = elim h [ ]
calls_next (suc j) h = ap suc (same_within j (suc j / 4) (suc j / 4) (omega arith) (omega arith))

-- below 4 ^ k there are at most k + 1
pub calls_most : (k n : ℕ) → n < 4 ^ k → calls n ≤ suc k
unfolding calls
calls_most zero zero h = omega arith
calls_most zero (suc j) h = omega arith
calls_most (suc k) zero h = omega arith
calls_most (suc k) (suc j) h = rw (calls_next (suc j) (omega arith)) (omega (arith, calls_most k (suc j / 4) (omega arith)))

pub calls_of_64_bits : (n : ℕ) → n < 2 ^ 64 → calls n ≤ 33
calls_of_64_bits n h = calls_most 32 n h

-- the relay's numbers: at most 4096 times the square of a sum over six ends, each part of each within 42000
pub calls_of_the_relay : (n : ℕ) → n ≤ 4096 * (2 * (6 * 42000) ^ 2) → calls n ≤ 26
calls_of_the_relay n h = calls_most 25 n (omega arith)
