-- The root of a natural number, rounded down and rounded up, as document 01's "Percentage differential" uses them:
-- what each means, and the form that computes, from the root of a quarter of the number.
use Rattle.std.specs.Prelude.{Bool, true, false, ℕ, zero, suc, ◌+◌, ◌*◌, ◌/◌, ◌≤◌, ◌<◌, leb}

-- r is the root of n rounded down
pub record IsFloorRoot (n r : ℕ) : Type 0 where
  pub low : r * r ≤ n
  pub high : n < (r + 1) * (r + 1)

-- u is the root of n rounded up: the smallest whole number whose square is at least n
pub record IsRootUp (n u : ℕ) : Type 0 where
  pub enough : n ≤ u * u
  pub least : (v : ℕ) → n ≤ v * v → u ≤ v

-- one is added where the test passed
abbrev pub bump : Bool → ℕ → ℕ
bump true r = r + 1
bump false r = r

-- the root of n from the root r of a quarter of n: doubled, and corrected by one at most
abbrev pub from_quarter : ℕ → ℕ → ℕ
from_quarter n r = bump (leb ((2 * r + 1) * (2 * r + 1)) n) (2 * r)

-- down to zero; the first number only bounds the steps
abbrev pub root_within : ℕ → ℕ → ℕ
root_within zero n = 0
root_within (suc k) n =
    elim n [ zero ↦ 0 | suc j ↦ from_quarter (suc j) (root_within k (suc j / 4)) ]

unfoldable pub floor_root : ℕ → ℕ
floor_root n = root_within n n

-- one more than the root of the number below
unfoldable pub root_up : ℕ → ℕ
root_up zero = 0
root_up (suc n) = suc (floor_root n)
