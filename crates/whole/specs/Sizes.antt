-- How large a number gets: the one way in which a contract bounds a signed number. A reader of the rules can pass this file by.
use Rattle.std.specs.Prelude.{ℕ, ◌≤◌, ℤ, nat_abs}

-- z lies within b of zero
pub record Within (b : ℕ) (z : ℤ) : Type 0 where
  pub size : nat_abs z ≤ b
