-- Sums of natural numbers: one more term.
use mathlib.Core.Path.{◌≡◌}
use Prim.Native.Nat.{ℕ, ◌+◌}
use native.Mathlib.Numerals.{add-one}
use Rattle.whole.specs.Sum.{sum_of}

pub sum_next : (f : ℕ → ℕ) (n : ℕ) → sum_of f (n + 1) ≡ sum_of f n + f n
unfolding sum_of
sum_next f n = rw (add-one n)
