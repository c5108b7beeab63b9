-- A window out of the state's bytes: how the code reads it.
use Prim.Native.Nat.{ℕ, ◌+◌, ◌*◌, ◌≤◌}
use mathlib.Core.Path.{◌≡◌, sym, ap₂, ◌∙◌}
use mathlib.Core.List.{List}
use native.Mathlib.Omega.{arith}
use lib.IntN.{ℤ}
use lib.ListN.{length, take, drop, get_or, length-drop}
use lib.Seq.{take_all, length-take-le}
use Rattle.samples.specs.Window.{window_length, numbers_of, HoldsNumbers}
use Rattle.samples.specs.Sizes.{count}
use Rattle.samples.proofs.Bytes.{count_all, count_held}
use Rattle.stream.specs.Stored.{number_bytes, stored_length, window_at}

module _ (s : List ℕ) (at : ℕ) (room : at + stored_length ≤ length s) where
  abbrev part : List ℕ
  part = take number_bytes (drop (at + 2) s)

  -- the window's numbers are 336
  pub part_holds : HoldsNumbers (window_length 6) part
  part_holds = length-take-le number_bytes (drop (at + 2) s) (simp (length-drop (at + 2) s) (omega arith))

  all_taken : count part ≡ window_length 6
  all_taken = sym (count_all part (omega (arith, part_holds)) (omega (arith, part_holds))) ∙ omega (arith, part_holds)

  -- what the code has read is the window
  pub read : (k : ℕ) (xs : List ℤ) (n : ℕ) → k ≡ number_bytes → length xs ≡ window_length 6
      → take (count (take k (drop (at + 2) s))) xs ≡ take (count (take k (drop (at + 2) s))) (numbers_of (take k (drop (at + 2) s)))
      → n ≡ get_or s at 0 * 256 + get_or s (at + 1) 0
      → record { numbers = xs; count = n } ≡ window_at s at
  read k xs n whole full taken counts =
      let taken₁ : take (window_length 6) xs ≡ take (window_length 6) (numbers_of part) = rw (whole, all_taken) at taken in
      let same : xs ≡ numbers_of part = sym (take_all (window_length 6) xs (omega arith)) ∙ taken₁ ∙ count_held (window_length 6) part part_holds in
      ap₂ (λ (xs : List ℤ) (n : ℕ). record { numbers = xs; count = n }) same counts
