-- What a function of this crate leaves in the buffer that it is lent.
use Rattle.std.specs.Prelude.{ℕ, ◌+◌, ◌≡◌, ◌≤◌, List, length, take}
use Rattle.lent.specs.Lent.{over}

-- A text written over `out` from `at` on: where it ends, and the buffer after that. Every byte before and behind the text stays.
pub record Written (out : List ℕ) (at : ℕ) (text : List ℕ) (end : ℕ) (after : List ℕ) : Type 0 where
  pub ends : end ≡ at + length text
  pub buffer : after ≡ over out at text
  -- The end lies inside the buffer. This follows where there is room; it is stated for callers, who read up to it.
  pub inside : (end ≤ length after) × (end ≡ length (take end after))

-- So one result is left: no second end and no second buffer meet it.
abbrev pub OneWritten : Type 0
OneWritten =
    (out : List ℕ) (at : ℕ) (text : List ℕ) (end end' : ℕ) (after after' : List ℕ)
    → Written out at text end after → Written out at text end' after' → (end ≡ end') × (after ≡ after')
