-- Document 01, "Numbers given back": what "the first missing number in frame order, then channel order" means.
use Rattle.std.specs.Prelude.{ℕ, ◌+◌, ◌*◌, ◌<◌, ◌≡◌, List, ℤ, pos, length, get_or, Option, None, Some}
use Rattle.samples.specs.Window.{missing_mark}

-- The number at k is missing.
abbrev pub Missing : List ℤ → ℕ → Type 0
Missing w k = get_or w k (pos 0) ≡ missing_mark

-- None of the first n numbers is missing.
abbrev pub NoneMissing : List ℤ → ℕ → Type 0
NoneMissing w n = (k : ℕ) → k < n → Missing w k → ⊥

-- What a search of a list has to find: the missing number that has none before it, or nothing where none is missing.
abbrev pub Finds : List ℤ → Option ℕ → Type 0
Finds w (Some k) = (k < length w) × Missing w k × NoneMissing w k
Finds w None = NoneMissing w (length w)

-- In frames of m channels: channel c of frame f is missing, none of an earlier frame is, and none of an earlier channel of that frame.
pub record FirstInOrder (m : ℕ) (w : List ℤ) (f c : ℕ) : Type 0 where
  pub in_frame : c < m
  pub there : Missing w (f * m + c)
  pub earlier_frame : (g d : ℕ) → g < f → d < m → Missing w (g * m + d) → ⊥
  pub earlier_channel : (d : ℕ) → d < c → Missing w (f * m + d) → ⊥
