-- Document 02, CR 1, "the newest 16 frames": what a window holds after frames were fed one after another. As in Window, n is how many frames
-- a window has, and m how many numbers a frame has.
use Rattle.std.specs.Prelude.{ℕ, ◌*◌, ◌-◌, ◌≤◌, min, ◌≡◌, ℤ, length, drop}
use mathlib.Core.List.{List, [], ◌∷◌, flatten}
use Rattle.stream.specs.declared.Window.{Window}
use Rattle.stream.specs.Window.{newest_part, moved_on}
use Rattle.lent.specs.Bytes.{Every}

-- The window after a list of frames, the first fed first.
unfoldable pub after : ℕ → ℕ → Window → List (List ℤ) → Window
after n m w [] = w
after n m w (f ∷ fs) = after n m (moved_on n m w f) fs

-- Every frame has m numbers.
abbrev pub Frames : ℕ → List (List ℤ) → Type 0
Frames m fs = Every (λ (f : List ℤ). length f ≡ m) fs

-- The newest n of the frames fed, in order; all of them where they are fewer.
abbrev pub newest : {A : Type 0} → ℕ → List A → List A
newest n fs = drop (length fs - n) fs

-- What a window remembers of the frames fed since it was empty.
pub record Remembers (n m : ℕ) (fs : List (List ℤ)) (w : Window) : Type 0 where
  -- how many of the newest n there are
  pub counts : w.count ≡ min n (length fs)
  -- its last so many frames are those, one after another
  pub last : drop ((n - min n (length fs)) * m) (newest_part n m w.numbers) ≡ flatten (newest n fs)
  -- from n frames on its n frames are the newest n
  pub all : n ≤ length fs → newest_part n m w.numbers ≡ flatten (newest n fs)
