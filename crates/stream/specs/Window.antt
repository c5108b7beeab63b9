-- Document 02, CR 1: "a window of 336 numbers with a count of frames", and how it is "moved on by one frame". Here n is how many frames a
-- window has, 16 for now, and m how many numbers a frame has.
use Rattle.std.specs.Prelude.{ℕ, ◌+◌, ◌*◌, ◌≤◌, ◌<◌, min, List, ◌++◌, ℤ, pos, take, drop, replicate}
use Rattle.samples.specs.Window.{window_length}
use Rattle.stream.specs.declared.Window.{Window}

-- The n frames, the oldest first: "the newest 16 frames".
abbrev pub newest_part : ℕ → ℕ → List ℤ → List ℤ
newest_part n m xs = take (n * m) xs

-- The numbers behind them, which a line of fewer ends does not use.
abbrev pub behind : ℕ → ℕ → List ℤ → List ℤ
behind n m xs = drop (n * m) xs

-- The new frame stands last, the oldest frame is gone, and the numbers behind stay.
abbrev pub shifted : ℕ → ℕ → List ℤ → List ℤ → List ℤ
shifted n m xs frame = drop m (newest_part n m xs ++ frame) ++ behind n m xs

-- One frame more, at most n; "a count above 16 reads as 16".
abbrev pub counted : ℕ → ℕ → ℕ
counted n count = min n (min n count + 1)

-- "moved on by one frame"
abbrev pub moved_on : ℕ → ℕ → Window → List ℤ → Window
moved_on n m w frame = record { numbers = shifted n m w.numbers frame; count = counted n w.count }

-- A window with no frame: "A confirmation answered 0 empties it".
abbrev pub none : Window
none = record { numbers = replicate (window_length 6) (pos 0); count = 0 }

-- The window has room for n frames of m numbers, and its count of 16 bits for n.
abbrev pub HasRoom : ℕ → ℕ → Type 0
HasRoom n m = (n < 65536) × (n * m ≤ window_length 6)
