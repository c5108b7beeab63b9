-- Document 02, CR 1, "The relay's state gains a window": it lies there as its count and behind that its 336 numbers, all 16-bit big-endian.
use Rattle.std.specs.Prelude.{ℕ, ◌+◌, ◌*◌, ◌/◌, ◌%◌, ◌<◌, ◌≡◌, List, [], ◌∷◌, ◌++◌, ℤ, pos, negsuc, length, take, drop, get_or}
use Rattle.whole.specs.TwosComplement.{unsigned}
use Rattle.lent.specs.Lent.{over}
use Rattle.lent.specs.Bytes.{Every}
use Rattle.samples.specs.Window.{window_length, numbers_of}
use Rattle.stream.specs.declared.Window.{Window}
use Rattle.stream.specs.Window.{moved_on}

-- The bytes of a window's numbers, and those of the whole window.
abbrev pub number_bytes : ℕ
number_bytes = 2 * window_length 6

abbrev pub stored_length : ℕ
stored_length = 2 + number_bytes

-- A number from 0 to 65535 as two bytes, the high one first.
abbrev pub word : ℕ → List ℕ
word v = v / 256 ∷ v % 256 ∷ []

-- The bytes of signed numbers, two each: what `numbers_of` reads.
unfoldable pub bytes_of : List ℤ → List ℕ
bytes_of [] = []
bytes_of (x ∷ xs) = word (unsigned x) ++ bytes_of xs

-- A window as bytes.
abbrev pub stored : Window → List ℕ
stored w = word w.count ++ bytes_of w.numbers

-- Its count and its first k numbers as bytes.
abbrev pub stored_first : ℕ → Window → List ℕ
stored_first k w = word w.count ++ bytes_of (take k w.numbers)

-- The window that lies in a state from `at` on.
abbrev pub window_at : List ℕ → ℕ → Window
window_at state at = record { numbers = numbers_of (take number_bytes (drop (at + 2) state)); count = get_or state at 0 * 256 + get_or state (at + 1) 0 }

-- A state in which a frame was kept: the count and the n frames are those of the window moved on, and nothing else has changed.
abbrev pub kept : ℕ → ℕ → ℕ → List ℕ → List ℤ → List ℕ
kept n m at state frame = over state at (stored_first (n * m) (moved_on n m (window_at state at) frame))

-- A signed number of 16 bits: -32768 to 32767.
abbrev pub Sample : ℤ → Type 0
Sample (pos n) = n < 32768
Sample (negsuc n) = n < 32768

-- A window as a struct holds it: 336 numbers of 16 bits, and a count of 16 bits.
pub record Sound (w : Window) : Type 0 where
  pub full : length w.numbers ≡ window_length 6
  pub samples : Every Sample w.numbers
  pub counts : w.count < 65536
