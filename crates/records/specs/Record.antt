-- Document 02, CR 5: a record of an event file, made and taken apart, "all low byte first". How long it is goes by the width of a channel in
-- bytes, since another edition of the standard brings another.
use Rattle.std.specs.Prelude.{ℕ, ◌+◌, ◌*◌, ◌/◌, ◌%◌, List, [], ◌∷◌, ◌++◌, Bool, ◌&&◌, leb, take, drop, get_or}
use Rattle.samples.specs.Window.{channels}

-- A number of 32 bits: the four bytes from `at` on, the low one first.
unfoldable pub word_at : List ℕ → ℕ → ℕ
word_at b at = get_or b at 0 + 256 * (get_or b (at + 1) 0 + 256 * (get_or b (at + 2) 0 + 256 * get_or b (at + 3) 0))

-- And its four bytes.
abbrev pub four_bytes : ℕ → List ℕ
four_bytes v = v % 256 ∷ v / 256 % 256 ∷ v / 256 / 256 % 256 ∷ v / 256 / 256 / 256 % 256 ∷ []

-- 16-bit numbers with the bytes of each exchanged: a record has the low one first, the relay the high one. An odd byte over is left out.
unfoldable pub swapped : List ℕ → List ℕ
swapped [] = []
swapped (a ∷ []) = []
swapped (a ∷ b ∷ r) = b ∷ a ∷ swapped r

-- What the caller says of a file, and the edition: bytes a channel, ends, status channels.
pub record Shape : Type 0 where
  pub width : ℕ
  pub ends : ℕ
  pub status : ℕ

-- The edition of 1999: "the analog channels as 16-bit two's complement".
abbrev pub narrow : ℕ → ℕ → Shape
narrow ends status = record { width = 2; ends = ends; status = status }

-- Refusal 13: "ends not 2 to 6 or more than 96 status channels".
abbrev pub good_ends : ℕ → Bool
good_ends ends = leb 2 ends && leb ends 6

abbrev pub good_file : ℕ → ℕ → Bool
good_file ends status = good_ends ends && leb status 96

-- "status channels in 16-bit groups": one for each 16 begun.
abbrev pub groups : ℕ → ℕ
groups status = (status + 15) / 16

-- "Each record is a 32-bit sample number, a 32-bit time, the analog channels .., then status channels."
abbrev pub record_length : Shape → ℕ
record_length sh = 8 + sh.width * channels sh.ends + 2 * groups sh.status

-- What a record's bytes say: its sample number, its time, and, with channels of 16 bits, its frame as feed takes it.
abbrev pub number_in : List ℕ → ℕ
number_in g = word_at g 0

abbrev pub time_in : List ℕ → ℕ
time_in g = word_at g 4

abbrev pub frame_in : (ends : ℕ) → List ℕ → List ℕ
frame_in ends g = swapped (take (2 * channels ends) (drop 8 g))

-- "A writer makes records without status channels from frames and times, numbered from 1."
abbrev pub record_of : (number time : ℕ) (frame : List ℕ) → List ℕ
record_of number time frame = (four_bytes number ++ four_bytes time) ++ swapped frame
