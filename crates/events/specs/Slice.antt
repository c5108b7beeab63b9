-- Document 02, CR 5: how a reader lies in a lent slice of one fixed length, and what each call leaves there. Any bytes are a defined reader.
use Rattle.std.specs.Prelude.{ℕ, ◌+◌, ◌*◌, ◌≡◌, List, [], ◌∷◌, ◌++◌, Bool, true, false, cond, not, ◌&&◌, eqb, leb, ltb, length, take, drop, set, get_or, replicate, Result, Ok, Err}
use Rattle.answers.specs.declared.Refusal.{Refusal}
use Rattle.answers.specs.declared.Refusal.TheVariants as refused
use Rattle.answers.specs.Answers.{Answer}
use Rattle.lent.specs.Lent.{over}
use Rattle.samples.specs.Window.{channels}
use Rattle.records.specs.Record.{Shape, word_at, good_file, narrow, record_length, frame_in}
use Rattle.files.specs.Reader.{Ending, BadFile, OtherNumber, InsideRecord, refusal_of, Reader, Ended, Reading, opened, wanted, Outcome, Stopped, More, Whole, outcome, read_outcome, refusal, end_answer}
use Rattle.events.specs.declared.Step.{Step}
use Rattle.events.specs.declared.Step.TheVariants as step

-- | bytes | what |
-- | 0 | ends |
-- | 1 | status channels |
-- | 2 | what ended the reading: 0, 11 or 12 |
-- | 3 | how many bytes of the record being read are in hand |
-- | 4 to 7 | its index, low byte first |
-- | 8 to 11 | the time of the last whole record, high byte first |
-- | 12 to 53 | its frame, numbers with the high byte first |
-- | 56 on | the bytes in hand |
abbrev pub reader_length : ℕ
reader_length = 160

abbrev pub ended_at : ℕ
ended_at = 2

abbrev pub held_at : ℕ
held_at = 3

abbrev pub index_at : ℕ
index_at = 4

abbrev pub time_at : ℕ
time_at = 8

abbrev pub frame_at : ℕ
frame_at = 12

abbrev pub hand_at : ℕ
hand_at = 56

abbrev pub ends_in : List ℕ → ℕ
ends_in s = get_or s 0 0

abbrev pub status_in : List ℕ → ℕ
status_in s = get_or s 1 0

abbrev pub ended_in : List ℕ → ℕ
ended_in s = get_or s ended_at 0

abbrev pub held_in : List ℕ → ℕ
held_in s = get_or s held_at 0

abbrev pub index_in : List ℕ → ℕ
index_in s = word_at s index_at

abbrev pub shape_in : List ℕ → Shape
shape_in s = narrow (ends_in s) (status_in s)

abbrev pub hand_in : List ℕ → List ℕ
hand_in s = take (held_in s) (drop hand_at s)

-- A reading that has not ended: a good file, and fewer bytes in hand than a record has.
unfoldable pub is_reading : List ℕ → Bool
is_reading s = eqb (ended_in s) 0 && (good_file (ends_in s) (status_in s) && ltb (held_in s) (record_length (shape_in s)))

-- Ended by 12 or 11 where byte 2 says so. What is neither that nor a reading was never opened, as a slice of zero bytes: 13.
abbrev pub ended_by : ℕ → ℕ → Ending
ended_by ended index = cond (eqb ended 12) (OtherNumber index) (cond (eqb ended 11) (InsideRecord index) BadFile)

unfoldable pub reader_of : List ℕ → Reader
reader_of s = cond (is_reading s) (Reading (shape_in s) (index_in s) (hand_in s)) (Ended (ended_by (ended_in s) (index_in s)))

-- What the code takes from the slice of a reading that has not ended: the ends, and of the record being read its length, its index, and how
-- many of its bytes are in hand; and of one that has ended the refusal.
pub record HoldsReading (s : List ℕ) (ends long index held : ℕ) : Type 0 where
  pub reading : is_reading s ≡ true
  pub its_ends : ends ≡ ends_in s
  pub its_length : long ≡ record_length (shape_in s)
  pub its_index : index ≡ index_in s
  pub its_held : held ≡ held_in s

pub record HasEnded (s : List ℕ) (e : Refusal) : Type 0 where
  pub reading : is_reading s ≡ false
  pub refusal : Err e ≡ refusal (reader_of s)

-- Refusal 17: a reader slice of another length, before all others. Nothing changes then.
abbrev pub is_reader : List ℕ → Bool
is_reader s = eqb (length s) reader_length

-- Open: what the caller says of the file, and zeros. Zeros alone where it cannot be.
abbrev pub opened_bytes : (ends status : ℕ) → List ℕ
opened_bytes ends status = cond (good_file ends status) (ends ∷ status ∷ replicate 158 0) (replicate reader_length 0)

pub record Opened (ends status : ℕ) (s : List ℕ) (a : Answer) (left : List ℕ) : Type 0 where
  pub answer : a ≡ cond (is_reader s) (refusal (opened (narrow ends status))) (Err refused.NoRelay)
  pub reader : left ≡ cond (is_reader s) (opened_bytes ends status) s

-- How many bytes are wanted: a count, and no answer.
abbrev pub wanted_in : List ℕ → ℕ
wanted_in s = cond (is_reader s) (wanted (reader_of s)) 0

-- End: inside a record, byte 2 says so from now on.
abbrev pub end_left : List ℕ → List ℕ
end_left s = cond (is_reading s && not (eqb (held_in s) 0)) (set s ended_at 11) s

pub record AtEnd (s : List ℕ) (a : Answer) (left : List ℕ) : Type 0 where
  pub answer : a ≡ cond (is_reader s) (end_answer (reader_of s)) (Err refused.NoRelay)
  pub reader : left ≡ cond (is_reader s) (end_left s) s

-- Read. After a whole record g: none of the next one in hand, whose index is this one's number; its time with the high byte first; and its frame.
abbrev pub front_of : List ℕ → List ℕ
front_of g =
    0 ∷ get_or g 0 0 ∷ get_or g 1 0 ∷ get_or g 2 0 ∷ get_or g 3 0
    ∷ get_or g 7 0 ∷ get_or g 6 0 ∷ get_or g 5 0 ∷ get_or g 4 0 ∷ []

abbrev pub finished : (ends : ℕ) (g s : List ℕ) → List ℕ
finished ends g s = over (over s held_at (front_of g)) frame_at (frame_in ends g)

-- By what a piece comes to; s has the piece behind the bytes in hand, which are now so many.
abbrev pub left_by : Outcome → (have : ℕ) → List ℕ → List ℕ
left_by (Stopped e) have s = set s ended_at 12
left_by More have s = set s held_at have
left_by (Whole sh g) have s = finished sh.ends g s

abbrev pub taken_outcome : (s piece : List ℕ) → Outcome
taken_outcome s piece = outcome (shape_in s) (index_in s) (hand_in s ++ piece)

abbrev pub taken_left : (s piece : List ℕ) → List ℕ
taken_left s piece = left_by (taken_outcome s piece) (held_in s + length piece) (over s (hand_at + held_in s) piece)

-- As many bytes are taken as are wanted, no more; a reading that has ended stays as it is.
abbrev pub read_left : (s piece : List ℕ) → List ℕ
read_left s piece = cond (is_reading s) (taken_left s (take (wanted (reader_of s)) piece)) s

-- What `read` tells before a whole record's frame is fed.
abbrev pub told : Outcome → Result Step Refusal
told (Stopped e) = Err (refusal_of e)
told More = Ok step.Taken
told (Whole sh g) = Ok step.Whole

pub record Read (s piece : List ℕ) (r : Result Step Refusal) (left : List ℕ) : Type 0 where
  pub step : r ≡ told (read_outcome (reader_of s) piece)
  pub reader : left ≡ read_left s piece

-- A piece that is wanted to its end, taken by a reading that has not ended.
pub record TookIn (s piece : List ℕ) (r : Result Step Refusal) (left : List ℕ) : Type 0 where
  pub step : r ≡ told (taken_outcome s piece)
  pub reader : left ≡ taken_left s piece

-- The test of the number, on the slice with so many bytes in hand.
abbrev pub wrong_in : List ℕ → ℕ → ℕ → Bool
wrong_in s have index = leb 4 have && not (eqb (word_at s hand_at) (index + 1))

-- What the record being read comes to, asked of the slice alone: its length, its index and how many of its bytes are in hand.
pub record Settled (ends long index have : ℕ) (s : List ℕ) (r : Result Step Refusal) (left : List ℕ) : Type 0 where
  pub step : r ≡ cond (wrong_in s have index) (Err (refused.OtherNumber index)) (cond (ltb have long) (Ok step.Taken) (Ok step.Whole))
  pub reader : left ≡ cond (wrong_in s have index) (set s ended_at 12) (cond (ltb have long) (set s held_at have) (finished ends (drop hand_at s) s))

-- What the slice shows of the last whole record: its time, 32 bits with the high byte first, and its frame as feed takes it.
abbrev pub time_shown : List ℕ → ℕ
time_shown s = get_or s (time_at + 3) 0 + 256 * (get_or s (time_at + 2) 0 + 256 * (get_or s (time_at + 1) 0 + 256 * get_or s time_at 0))

abbrev pub frame_shown : List ℕ → List ℕ
frame_shown s = take (2 * channels (ends_in s)) (drop frame_at s)

-- Where that frame ends; more than six ends, which no reading has, show none.
abbrev pub frame_end : List ℕ → ℕ
frame_end s = cond (leb (ends_in s) 6) (frame_at + 2 * channels (ends_in s)) frame_at
