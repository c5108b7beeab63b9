-- Document 02, CR 5: the refusals of the calls for event files, row by row. Each number comes in its row's condition, once the checks before it have
-- passed, and in no other.
use Rattle.std.specs.Prelude.{ℕ, suc, ◌+◌, ◌*◌, ◌≤◌, ◌<◌, ◌≡◌, List, [], length}
use Rattle.whole.specs.Exactly.{Exactly}
use Rattle.answers.specs.Answers.{given_back}
use Rattle.samples.specs.Window.{channels}
use Rattle.records.specs.Record.{Shape, narrow, record_length, number_in, frame_in}
use Rattle.records.specs.Writer.{last_number}
use Rattle.files.specs.Reader.{Ending, answer_of, Ended, Reading, in_hand}
use Rattle.events.specs.Slice.{reader_length, reader_of}
use Rattle.gorsepetal.specs.State.{state_length}
use Rattle.gorsepetal.specs.EventFiles.{EventsOpened, EventsRead, EventsEnded, EventsWritten}
use Rattle.claims.specs.GivenBack.{FeedRow}

-- "ends .. 2 to 6", and at most 96 status channels.
pub record GoodEnds (ends : ℕ) : Type 0 where
  pub fewest : 2 ≤ ends
  pub most : ends ≤ 6

pub record GoodFile (ends status : ℕ) : Type 0 where
  pub good_ends : GoodEnds ends
  pub few_enough : status ≤ 96

-- A slice of another length is no reader: 17.
abbrev pub NoReader : List ℕ → Type 0
NoReader r = length r ≡ reader_length → ⊥

pub data OpenRow (r : List ℕ) (ends status : ℕ) : ℕ → Type 0 where
  no_reader : NoReader r → OpenRow r ends status 17
  bad_file : length r ≡ reader_length → (GoodFile ends status → ⊥) → OpenRow r ends status 13
  done : length r ≡ reader_length → GoodFile ends status → OpenRow r ends status 0

-- Read: 17, the refusal that ended the reading, 12 "as soon as its four bytes are there", 0 for a piece that is taken, and what feed answers to a
-- record that is whole. With h in hand, `in_hand` is what is in hand with the piece p.
pub data ReadRow (s r p out : List ℕ) : ℕ → Type 0 where
  no_relay : (length s ≡ state_length → ⊥) → ReadRow s r p out 17
  no_reader : length s ≡ state_length → NoReader r → ReadRow s r p out 17
  ended : length s ≡ state_length → length r ≡ reader_length → (e : Ending) → reader_of r ≡ Ended e → ReadRow s r p out (given_back (answer_of e))
  other_number :
      length s ≡ state_length → length r ≡ reader_length → (sh : Shape) (i : ℕ) (h : List ℕ) → reader_of r ≡ Reading sh i h
      → 4 ≤ length (in_hand sh h p) → (number_in (in_hand sh h p) ≡ suc i → ⊥) → ReadRow s r p out (256 * i + 12)
  taken :
      length s ≡ state_length → length r ≡ reader_length → (sh : Shape) (i : ℕ) (h : List ℕ) → reader_of r ≡ Reading sh i h
      → (4 ≤ length (in_hand sh h p) → number_in (in_hand sh h p) ≡ suc i) → length (in_hand sh h p) < record_length sh → ReadRow s r p out 0
  fed :
      length s ≡ state_length → length r ≡ reader_length → (sh : Shape) (i : ℕ) (h : List ℕ) → reader_of r ≡ Reading sh i h
      → number_in (in_hand sh h p) ≡ suc i → record_length sh ≤ length (in_hand sh h p) → (n : ℕ) → FeedRow s (frame_in sh.ends (in_hand sh h p)) out n → ReadRow s r p out n

-- End: 17, the refusal that ended the reading, 11.
pub data EndRow (r : List ℕ) : ℕ → Type 0 where
  no_reader : NoReader r → EndRow r 17
  ended : length r ≡ reader_length → (e : Ending) → reader_of r ≡ Ended e → EndRow r (given_back (answer_of e))
  inside_record :
      length r ≡ reader_length → (sh : Shape) (i : ℕ) (h : List ℕ) → reader_of r ≡ Reading sh i h → 0 < length h → EndRow r (256 * i + 11)
  done : length r ≡ reader_length → (sh : Shape) (i : ℕ) → reader_of r ≡ Reading sh i [] → EndRow r 0

-- Write: 13, 9, 3, 12, all at 0.
pub data WriteRow (ends written : ℕ) (f out : List ℕ) : ℕ → Type 0 where
  bad_file : (GoodEnds ends → ⊥) → WriteRow ends written f out 13
  frame_length : GoodEnds ends → (length f ≡ 2 * channels ends → ⊥) → WriteRow ends written f out 9
  no_room : GoodEnds ends → length f ≡ 2 * channels ends → length out < record_length (narrow ends 0) → WriteRow ends written f out 3
  other_number :
      GoodEnds ends → length f ≡ 2 * channels ends → record_length (narrow ends 0) ≤ length out → last_number ≤ written → WriteRow ends written f out 12
  done :
      GoodEnds ends → length f ≡ 2 * channels ends → record_length (narrow ends 0) ≤ length out → written < last_number → WriteRow ends written f out 0

-- A call gives back a number exactly where that number's row holds.
abbrev pub EventsOpenAnswers : Type 0
EventsOpenAnswers =
    (r : List ℕ) (ends status n : ℕ) (r₁ : List ℕ) → EventsOpened r ends status n r₁ → (m : ℕ) → Exactly (n ≡ m) (OpenRow r ends status m)

abbrev pub EventsReadAnswers : Type 0
EventsReadAnswers =
    (s r p out : List ℕ) (n : ℕ) (s₁ r₁ out₁ : List ℕ) → EventsRead s r p out n s₁ r₁ out₁ → (m : ℕ) → Exactly (n ≡ m) (ReadRow s r p out m)

abbrev pub EventsEndAnswers : Type 0
EventsEndAnswers = (r : List ℕ) (n : ℕ) (r₁ : List ℕ) → EventsEnded r n r₁ → (m : ℕ) → Exactly (n ≡ m) (EndRow r m)

abbrev pub EventsWriteAnswers : Type 0
EventsWriteAnswers =
    (ends written time : ℕ) (f out : List ℕ) (n : ℕ) (out₁ : List ℕ) → EventsWritten ends written time f out n out₁
    → (m : ℕ) → Exactly (n ≡ m) (WriteRow ends written f out m)
