-- Document 02, CR 5: what the calls that read and write event files answer and leave, for every input, good or bad. In these definitions s is the
-- relay's state, r the reader's slice, p the piece that is lent.
use Rattle.std.specs.Prelude.{ℕ, ◌≡◌, List, [], ◌∷◌, Bool, cond, ◌&&◌, Ok, Err, ◌-◌, take, drop}
use Rattle.answers.specs.declared.Refusal.TheVariants.{NoRelay}
use Rattle.answers.specs.Answers.{Answer, given_back}
use Rattle.records.specs.Record.{narrow, frame_in}
use Rattle.records.specs.Writer.{write_answer, write_out}
use Rattle.files.specs.Reader.{answer_of, opened, refusal, Outcome, Stopped, More, Whole, read_outcome, end_answer}
use Rattle.events.specs.Slice.{frame_end, is_reader, reader_of, wanted_in, opened_bytes, read_left, end_left}
use Rattle.gorsepetal.specs.Calls.{is_relay, feed_answer, feed_state, feed_out}

-- "The caller says how many ends and status channels there are." Refusals 17 and 13.
abbrev pub open_answer : (r : List ℕ) (ends status : ℕ) → Answer
open_answer r ends status = cond (is_reader r) (refusal (opened (narrow ends status))) (Err NoRelay)

abbrev pub open_left : (r : List ℕ) (ends status : ℕ) → List ℕ
open_left r ends status = cond (is_reader r) (opened_bytes ends status) r

pub record EventsOpened (r : List ℕ) (ends status n : ℕ) (r₁ : List ℕ) : Type 0 where
  pub given : n ≡ given_back (open_answer r ends status)
  pub reader : r₁ ≡ open_left r ends status

-- How many bytes are missing to the end of the record being read: a count, and no answer of the table.
pub record EventsWanted (r : List ℕ) (n : ℕ) : Type 0 where
  pub count : n ≡ wanted_in r

-- "The reader feeds CR 1." By what a piece comes to: a refusal that ended the reading; 0 for a piece that does not finish a record; and else what
-- feed answers to the record's frame, and leaves.
abbrev pub answer_by : Outcome → (s out : List ℕ) → Answer
answer_by (Stopped e) s out = answer_of e
answer_by More s out = Ok tt
answer_by (Whole sh g) s out = feed_answer s (frame_in sh.ends g) out

abbrev pub state_by : Outcome → (s out : List ℕ) → List ℕ
state_by (Stopped e) s out = s
state_by More s out = s
state_by (Whole sh g) s out = feed_state s (frame_in sh.ends g) out

abbrev pub out_by : Outcome → (s out : List ℕ) → List ℕ
out_by (Stopped e) s out = out
out_by More s out = out
out_by (Whole sh g) s out = feed_out s (frame_in sh.ends g) out

-- The frame that a reader's slice holds, behind the time, where a record was whole.
abbrev pub held_frame : (r : List ℕ) → List ℕ
held_frame r = take (frame_end r - 12) (drop 12 r)

-- Refusal 17 stands first: a state or a reader of another length.
abbrev pub both_lent : (s r : List ℕ) → Bool
both_lent s r = is_relay s && is_reader r

abbrev pub piece_outcome : (r p : List ℕ) → Outcome
piece_outcome r p = read_outcome (reader_of r) p

abbrev pub read_answer : (s r p out : List ℕ) → Answer
read_answer s r p out = cond (both_lent s r) (answer_by (piece_outcome r p) s out) (Err NoRelay)

abbrev pub read_state : (s r p out : List ℕ) → List ℕ
read_state s r p out = cond (both_lent s r) (state_by (piece_outcome r p) s out) s

abbrev pub read_reader : (s r p : List ℕ) → List ℕ
read_reader s r p = cond (both_lent s r) (read_left r p) r

abbrev pub read_out : (s r p out : List ℕ) → List ℕ
read_out s r p out = cond (both_lent s r) (out_by (piece_outcome r p) s out) out

pub record EventsRead (s r p out : List ℕ) (n : ℕ) (s₁ r₁ out₁ : List ℕ) : Type 0 where
  pub given : n ≡ given_back (read_answer s r p out)
  pub state : s₁ ≡ read_state s r p out
  pub reader : r₁ ≡ read_reader s r p
  pub buffer : out₁ ≡ read_out s r p out

-- The frame that a piece hands on to feed: none, or the record's.
abbrev pub handed_by : Outcome → List (List ℕ)
handed_by (Stopped e) = []
handed_by More = []
handed_by (Whole sh g) = frame_in sh.ends g ∷ []

abbrev pub handed : (s r p : List ℕ) → List (List ℕ)
handed s r p = cond (both_lent s r) (handed_by (piece_outcome r p)) []

-- Refusals 17 and 11, and that which ended the reading.
abbrev pub close_answer : (r : List ℕ) → Answer
close_answer r = cond (is_reader r) (end_answer (reader_of r)) (Err NoRelay)

abbrev pub close_left : (r : List ℕ) → List ℕ
close_left r = cond (is_reader r) (end_left r) r

pub record EventsEnded (r : List ℕ) (n : ℕ) (r₁ : List ℕ) : Type 0 where
  pub given : n ≡ given_back (close_answer r)
  pub reader : r₁ ≡ close_left r

-- "A writer makes records .. from frames and times."
pub record EventsWritten (ends written time : ℕ) (f out : List ℕ) (n : ℕ) (out₁ : List ℕ) : Type 0 where
  pub given : n ≡ given_back (write_answer ends written f out)
  pub buffer : out₁ ≡ write_out ends written time f out
