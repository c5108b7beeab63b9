-- Document 02, CR 5: what is promised of a whole file, over what its caller hears.
use Rattle.std.specs.Prelude.{ℕ, ◌+◌, ◌*◌, ◌≤◌, ◌<◌, ◌≡◌, List, [], ◌∷◌, ◌++◌, length, take, drop}
use Rattle.answers.specs.Answers.{given_back}
use Rattle.lent.specs.Bytes.{Every, Byte}
use Rattle.samples.specs.Window.{channels, numbers_of, missing_mark}
use Rattle.records.specs.Record.{swapped, narrow, record_length, record_of}
use Rattle.files.specs.Caller.{together}
use Rattle.events.specs.Slice.{reader_length}
use Rattle.gorsepetal.specs.State.{state_length}
use Rattle.gorsepetal.specs.Calls.{feed_answer, feed_state, feed_out}
use Rattle.gorsepetal.specs.EventFiles.{EventsWritten}
use Rattle.event_claims.specs.GivenBack.{GoodEnds, GoodFile}
use Rattle.event_claims.specs.Caller.{Told, fed, refused, read_pieces, OfFile, of_file, lending, opening}

-- "The file may arrive cut at any byte with the same answers." For every relay, every reader, whatever its bytes, and every way to cut the rest of
-- the file.
abbrev pub CutAnywhere : Type 0
CutAnywhere =
    (s r out : List ℕ) (ps qs : List (List ℕ)) → length s ≡ state_length → length r ≡ reader_length → together ps ≡ together qs
    → of_file (read_pieces (lending s r out) ps) ≡ of_file (read_pieces (lending s r out) qs)

-- A frame of bytes with its time, as `write` takes them and as a reader shows them.
pub record Event : Type 0 where
  pub time : ℕ
  pub frame : List ℕ

-- 32 bits of time, and the 3+3N numbers of a frame.
pub record IsEvent (ends : ℕ) (e : Event) : Type 0 where
  pub time : e.time < 4294967296
  pub frame : length e.frame ≡ 2 * channels ends

-- Each in a record, of which k came before. What `write` leaves at the front of its buffer is this (`WritesRecord`).
abbrev pub records_from : ℕ → List Event → List (List ℕ)
records_from k [] = []
records_from k (e ∷ es) = record_of (k + 1) e.time e.frame ∷ records_from (k + 1) es

abbrev pub file_of : List Event → List ℕ
file_of es = together (records_from 0 es)

-- "A writer makes records .. from frames and times": a write answered 0 leaves the record at the front, and later bytes stay.
abbrev pub WritesRecord : Type 0
WritesRecord =
    (ends written time : ℕ) (f out out₁ : List ℕ) → EventsWritten ends written time f out 0 out₁
    → let n = record_length (narrow ends 0) in (take n out₁ ≡ record_of (written + 1) time f) × (drop n out₁ ≡ drop n out)

-- A refused write writes nothing.
abbrev pub RefusedWrite : Type 0
RefusedWrite =
    (ends written time : ℕ) (f out : List ℕ) (n : ℕ) (out₁ : List ℕ) → EventsWritten ends written time f out n out₁ → (n ≡ 0 → ⊥) → out₁ ≡ out

-- "The standard's mark for missing data, 8000 hex, is our -32768": low byte first in a record, among any other channels.
abbrev pub MissingMark : Type 0
MissingMark = (b : List ℕ) → numbers_of (swapped (0 ∷ 128 ∷ b)) ≡ missing_mark ∷ numbers_of (swapped b)

-- The frames and times that were read.
abbrev pub events_in : List Told → List Event
events_in [] = []
events_in (fed n out time frame ∷ hs) = record { time = time; frame = frame } ∷ events_in hs
events_in (refused n out ∷ hs) = events_in hs

-- "Reading what it wrote gives the same frames and times", cut anywhere, with whatever relay, and no refusal ends the reading.
abbrev pub WrittenRead : Type 0
WrittenRead =
    (s r out : List ℕ) (ends : ℕ) (es : List Event) (ps : List (List ℕ)) → length s ≡ state_length → length r ≡ reader_length → GoodEnds ends
    → Every (IsEvent ends) es → length es < 4294967296 → together ps ≡ file_of es
    → let h = of_file (read_pieces (opening s r out ends 0) ps) in (events_in h.heard ≡ es) × (h.at_end ≡ 0)

-- "Writing what was read from an accepted file of that kind gives the same bytes": accepted is a file at whose end 0 is answered.
abbrev pub ReadWritten : Type 0
ReadWritten =
    (s r out : List ℕ) (ends : ℕ) (ps : List (List ℕ)) → length s ≡ state_length → length r ≡ reader_length → GoodEnds ends → Every Byte (together ps)
    → let h = of_file (read_pieces (opening s r out ends 0) ps) in h.at_end ≡ 0 → file_of (events_in h.heard) ≡ together ps

-- Frames fed by hand, one after the other: what is heard of each, and the relay and the buffer afterwards.
abbrev pub fed_by_hand : (s out : List ℕ) → List Event → List Told
fed_by_hand s out [] = []
fed_by_hand s out (e ∷ es) =
    fed (given_back (feed_answer s e.frame out)) (feed_out s e.frame out) e.time e.frame
    ∷ fed_by_hand (feed_state s e.frame out) (feed_out s e.frame out) es

abbrev pub relay_after : (s out : List ℕ) → List Event → List ℕ
relay_after s out [] = s
relay_after s out (e ∷ es) = relay_after (feed_state s e.frame out) (feed_out s e.frame out) es

-- "The reader feeds CR 1": what is heard of a file's frames, and what the relay is afterwards, is what feeding them by hand gives. Behind them at
-- most one refusal is heard, which ended the reading; feed's refusals do not.
pub record AsByHand (s out : List ℕ) (h : OfFile) : Type 0 where
  pub refusals : List Told
  pub one_at_most : length refusals ≤ 1
  pub none_fed : events_in refusals ≡ []
  pub heard : h.heard ≡ fed_by_hand s out (events_in h.heard) ++ refusals
  pub relay : h.relay ≡ relay_after s out (events_in h.heard)

abbrev pub FedByHand : Type 0
FedByHand =
    (s r out : List ℕ) (ends status : ℕ) (ps : List (List ℕ)) → length s ≡ state_length → length r ≡ reader_length → GoodFile ends status
    → AsByHand s out (of_file (read_pieces (opening s r out ends status) ps))
