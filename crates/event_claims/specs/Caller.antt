-- Document 02, CR 5: what a caller of the C functions hears who hands a file over in pieces, each piece handed again until all of it is taken. It
-- goes by what the calls give back and leave, and by nothing else.
use Rattle.std.specs.Prelude.{ℕ, List, [], ◌∷◌, ◌++◌, cond, eqb, leb, length}
use Rattle.answers.specs.Answers.{given_back}
use Rattle.files.specs.Caller.{hand_all}
use Rattle.events.specs.Slice.{wanted_in, time_shown, frame_shown}
use Rattle.gorsepetal.specs.EventFiles.{open_left, read_answer, read_state, read_reader, read_out, close_answer}

-- What is heard: of a whole record what came back, the buffer then, and the time and the frame that the reader shows; or a refusal that ended the
-- reading, with the buffer.
pub data Told : Type 0 where
  fed : (given : ℕ) (out : List ℕ) (time : ℕ) (frame : List ℕ) → Told
  refused : (given : ℕ) (out : List ℕ) → Told

-- What the caller has lent, and what was heard so far, the oldest first.
pub record Lent : Type 0 where
  pub relay : List ℕ
  pub reader : List ℕ
  pub out : List ℕ
  pub heard : List Told

-- After a call, with w bytes wanted before it, and the reader r₁ and the buffer out₁ after it. Where nothing is wanted any more, the reading has
-- ended. Who lent fewer bytes than wanted knows that they were taken, which is not heard; who lent as many, that a frame was fed.
abbrev pub heard_by : (w : ℕ) (piece : List ℕ) (given : ℕ) (r₁ out₁ : List ℕ) → List Told
heard_by w piece given r₁ out₁ =
    cond (eqb (wanted_in r₁) 0) (refused given out₁ ∷ []) (cond (leb w (length piece)) (fed given out₁ (time_shown r₁) (frame_shown r₁) ∷ []) [])

-- One call of read;
abbrev pub called : Lent → List ℕ → Lent
called c p =
    let r₁ = read_reader c.relay c.reader p in
    let out₁ = read_out c.relay c.reader p c.out in
    record {
      relay = read_state c.relay c.reader p c.out;
      reader = r₁;
      out = out₁;
      heard = c.heard ++ heard_by (wanted_in c.reader) p (given_back (read_answer c.relay c.reader p c.out)) r₁ out₁;
    }

-- and none where nothing is wanted: the refusal that ended the reading is heard once.
abbrev pub read_once : Lent → List ℕ → Lent
read_once c p = cond (eqb (wanted_in c.reader) 0) c (called c p)

-- A file in pieces, each handed again until all of it is taken.
abbrev pub read_pieces : Lent → List (List ℕ) → Lent
read_pieces c ps = hand_all (λ (d : Lent). wanted_in d.reader) read_once c ps

-- What is heard of a file in all, then what `end` answers; and what the relay and the buffer are then.
pub record OfFile : Type 0 where
  pub heard : List Told
  pub at_end : ℕ
  pub relay : List ℕ
  pub out : List ℕ

abbrev pub of_file : Lent → OfFile
of_file c = record { heard = c.heard; at_end = given_back (close_answer c.reader); relay = c.relay; out = c.out }

-- A caller with a relay, a reader and a buffer; and the same after `open` of a file with so many ends and status channels.
abbrev pub lending : (s r out : List ℕ) → Lent
lending s r out = record { relay = s; reader = r; out = out; heard = [] }

abbrev pub opening : (s r out : List ℕ) (ends status : ℕ) → Lent
opening s r out ends status = lending s (open_left r ends status) out
