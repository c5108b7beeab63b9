-- Document 02, CR 5: what the writer answers and leaves. "From the writer, at 0 and in this order: 13 for the ends; 9, frame of another length;
-- 3, room below one record; 12, number past 4294967295."
use Rattle.std.specs.Prelude.{ℕ, ◌+◌, ◌*◌, ◌≡◌, List, cond, eqb, leb, ltb, length, Ok, Err}
use Rattle.answers.specs.declared.Refusal.TheVariants.{NoRoom, OtherFrameLength, OtherNumber, BadFile}
use Rattle.answers.specs.Answers.{Answer, if_done}
use Rattle.lent.specs.Lent.{over}
use Rattle.samples.specs.Window.{channels}
use Rattle.records.specs.Record.{good_ends, narrow, record_length, record_of}

abbrev pub last_number : ℕ
last_number = 4294967295

-- `written` is how many records came before.
abbrev pub write_answer : (ends written : ℕ) (frame out : List ℕ) → Answer
write_answer ends written frame out =
    cond (good_ends ends)
    (cond (eqb (length frame) (2 * channels ends))
    (cond (leb (record_length (narrow ends 0)) (length out))
    (cond (ltb written last_number) (Ok tt) (Err (OtherNumber 0)))
    (Err NoRoom))
    (Err OtherFrameLength))
    (Err BadFile)

-- The record stands at the front of the lent buffer, and later bytes stay. A refusal writes nothing.
abbrev pub write_out : (ends written time : ℕ) (frame out : List ℕ) → List ℕ
write_out ends written time frame out =
    if_done (write_answer ends written frame out) (over out 0 (record_of (written + 1) time frame)) out

pub record Wrote (ends written time : ℕ) (frame out : List ℕ) (a : Answer) (after : List ℕ) : Type 0 where
  pub answer : a ≡ write_answer ends written frame out
  pub buffer : after ≡ write_out ends written time frame out
