-- Document 02, CR 5: the reader, as data. It has the bytes of the record being read in hand, or the refusal that ended the reading.
use Rattle.std.specs.Prelude.{ℕ, suc, ◌-◌, ◌<◌, List, [], ◌∷◌, ◌++◌, Bool, cond, not, ◌&&◌, eqb, leb, length, take, Ok, Err}
use Rattle.answers.specs.declared.Refusal.{Refusal}
use Rattle.answers.specs.declared.Refusal.TheVariants as refused
use Rattle.answers.specs.Answers.{Answer}
use Rattle.records.specs.Record.{Shape, good_file, record_length, number_in}

-- "Refusals 11 to 13 end the reading", "place being the record index from 0".
pub data Ending : Type 0 where
  BadFile : Ending
  OtherNumber : ℕ → Ending
  InsideRecord : ℕ → Ending

abbrev pub refusal_of : Ending → Refusal
refusal_of BadFile = refused.BadFile
refusal_of (OtherNumber i) = refused.OtherNumber i
refusal_of (InsideRecord i) = refused.InsideRecord i

abbrev pub answer_of : Ending → Answer
answer_of e = Err (refusal_of e)

-- What the caller said of the file, the index of the record being read, and its bytes so far; or what ended the reading.
pub data Reader : Type 0 where
  Ended : Ending → Reader
  Reading : Shape → ℕ → List ℕ → Reader

-- "The caller says how many ends and status channels there are."
abbrev pub opened : Shape → Reader
opened sh = cond (good_file sh.ends sh.status) (Reading sh 0 []) (Ended BadFile)

-- How many bytes are missing to the end of the record being read; none where the reading has ended.
abbrev pub wanted : Reader → ℕ
wanted (Ended e) = 0
wanted (Reading sh i h) = record_length sh - length h

-- What a piece comes to: the reading has ended; the record is not whole yet; it is whole, and these are its bytes.
pub data Outcome : Type 0 where
  Stopped : Ending → Outcome
  More : Outcome
  Whole : Shape → List ℕ → Outcome

-- Refusal 12: "sample number not one above the last (first is 1)", so not one above the index; "as soon as its four bytes are there".
abbrev pub wrong_number : ℕ → List ℕ → Bool
wrong_number i h = leb 4 (length h) && not (eqb (number_in h) (suc i))

-- What it comes to with the bytes h in hand, and the reader then.
abbrev pub outcome : Shape → ℕ → List ℕ → Outcome
outcome sh i h = cond (wrong_number i h) (Stopped (OtherNumber i)) (cond (leb (record_length sh) (length h)) (Whole sh h) More)

abbrev pub after : Shape → ℕ → List ℕ → Outcome → Reader
after sh i h (Stopped e) = Ended e
after sh i h More = Reading sh i h
after sh i h (Whole s g) = Reading sh (suc i) []

-- As many bytes of a piece are taken as are wanted, no more.
abbrev pub in_hand : Shape → List ℕ → List ℕ → List ℕ
in_hand sh h piece = h ++ take (record_length sh - length h) piece

-- A piece read. "Further bytes get the same refusal."
abbrev pub read_outcome : Reader → List ℕ → Outcome
read_outcome (Ended e) piece = Stopped e
read_outcome (Reading sh i h) piece = outcome sh i (in_hand sh h piece)

abbrev pub read_next : Reader → List ℕ → Reader
read_next (Ended e) piece = Ended e
read_next (Reading sh i h) piece = after sh i (in_hand sh h piece) (outcome sh i (in_hand sh h piece))

-- Refusal 11: "file ends inside a record". Between records nothing changes.
abbrev pub end_next : Reader → Reader
end_next (Ended e) = Ended e
end_next (Reading sh i []) = Reading sh i []
end_next (Reading sh i (b ∷ h)) = Ended (InsideRecord i)

-- The refusal that ended the reading; done where it goes on.
abbrev pub refusal : Reader → Answer
refusal (Ended e) = answer_of e
refusal (Reading sh i h) = Ok tt

abbrev pub end_answer : Reader → Answer
end_answer r = refusal (end_next r)

-- Fewer bytes are in hand than a record has: so it is of every reader in a slice, and so it stays.
abbrev pub Fits : Reader → Type 0
Fits (Ended e) = Unit
Fits (Reading sh i h) = length h < record_length sh
