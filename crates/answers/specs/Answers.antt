-- Document 01, "Numbers given back": each answer's number and place. 9 and 10 are of document 02, CR 1, "both at 0";
-- 11 to 13 of CR 5, "place being the record index from 0".
use Rattle.std.specs.Prelude.{ℕ, ◌+◌, ◌*◌, ◌/◌, ◌%◌, Bool, cond, Result, Ok, Err, is_ok}
use Rattle.answers.specs.declared.Refusal.{Refusal}
use Rattle.answers.specs.declared.Refusal.TheVariants.{NoSettings, OtherWindowLength, NoRoom, MissingSample, OtherEntryLength, OutOfRange, NothingPending, Differs, OtherFrameLength, TooFewFrames, InsideRecord, OtherNumber, BadFile, NoRelay}

-- What a call answers: done, or why it is refused.
abbrev pub Answer : Type 0
Answer = Result (Unit {0}) Refusal

abbrev pub number : Answer → ℕ
number (Ok done) = 0
number (Err NoSettings) = 1
number (Err OtherWindowLength) = 2
number (Err NoRoom) = 3
number (Err (MissingSample at)) = 4
number (Err OtherEntryLength) = 5
number (Err (OutOfRange at)) = 6
number (Err NothingPending) = 7
number (Err (Differs at)) = 8
number (Err OtherFrameLength) = 9
number (Err TooFewFrames) = 10
number (Err (InsideRecord at)) = 11
number (Err (OtherNumber at)) = 12
number (Err BadFile) = 13
number (Err NoRelay) = 17

-- The index or the offset where the table has one, else 0.
abbrev pub place : Answer → ℕ
place (Ok done) = 0
place (Err NoSettings) = 0
place (Err OtherWindowLength) = 0
place (Err NoRoom) = 0
place (Err (MissingSample at)) = at
place (Err OtherEntryLength) = 0
place (Err (OutOfRange at)) = at
place (Err NothingPending) = 0
place (Err (Differs at)) = at
place (Err OtherFrameLength) = 0
place (Err TooFewFrames) = 0
place (Err (InsideRecord at)) = at
place (Err (OtherNumber at)) = at
place (Err BadFile) = 0
place (Err NoRelay) = 0

-- "C gets one number back: 256 times the place, plus the number given back."
abbrev pub given_back : Answer → ℕ
given_back a = 256 * place a + number a

-- And taken apart again
abbrev pub number_in : ℕ → ℕ
number_in r = r % 256

abbrev pub place_in : ℕ → ℕ
place_in r = r / 256

-- Done, or refused.
abbrev pub is_done : Answer → Bool
is_done a = is_ok a

-- What stands where a call is done, and where it is refused.
abbrev pub if_done : {A : Type 0} → Answer → A → A → A
if_done a done refused = cond (is_done a) done refused
