-- Document 01, "Numbers given back": what decide answers once settings are in force, and what it writes. In these definitions s is the record
-- in force and w the window's numbers.
use Rattle.std.specs.Prelude.{ℕ, ◌≡◌, List, Bool, cond, eqb, leb, ℤ, length, Ok, Err, Option, Some, None}
use Rattle.answers.specs.declared.Refusal.TheVariants.{OtherWindowLength, NoRoom, MissingSample}
use Rattle.answers.specs.Answers.{Answer, if_done}
use Rattle.lent.specs.Lent.{over}
use Rattle.samples.specs.Window.{window_length, first_missing}
use Rattle.settings.specs.Fields.{ends}
use Rattle.decision.specs.Decision.{decision_length, decision}

-- Refusal 4: a missing sample, at its index in the slice.
abbrev pub of_found : Option ℕ → Answer
of_found None = Ok tt
of_found (Some k) = Err (MissingSample k)

-- "Decide checks 1, 2, 3, 4", here from 2 on. Refusal 2: a window of another length, where it does not fit. Refusal 3: room below 32 bytes.
abbrev pub window_answer : Bool → List ℤ → List ℕ → Answer
window_answer fits w out = cond fits (cond (leb decision_length (length out)) (of_found (first_missing w)) (Err NoRoom)) (Err OtherWindowLength)

-- "It is written at the front of the lent buffer; later bytes stay." No refusal writes.
abbrev pub written : Answer → List ℕ → List ℤ → List ℕ → List ℕ
written a s w out = if_done a (over out 0 (decision s w)) out

-- What is promised of the answer a and of what the buffer holds after.
pub record Decided (s : List ℕ) (w : List ℤ) (out : List ℕ) (a : Answer) (after : List ℕ) : Type 0 where
  pub answer : a ≡ window_answer (eqb (length w) (window_length (ends s))) w out
  pub buffer : after ≡ written a s w out
