-- Document 01, "Settings record", the rules of entry, over the verdict on a record: done for a good one, else the refusal that propose
-- would give it.
use Rattle.std.specs.Prelude.{ℕ, ◌≡◌, List, cond, length, eqb, Ok, Err, Option, Some, None}
use Rattle.answers.specs.declared.Refusal.TheVariants.{OtherEntryLength, NothingPending, Differs}
use Rattle.answers.specs.Answers.{Answer, if_done}
use Rattle.lent.specs.Lent.{first_difference}
use Rattle.entry.specs.Pair.{Pair, record_length, nothing, pair_at, with_pair}

-- "Propose: 5, 6." Refusal 5: an entry that is not 32 bytes. The verdict on it gives refusal 6.
abbrev pub propose_answer : Answer → List ℕ → Answer
propose_answer verdict e = cond (eqb (length e) record_length) verdict (Err OtherEntryLength)

-- "To propose a good record makes it pending, in place of any earlier pending one." "Any refused propose or confirm leaves nothing
-- pending and the record in force unchanged."
abbrev pub proposed : Answer → Pair → List ℕ → Pair
proposed verdict p e = record { force = p.force; pending = if_done (propose_answer verdict e) e nothing }

-- "A stored record that propose would refuse counts as absent": done where it is present, else the refusal for an absent one.
abbrev pub of_stored : Answer → Answer → Answer
of_stored verdict absent = if_done verdict (Ok tt) absent

-- Refusal 7: nothing pending.
abbrev pub standing : Answer → Answer
standing verdict = of_stored verdict (Err NothingPending)

-- Refusal 8: the confirmation differs, at the first differing offset.
abbrev pub of_difference : Option ℕ → Answer
of_difference None = Ok tt
of_difference (Some k) = Err (Differs k)

-- "Confirm: 5, 7, 8." `stands` is done where the pending record is present, else the refusal.
abbrev pub confirm_answer : Answer → Pair → List ℕ → Answer
confirm_answer stands p e = cond (eqb (length e) record_length) (if_done stands (of_difference (first_difference p.pending e)) stands) (Err OtherEntryLength)

-- "To confirm with the same 32 bytes puts it in force and leaves nothing pending." A refused one: as above.
abbrev pub confirmed : Answer → Pair → List ℕ → Pair
confirmed stands p e = record { force = if_done (confirm_answer stands p e) e p.force; pending = nothing }

-- What the two functions promise of the pair at an offset of a state s: the answer r, and the state after.
pub record Proposed (verdict : Answer) (at : ℕ) (s e : List ℕ) (r : Answer) (after : List ℕ) : Type 0 where
  pub answer : r ≡ propose_answer verdict e
  pub state : after ≡ with_pair at s (proposed verdict (pair_at at s) e)

pub record Confirmed (stands : Answer) (at : ℕ) (s e : List ℕ) (r : Answer) (after : List ℕ) : Type 0 where
  pub answer : r ≡ confirm_answer stands (pair_at at s) e
  pub state : after ≡ with_pair at s (confirmed stands (pair_at at s) e)
