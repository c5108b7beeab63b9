-- The two entries of a session. Where one is refused, its line is all that is still printed.
use Rattle.std.proofs.Common.{◌≡◌, ℕ, Bool, true, false, List, [], ◌++◌, cond, Option, IfSome, Result, Ok, Err, OnOk, sym, ◌∙◌, take, drop, eqb, append-nil}
use Rattle.std.specs.Io.KnownBytes.{Appends}
use Rattle.answers.specs.Answers.{given_back}
use Rattle.entry.specs.Pair.{record_length}
use Rattle.gorsepetal.specs.State.{fresh_state}
use Rattle.gorsepetal.specs.Calls.{confirm_answer, confirm_state, Proposed, Confirmed}
use Rattle.session.specs.Taken.{Takes}
use Rattle.session.specs.Session.{entry_text, lines, session_text}
use Rattle.session.proofs.Behind.{Whole, start, behind, ended}

-- the line of a refused entry, and what is printed behind a good one
in_two : (good : Bool) (r : ℕ) (more : List ℕ) → good ≡ eqb r 0 → entry_text r more ≡ entry_text r [] ++ cond good more []
in_two true r more e = rw (← e)
in_two false r more e = rw (← e) (sym (append-nil _))

-- what is printed from the confirmation on, s being the relay after the proposal
abbrev pub from_confirmation : (s xs : List ℕ) → List ℕ
from_confirmation s xs =
    let e = take record_length xs in
    entry_text (given_back (confirm_answer s e)) (lines (confirm_state s e) (drop record_length xs))

pub split_proposal :
    {e s : List ℕ} {r : ℕ} → Proposed fresh_state e r s → (xs : List ℕ) → e ≡ take record_length xs →
    session_text xs ≡ entry_text r (from_confirmation s (drop record_length xs))
unfolding session_text
split_proposal p xs t = rw (p.given, p.state, t)

pub split_confirmation :
    {e s s' : List ℕ} {r : ℕ} → Confirmed s e r s' → (xs : List ℕ) → e ≡ take record_length xs →
    from_confirmation s xs ≡ entry_text r (lines s' (drop record_length xs))
split_confirmation p xs t = rw (p.given, p.state, t)

-- Behind an entry: what is printed of the rest where it is a good one, and nothing else.
pub record After (good : Bool) (known o : Option (List ℕ)) (rest : List ℕ → List ℕ) (left o₁ : Option (List ℕ)) : Type 0 where
  pub so : Whole session_text known o (λ ys. cond good (rest ys) []) left o₁

pub proposed :
    {known left o o₁ : Option (List ℕ)} {e s : List ℕ} {r : ℕ} {good : Bool} →
    Proposed fresh_state e r s → Takes known left record_length e → Appends o o₁ (entry_text r []) → good ≡ eqb r 0 →
    After good known o (from_confirmation s) left o₁
proposed {known} {o = o} {e = e} {s} {r} {good} p taken line answer =
    record { so = behind (start session_text known o) _ _ e _ taken line (λ xs t. split_proposal p xs t ∙ in_two good r _ answer) }

module _ {good : Bool} {known o left o₁ : Option (List ℕ)} {rest : List ℕ → List ℕ} (after : After good known o rest left o₁) where
  pub refused : good ≡ false → IfSome known (λ xs. Appends o o₁ (session_text xs))
  refused bad = ended after.so (λ ys. rw bad)

  pub accepted : good ≡ true → Whole session_text known o rest left o₁
  accepted fine = rw fine at after.so

pub confirmed :
    {known left left' o o₁ o₁' : Option (List ℕ)} {e s s' : List ℕ} {r : ℕ} {good : Bool} →
    Whole session_text known o (from_confirmation s) left o₁ →
    Confirmed s e r s' → Takes left left' record_length e → Appends o₁ o₁' (entry_text r []) → good ≡ eqb r 0 →
    After good known o (lines s') left' o₁'
confirmed {e = e} {s' = s'} {r} {good} so p taken line answer =
    record { so = behind so _ _ e _ taken line (λ xs t. split_confirmation p xs t ∙ in_two good r _ answer) }

pub on_ok : {T E P Q : Type 0} (r : Result T E) → (P → Q) → OnOk r P → OnOk r Q
on_ok (Ok x) f p = f p
on_ok (Err e) f p = tt
