-- What a proposal and a confirmation leave, on plain lists: what was answered decides it.
use Prim.Native.Nat.{ℕ, ◌+◌, ◌≤◌}
use mathlib.Core.Path.{◌≡◌, ◌∙◌}
use mathlib.Core.List.{List}
use lib.ListN.{length}
use Rattle.std.specs.Prelude.{is_ok, true, false}
use Rattle.answers.specs.Answers.{Answer}
use Rattle.lent.specs.Lent.{over}
use Rattle.entry.specs.Pair.{nothing, pair_at}
use Rattle.entry.specs.Entry.{Proposed, Confirmed, propose_answer, confirm_answer}
use Rattle.entry.proofs.Done.{confirm_done}
use Rattle.entry.proofs.Pairs.{pending_over, both_over}

module _ {v r : Answer} {at : ℕ} {s e after : List ℕ} (room : at + 64 ≤ length s) (a : r ≡ propose_answer v e) where
  pub proposed_done : is_ok r ≡ true → after ≡ over s (at + 32) e → Proposed v at s e r after
  proposed_done d k = record { answer = a; state = k ∙ rw (← a, d) (pending_over s at room e) }

  pub proposed_refused : is_ok r ≡ false → after ≡ over s (at + 32) nothing → Proposed v at s e r after
  proposed_refused d k = record { answer = a; state = k ∙ rw (← a, d) (pending_over s at room nothing) }

module _ {v r : Answer} {at : ℕ} {s e put after : List ℕ} (room : at + 64 ≤ length s) (a : r ≡ confirm_answer v (pair_at at s) e) (k : after ≡ over put (at + 32) nothing) where
  pub confirmed_done : is_ok r ≡ true → put ≡ over s at e → Confirmed v at s e r after
  confirmed_done d p =
      let l : length e ≡ 32 = (confirm_done v (pair_at at s) e (rw a at d)).0 in
      record { answer = a; state = k ∙ rw (p, ← a, d) (both_over s at room e nothing l) }

  pub confirmed_refused : is_ok r ≡ false → put ≡ s → Confirmed v at s e r after
  confirmed_refused d p = record { answer = a; state = k ∙ rw (p, ← a, d) (pending_over s at room nothing) }
