-- What a done entry shows, that its answer can stand for the verdict on it, and that both records of a pair stay 32 bytes long.
use Prim.Native.Nat.{ℕ}
use mathlib.Core.Path.{◌≡◌, refl, ◌∙◌}
use mathlib.Core.List.{List}
use mathlib.Core.Bool.{true, false}
use lib.ListN.{length}
use native.Mathlib.Omega.{arith}
use Rattle.std.proofs.lemmas.Bool.Decides.{nat_tests}
use Rattle.std.specs.Prelude.{None, Ok}
use Rattle.answers.specs.Answers.{Answer, is_done}
use Rattle.lent.specs.Lent.{first_difference}
use Rattle.entry.specs.Pair.{Pair}
use Rattle.entry.specs.Entry.{of_stored, propose_answer, proposed, confirm_answer, confirmed, Proposed}

pub propose_done : (v : Answer) (e : List ℕ) → is_done (propose_answer v e) ≡ true → (length e ≡ 32) × (v ≡ Ok tt)
propose_done v e t = grind (arith, nat_tests)

pub confirm_done : (v : Answer) (p : Pair) (e : List ℕ) → is_done (confirm_answer v p e) ≡ true → (length e ≡ 32) × (v ≡ Ok tt) × (first_difference p.pending e ≡ None)
confirm_done v p e t = grind (arith, nat_tests)

-- what propose answers to an entry stands for the verdict on it: of one that is not 32 bytes the verdict does not matter
module _ (v : Answer) (e : List ℕ) where
  answer_again : propose_answer (propose_answer v e) e ≡ propose_answer v e
  answer_again = grind (arith, nat_tests)

  pub by_answer : {at : ℕ} {s : List ℕ} {r : Answer} {after : List ℕ} → Proposed (propose_answer v e) at s e r after → Proposed v at s e r after
  by_answer p = record { answer = p.answer ∙ answer_again; state = rw answer_again at p.state }

-- a record that is present has a good verdict
pub stored_done : (v absent : Answer) → is_done absent ≡ false → of_stored v absent ≡ Ok tt → v ≡ Ok tt
stored_done v absent f t = grind (arith, nat_tests)

-- Both records of a pair are 32 bytes long.
pub record FullPair (p : Pair) : Type 0 where
  pub force : length p.force ≡ 32
  pub pending : length p.pending ≡ 32

pub proposed_sized : (v : Answer) (p : Pair) (e : List ℕ) → FullPair p → FullPair (proposed v p e)
proposed_sized v p e w = record { force = grind (arith, nat_tests); pending = grind (arith, nat_tests, propose_done v e) }

pub confirmed_sized : (v : Answer) (p : Pair) (e : List ℕ) → FullPair p → FullPair (confirmed v p e)
confirmed_sized v p e w = record { force = grind (arith, nat_tests, confirm_done v p e); pending = refl }
