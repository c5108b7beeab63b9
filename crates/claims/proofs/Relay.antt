-- What a call does to a relay, in terms of its pair of records alone.
use Prim.Native.Nat.{ℕ, ◌≤◌}
use mathlib.Core.Path.{◌≡◌, refl, ap, ◌∙◌}
use mathlib.Core.List.{List}
use mathlib.Core.Bool.{Bool, true, false, cond}
use native.Mathlib.Omega.{arith}
use borrow.Author.Tests.{eq-eqb}
use lib.ListN.{length, drop, length-drop}
use lib.Seq.{length-take-le}
use Rattle.answers.specs.Answers.{Answer, given_back, is_done, if_done}
use Rattle.stream.specs.Window.{none}
use Rattle.stream.specs.Stored.{stored_length, stored}
use Rattle.stream.proofs.Storing.{none_stored}
use Rattle.entry.specs.Pair.{Pair}
use Rattle.entry.specs.Entry.{propose_answer, proposed, confirm_answer, confirmed}
use Rattle.entry.proofs.Pairs.{pair_again, with_pair_length}
use Rattle.entry.proofs.Done.{FullPair, proposed_sized, confirmed_sized}
use Rattle.gorsepetal.specs.State.{state_length, settings_of, with_settings, emptied}
use Rattle.gorsepetal.specs.Calls.{verdict, standing, Proposed, Confirmed}
use Rattle.claims.proofs.Parts.{settings_stay, over_window_length}

-- The answer a by which n was given back, and the pair p that is left.
pub record Left (a : Answer) (p : Pair) (n : ℕ) (after : List ℕ) : Type 0 where
  pub given : n ≡ given_back a
  pub pair : settings_of after ≡ p
  pub relay : length after ≡ state_length

module _ (s : List ℕ) (l : length s ≡ state_length) where
  pub sized : FullPair (settings_of s)
  sized =
      record {
        force = length-take-le 32 s (omega arith);
        pending = length-take-le 32 (drop 32 s) (simp length-drop (omega arith));
      }

  pub paired : (p : Pair) → FullPair p → length (with_settings s p) ≡ state_length
  paired p w = with_pair_length s 0 (omega arith) p w.force w.pending ∙ l

  left : (a : Answer) (p : Pair) (n : ℕ) (after : List ℕ) → FullPair p → n ≡ given_back a → after ≡ with_settings s p → Left a p n after
  left a p n after w g k =
      record {
        given = g;
        pair = ap settings_of k ∙ pair_again s 0 (omega arith) p w.force w.pending;
        relay = ap length k ∙ paired p w;
      }

  module _ (e : List ℕ) (n : ℕ) (after : List ℕ) where
    pub propose_left : Proposed s e n after → Left (propose_answer (verdict e) e) (proposed (verdict e) (settings_of s) e) n after
    propose_left c =
        let t = eq-eqb (length s) state_length l in
        left _ _ n after (proposed_sized (verdict e) (settings_of s) e sized) (c.given ∙ rw t) (c.state ∙ rw t)

    -- of a confirmation answered 0 the window is emptied behind the pair
    pub confirm_left : Confirmed s e n after → Left (confirm_answer (standing s) (settings_of s) e) (confirmed (standing s) (settings_of s) e) n after
    confirm_left c =
        let t = eq-eqb (length s) state_length l in
        let a = confirm_answer (standing s) (settings_of s) e in
        let q = confirmed (standing s) (settings_of s) e in
        let p = left a q n (with_settings s q) (confirmed_sized (standing s) (settings_of s) e sized) (c.given ∙ rw t) refl in
        by_test a q p (is_done a) (c.state ∙ ap (λ (b : Bool). cond b (if_done a (emptied (with_settings s q)) (with_settings s q)) s) t)
      where
        by_test :
            (a : Answer) (q : Pair) → Left a q n (with_settings s q) → (b : Bool) → after ≡ cond b (emptied (with_settings s q)) (with_settings s q) → Left a q n after
        by_test a q p false k = record { given = p.given; pair = ap settings_of k ∙ p.pair; relay = ap length k ∙ p.relay }
        by_test a q p true k =
            let few : length (stored none) ≤ stored_length = omega (arith, ap length none_stored) in
            record {
              given = p.given;
              pair = ap settings_of k ∙ settings_stay (with_settings s q) (stored none) p.relay few ∙ p.pair;
              relay = ap length k ∙ over_window_length (with_settings s q) (stored none) p.relay few;
            }
