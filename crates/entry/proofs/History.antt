-- Demand 1 over histories, both ways. A good pending record is the last entry of the log, proposed and answered 0, since every other entry
-- leaves nothing pending; and only a confirmation answered 0 changes the record in force, to bytes that are the pending ones. So a good
-- record in force was said twice, one entry after the other; and what was said twice, with no later confirmation answered 0, is in force.
use mathlib.Core.Path.{◌≡◌, refl, sym, ap, ◌∙◌}
use mathlib.Core.Logic.{◌⊎◌, inl, inr, ⊎_elim}
use mathlib.Core.List.{List}
use mathlib.Core.Bool.{true, cond}
use Rattle.std.specs.Prelude.{Ok, Err}
use Rattle.answers.specs.declared.Refusal.TheVariants.{NothingPending}
use Rattle.answers.specs.Answers.{Answer, given_back, is_done, if_done}
use Rattle.answers.proofs.Numbers.{zero_is, refused_not_zero, not_zero_refused}
use Rattle.lent.proofs.Differences.{difference_same}
use Rattle.entry.specs.Pair.{Pair, nothing}
use Rattle.entry.specs.Entry.{propose_answer, standing, confirm_answer}
use Rattle.entry.specs.Log.{Entry, propose, confirm, Log, ◌▷◌, Leads, from_fresh, by_propose, by_confirm, PutsNothing, SaidTwice, twice, later}
use Rattle.entry.proofs.Done.{FullPair, proposed_sized, confirmed_sized, confirm_done, stored_done}
use Prim.Native.Nat.{ℕ}

module _ (verdict : List ℕ → Answer) (blank : verdict nothing ≡ Ok tt → ⊥) where
  leads_sized : {l : Log} {p : Pair} → Leads verdict l p → FullPair p
  leads_sized from_fresh = record { force = refl; pending = refl }
  leads_sized (by_propose {p = p} d e) = proposed_sized (verdict e) p e (leads_sized d)
  leads_sized (by_confirm {p = p} d e) = confirmed_sized (standing (verdict p.pending)) p e (leads_sized d)

  -- a good pending record is the last entry, proposed and answered 0
  data Said (r : List ℕ) : Log → Type 0 where
    last : (l : Log) → Said r (l ▷ propose r 0)

  pending_said : {l : Log} {p : Pair} → Leads verdict l p → verdict p.pending ≡ Ok tt → Said p.pending l
  pending_said from_fresh g = absurd (blank g)
  pending_said (by_propose {l} d e) g = by_answer (propose_answer (verdict e) e) g
    where
      by_answer : (a : Answer) → verdict (if_done a e nothing) ≡ Ok tt → Said (if_done a e nothing) (l ▷ propose e (given_back a))
      by_answer (Ok done) g = last l
      by_answer (Err refusal) g = absurd (blank g)
  pending_said (by_confirm d e) g = absurd (blank g)

  -- a confirmation that is done is of the pending record, which is good
  confirmed_good : {l : Log} {p : Pair} → Leads verdict l p → (e : List ℕ) → is_done (confirm_answer (standing (verdict p.pending)) p e) ≡ true → (p.pending ≡ e) × (verdict p.pending ≡ Ok tt)
  confirmed_good {p = p} d e t =
      let done = confirm_done (standing (verdict p.pending)) p e t in
      (difference_same p.pending e ((leads_sized d).pending ∙ sym done.0) done.2, stored_done (verdict p.pending) (Err NothingPending) refl done.1)

  said_twice : {r : List ℕ} {l : Log} → Said r l → SaidTwice r (l ▷ confirm r 0)
  said_twice (last l) = twice l

  pub in_force_said_twice : {l : Log} {p : Pair} → Leads verdict l p → verdict p.force ≡ Ok tt → SaidTwice p.force l
  in_force_said_twice from_fresh g = absurd (blank g)
  in_force_said_twice (by_propose d e) g = later (in_force_said_twice d g) tt
  in_force_said_twice (by_confirm {l} {p} d e) g = by_answer (confirm_answer (standing (verdict p.pending)) p e) (confirmed_good d e) (in_force_said_twice d) g
    where
      by_answer :
          (a : Answer) → (is_done a ≡ true → (p.pending ≡ e) × (verdict p.pending ≡ Ok tt)) → (verdict p.force ≡ Ok tt → SaidTwice p.force l) →
          verdict (if_done a e p.force) ≡ Ok tt → SaidTwice (if_done a e p.force) (l ▷ confirm e (given_back a))
      by_answer (Ok done) good before g = let k = good refl in said_twice (rw k.0 at (pending_said d k.1))
      by_answer (Err refusal) good before g = later (before g) (refused_not_zero (Err refusal) refl)

  -- where a log shows a record said twice, its last entry is the confirmation, or puts nothing in force
  last_entry : {r : List ℕ} {l : Log} {x : Entry} → SaidTwice r (l ▷ x) → (x ≡ confirm r 0) ⊎ (SaidTwice r l × PutsNothing x)
  last_entry (twice l) = inl refl
  last_entry (later t k) = inr (t, k)

  pub said_twice_in_force : {r : List ℕ} {l : Log} {p : Pair} → Leads verdict l p → SaidTwice r l → (p.force ≡ r) × (verdict r ≡ Ok tt)
  said_twice_in_force from_fresh t = elim t [ ]
  said_twice_in_force (by_propose d e) t =
      ⊎_elim (λ z. absurd cc) (λ k. said_twice_in_force d k.0) (last_entry t)
  said_twice_in_force {r} (by_confirm {l} {p} d e) t = ⊎_elim now (λ k. before k.1 (said_twice_in_force d k.0)) (last_entry t)
    where
      a : Answer
      a = confirm_answer (standing (verdict p.pending)) p e

      now : confirm e (given_back a) ≡ confirm r 0 → (cond (is_done a) e p.force ≡ r) × (verdict r ≡ Ok tt)
      now z =
          let same : e ≡ r = cc in
          let zero : given_back a ≡ 0 = cc in
          let done = ap is_done (zero_is a zero) in
          let g = confirmed_good d e done in
          (rw done same, rw (sym same, sym g.0) g.1)

      before : (given_back a ≡ 0 → ⊥) → (p.force ≡ r) × (verdict r ≡ Ok tt) → (cond (is_done a) e p.force ≡ r) × (verdict r ≡ Ok tt)
      before k so = rw (not_zero_refused a k) so
