-- Demand 1 over histories (document 01, "Settings record"): what a log of the entries to a pair of records shows. A log has each entry with
-- the number given back, as a tester would keep it. `verdict` says what counts as a good record.
use Rattle.std.specs.Prelude.{ℕ, ◌≡◌, List}
use Rattle.answers.specs.Answers.{Answer, given_back}
use Rattle.entry.specs.Pair.{Pair, fresh}
use Rattle.entry.specs.Entry.{propose_answer, proposed, standing, confirm_answer, confirmed}

-- An entry: its bytes, and the number given back.
pub data Entry : Type 0 where
  propose : (e : List ℕ) (n : ℕ) → Entry
  confirm : (e : List ℕ) (n : ℕ) → Entry

-- The newest entry stands last.
pub data Log : Type 0 where
  start : Log
  ◌▷◌ : Log → Entry → Log

infixl 5 ◌▷◌
-- A log and the pair that it leads to, from a fresh pair on.
pub data Leads (verdict : List ℕ → Answer) : Log → Pair → Type 0 where
  from_fresh : Leads verdict start fresh
  by_propose : {l : Log} {p : Pair} → Leads verdict l p → (e : List ℕ)
      → Leads verdict (l ▷ propose e (given_back (propose_answer (verdict e) e))) (proposed (verdict e) p e)
  by_confirm : {l : Log} {p : Pair} → Leads verdict l p → (e : List ℕ)
      → Leads verdict (l ▷ confirm e (given_back (confirm_answer (standing (verdict p.pending)) p e))) (confirmed (standing (verdict p.pending)) p e)

-- An entry that puts nothing in force: any but a confirmation answered 0.
abbrev pub PutsNothing : Entry → Type 0
PutsNothing (propose e n) = Unit {0}
PutsNothing (confirm e n) = n ≡ 0 → ⊥

-- A record was proposed and in the next entry confirmed with the same bytes, both answered 0, and no later confirmation was answered 0.
pub data SaidTwice (r : List ℕ) : Log → Type 0 where
  twice : (l : Log) → SaidTwice r (l ▷ propose r 0 ▷ confirm r 0)
  later : {l : Log} {x : Entry} → SaidTwice r l → PutsNothing x → SaidTwice r (l ▷ x)
