-- The table, row by row. From the number to its row: the tests that the answer is made of are gone through. From the row to the number: each
-- test's outcome is known.
use Prim.Native.Nat.{ℕ, ◌*◌}
use mathlib.Core.Path.{◌≡◌, refl, sym, subst, ap, ◌∙◌}
use mathlib.Core.List.{List}
use mathlib.Core.Bool.{Bool, true, false, cond, false≢true}
use borrow.Author.Tests.{eq-eqb, ne_eqb, le-leb, lt-leb, eqb-true, eqb-false, leb-true, leb-false}
use lib.Dec.{eqb, leb}
use lib.ListN.{length}
use Rattle.std.specs.Prelude.{Ok, Err, Option, Some, None}
use Rattle.whole.specs.Exactly.{Exactly}
use Rattle.answers.specs.declared.Refusal.TheVariants.{NoSettings, OtherWindowLength, NoRoom, OtherEntryLength, NothingPending, NoRelay}
use Rattle.answers.specs.Answers.{given_back, is_done, if_done}
use Rattle.answers.proofs.Numbers.{done_is, else_false}
use Rattle.lent.specs.Lent.{first_difference}
use Rattle.lent.proofs.Differences.{difference_first, first_difference_lem, difference_same, difference_self}
use Rattle.samples.specs.Window.{numbers_of, first_missing}
use Rattle.samples.proofs.Bytes.{held}
use Rattle.samples.proofs.Missing.{first_at, first_nothing, is_first}
use Rattle.settings.specs.Table.{settings_table}
use Rattle.settings.specs.Check.{Checked, checked}
use Rattle.settings.proofs.Good.{fault_found, fault_is}
use Rattle.entry.specs.Pair.{record_length}
use Rattle.entry.specs.Entry.{of_difference}
use Rattle.decision.specs.Decision.{decision_length}
use Rattle.decision.specs.Decide.{of_found}
use Rattle.gorsepetal.specs.State.{state_length, settings_of}
use Rattle.gorsepetal.specs.Calls.{is_relay, of_check, verdict, GoodRecord, length_in_force, fits_bytes, propose_answer, confirm_answer, read_back_answer, decide_answer}
use Rattle.claims.specs.GivenBack.{ProposeRow, ConfirmRow, ReadBackRow, DecideRow, ProposeAnswers, ConfirmAnswers, ReadBackAnswers, DecideAnswers}
use Rattle.claims.specs.GivenBack as row
use Rattle.claims.proofs.Relay.{sized}

-- where a call gives back `answer`, and each row leads to it and it to its row
pub both : {Row : ℕ → Type 0} {n : ℕ} (answer : ℕ) → n ≡ answer → Row answer → ((m : ℕ) → Row m → answer ≡ m) → (m : ℕ) → Exactly (n ≡ m) (Row m)
both {Row} answer g r back m = (λ e. subst Row (sym g ∙ e) r, λ h. g ∙ back m h)

-- ---- the tests that the rows share, those of feed in Frames among them

pub relay : (s : List ℕ) → is_relay s ≡ true → length s ≡ state_length
relay s t = eqb-true (length s) state_length t

pub no_relay : (s : List ℕ) → is_relay s ≡ false → length s ≡ state_length → ⊥
no_relay s t = eqb-false (length s) state_length t

pub accepted : (r : List ℕ) → is_done (verdict r) ≡ true → GoodRecord r
accepted r t = done_is (verdict r) t

pub not_accepted : (r : List ℕ) → is_done (verdict r) ≡ false → GoodRecord r → ⊥
not_accepted r t a = false≢true (sym t ∙ ap is_done a)

pub refused : (r : List ℕ) → (GoodRecord r → ⊥) → is_done (verdict r) ≡ false
refused r f = else_false (is_done (verdict r)) (λ t. f (accepted r t))

-- ---- propose

module _ (s e : List ℕ) where
  propose_row :
      (a b : Bool) (f : Checked) → is_relay s ≡ a → eqb (length e) record_length ≡ b → checked e ≡ f →
      ProposeRow s e (given_back (cond a (cond b (of_check f) (Err OtherEntryLength)) (Err NoRelay)))
  propose_row false b f t u v = row.ProposeRow.no_relay (no_relay s t)
  propose_row true false f t u v = row.ProposeRow.entry_length (relay s t) (eqb-false _ _ u)
  propose_row true true (Err f) t u v = row.ProposeRow.out_of_range (relay s t) (eqb-true _ _ u) f.at (fault_found settings_table e f.at v)
  propose_row true true (Ok good) t u v = row.ProposeRow.done (relay s t) (eqb-true _ _ u) (ap of_check v)

  row_propose : (m : ℕ) → ProposeRow s e m → given_back (propose_answer s e) ≡ m
  row_propose m (row.ProposeRow.no_relay l) = rw (ne_eqb (length s) state_length l)
  row_propose m (row.ProposeRow.entry_length l h) = rw (eq-eqb (length s) state_length l, ne_eqb (length e) record_length h)
  row_propose m (row.ProposeRow.out_of_range l h k f) = rw (eq-eqb (length s) state_length l, eq-eqb (length e) record_length h, fault_is settings_table e k f)
  row_propose m (row.ProposeRow.done l h g) = rw (eq-eqb (length s) state_length l, eq-eqb (length e) record_length h, g)

pub propose_answers : ProposeAnswers
propose_answers s e n after c =
    both _ c.given (propose_row s e (is_relay s) (eqb (length e) record_length) (checked e) refl refl refl) (row_propose s e)

-- ---- confirm

module _ (s e : List ℕ) where
  confirm_row :
      (a b y : Bool) (d : Option ℕ) → is_relay s ≡ a → eqb (length e) record_length ≡ b → is_done (verdict (settings_of s).pending) ≡ y
      → first_difference (settings_of s).pending e ≡ d →
      ConfirmRow s e (given_back (cond a (cond b (if_done (cond y (Ok tt) (Err NothingPending)) (of_difference d) (cond y (Ok tt) (Err NothingPending))) (Err OtherEntryLength)) (Err NoRelay)))
  confirm_row false b y d t u v w = row.ConfirmRow.no_relay (no_relay s t)
  confirm_row true false y d t u v w = row.ConfirmRow.entry_length (relay s t) (eqb-false _ _ u)
  confirm_row true true false d t u v w = row.ConfirmRow.nothing_pending (relay s t) (eqb-true _ _ u) (not_accepted _ v)
  confirm_row true true true (Some k) t u v w = row.ConfirmRow.differs (relay s t) (eqb-true _ _ u) (accepted _ v) k (difference_first k _ e w)
  confirm_row true true true None t u v w =
      let l = relay s t in
      let h = eqb-true (length e) record_length u in
      row.ConfirmRow.done l h (accepted _ v) (difference_same _ e ((sized s l).pending ∙ sym h) w)

  row_confirm : (m : ℕ) → ConfirmRow s e m → given_back (confirm_answer s e) ≡ m
  row_confirm m (row.ConfirmRow.no_relay l) = rw (ne_eqb (length s) state_length l)
  row_confirm m (row.ConfirmRow.entry_length l h) = rw (eq-eqb (length s) state_length l, ne_eqb (length e) record_length h)
  row_confirm m (row.ConfirmRow.nothing_pending l h f) =
      rw (eq-eqb (length s) state_length l, eq-eqb (length e) record_length h, refused (settings_of s).pending f)
  row_confirm m (row.ConfirmRow.differs l h g k d) =
      let differ = first_difference_lem k (settings_of s).pending e ((sized s l).pending ∙ sym h) d in
      rw (eq-eqb (length s) state_length l, eq-eqb (length e) record_length h, g, differ)
  row_confirm m (row.ConfirmRow.done l h g p) =
      rw (eq-eqb (length s) state_length l, eq-eqb (length e) record_length h, g, p, difference_self e)

pub confirm_answers : ConfirmAnswers
confirm_answers s e n after c =
    let p = (settings_of s).pending in
    both _ c.given (confirm_row s e (is_relay s) (eqb (length e) record_length) (is_done (verdict p)) (first_difference p e) refl refl refl refl) (row_confirm s e)

-- ---- read-back

module _ (s out : List ℕ) where
  read_row :
      (a y m : Bool) → is_relay s ≡ a → is_done (verdict (settings_of s).force) ≡ y → leb record_length (length out) ≡ m →
      ReadBackRow s out (given_back (if_done (cond a (cond y (Ok tt) (Err NoSettings)) (Err NoRelay)) (cond m (Ok tt) (Err NoRoom)) (cond a (cond y (Ok tt) (Err NoSettings)) (Err NoRelay))))
  read_row false y m t u v = row.ReadBackRow.no_relay (no_relay s t)
  read_row true false m t u v = row.ReadBackRow.no_settings (relay s t) (not_accepted _ u)
  read_row true true false t u v = row.ReadBackRow.no_room (relay s t) (accepted _ u) (leb-false _ _ v)
  read_row true true true t u v = row.ReadBackRow.done (relay s t) (accepted _ u) (leb-true _ _ v)

  row_read : (m : ℕ) → ReadBackRow s out m → given_back (read_back_answer s out) ≡ m
  row_read m (row.ReadBackRow.no_relay l) = rw (ne_eqb (length s) state_length l)
  row_read m (row.ReadBackRow.no_settings l f) = rw (eq-eqb (length s) state_length l, refused (settings_of s).force f)
  row_read m (row.ReadBackRow.no_room l g h) = rw (eq-eqb (length s) state_length l, g, lt-leb record_length (length out) h)
  row_read m (row.ReadBackRow.done l g h) = rw (eq-eqb (length s) state_length l, g, le-leb record_length (length out) h)

pub read_back_answers : ReadBackAnswers
read_back_answers s out n after c =
    let y = is_done (verdict (settings_of s).force) in
    both _ c.given (read_row s out (is_relay s) y (leb record_length (length out)) refl refl refl) (row_read s out)

-- ---- decide

module _ (s b out : List ℕ) where
  decide_row :
      (a y f m : Bool) (x : Option ℕ) → is_relay s ≡ a → is_done (verdict (settings_of s).force) ≡ y → fits_bytes s b ≡ f
      → leb decision_length (length out) ≡ m → first_missing (numbers_of b) ≡ x →
      DecideRow s b out
      (given_back (if_done (cond a (cond y (Ok tt) (Err NoSettings)) (Err NoRelay)) (cond f (cond m (of_found x) (Err NoRoom)) (Err OtherWindowLength)) (cond a (cond y (Ok tt) (Err NoSettings)) (Err NoRelay))))
  decide_row false y f m x t u v w z = row.DecideRow.no_relay (no_relay s t)
  decide_row true false f m x t u v w z = row.DecideRow.no_settings (relay s t) (not_accepted _ u)
  decide_row true true false m x t u v w z = row.DecideRow.window_length (relay s t) (accepted _ u) (eqb-false _ _ v)
  decide_row true true true false x t u v w z = row.DecideRow.no_room (relay s t) (accepted _ u) (eqb-true _ _ v) (leb-false _ _ w)
  decide_row true true true true (Some k) t u v w z =
      let h = eqb-true (length b) (2 * length_in_force s) v in
      let first = first_at (numbers_of b) k z in
      row.DecideRow.missing_sample (relay s t) (accepted _ u) h (leb-true _ _ w) k (rw (held (length_in_force s) b h) at first.0) first.1 first.2
  decide_row true true true true None t u v w z =
      let h = eqb-true (length b) (2 * length_in_force s) v in
      row.DecideRow.done (relay s t) (accepted _ u) h (leb-true _ _ w) (rw (held (length_in_force s) b h) at (first_nothing (numbers_of b) z))

  row_decide : (m : ℕ) → DecideRow s b out m → given_back (decide_answer s (fits_bytes s b) (numbers_of b) out) ≡ m
  row_decide m (row.DecideRow.no_relay l) = rw (ne_eqb (length s) state_length l)
  row_decide m (row.DecideRow.no_settings l f) = rw (eq-eqb (length s) state_length l, refused (settings_of s).force f)
  row_decide m (row.DecideRow.window_length l g h) = rw (eq-eqb (length s) state_length l, g, ne_eqb (length b) (2 * length_in_force s) h)
  row_decide m (row.DecideRow.no_room l g h q) =
      rw (eq-eqb (length s) state_length l, g, eq-eqb (length b) (2 * length_in_force s) h, lt-leb decision_length (length out) q)
  row_decide m (row.DecideRow.missing_sample l g h q k i there before) =
      let first = is_first (numbers_of b) (Some k) (rw (held (length_in_force s) b h) i, there, before) in
      rw (eq-eqb (length s) state_length l, g, eq-eqb (length b) (2 * length_in_force s) h, le-leb decision_length (length out) q, ← first)
  row_decide m (row.DecideRow.done l g h q none) =
      let first = is_first (numbers_of b) None (rw (held (length_in_force s) b h) none) in
      rw (eq-eqb (length s) state_length l, g, eq-eqb (length b) (2 * length_in_force s) h, le-leb decision_length (length out) q, ← first)

pub decide_answers : DecideAnswers
decide_answers s b out n after c =
    let y = is_done (verdict (settings_of s).force) in
    let m = leb decision_length (length out) in
    both _ c.given (decide_row s b out (is_relay s) y (fits_bytes s b) m (first_missing (numbers_of b)) refl refl refl refl refl) (row_decide s b out)
