-- What the desk may rely on, call by call.
use Prim.Native.Nat.{ℕ, ◌+◌, ◌*◌, ◌≤◌}
use mathlib.Core.Path.{◌≡◌, refl, sym, ap, subst, ◌∙◌}
use mathlib.Core.List.{List, ◌++◌}
use native.Mathlib.Omega.{arith}
use borrow.Author.Tests.{eq-eqb, ne_eqb, le-leb}
use lib.ListN.{length, take, drop}
use lib.Seq.{take_at, drop_at}
use Rattle.std.specs.Prelude.{Some}
use Rattle.answers.proofs.Numbers.{zero_is, not_zero_refused}
use Rattle.lent.specs.Lent.{FirstAt}
use Rattle.lent.proofs.Differences.{difference_self}
use Rattle.samples.specs.Window.{channels, numbers_of, first_missing}
use Rattle.samples.proofs.Bytes.{held}
use Rattle.samples.proofs.Missing.{is_first, first_in_order}
use Rattle.settings.specs.Fields.{ends}
use Rattle.settings.proofs.Good.{in_ranges_good}
use Rattle.entry.specs.Pair.{record_length, nothing}
use Rattle.entry.specs.Entry.{propose_answer, confirm_answer}
use Rattle.gorsepetal.specs.State.{state_length, settings_of}
use Rattle.gorsepetal.specs.Calls.{of_check, verdict, GoodRecord, standing, Proposed, Confirmed, ReadBack, read_back_answer, length_in_force, fits_bytes, decide_answer}
use Rattle.gorsepetal.proofs.Good.{in_range}
use Rattle.claims.specs.Settings.{GoodExactly, FreshHasNothing, AcceptedProposal, AcceptedConfirmation, GoodComesIntoForce, ReadsWhatIsInForce, ConfirmedReadsBack, RefusedEntry, NoThirdEntry, DiffersAtFirst, MissingInOrder, RefusedReadBack, RefusedDecide, NoRelayNoChange}
use Rattle.claims.specs.GivenBack.{ProposeRow, ConfirmRow, ReadBackRow, DecideRow}
use Rattle.claims.specs.GivenBack as row
use Rattle.claims.proofs.GivenBack.{propose_answers, confirm_answers, read_back_answers, decide_answers}
use Rattle.claims.proofs.Relay.{sized, propose_left, confirm_left}
use Rattle.claims.proofs.Demand1.{blank}

pub good_exactly : GoodExactly
good_exactly r = (in_range r, λ h. ap of_check (in_ranges_good r h))

pub fresh_has_nothing : FreshHasNothing
fresh_has_nothing b out e n after =
    (λ c. c.given ∙ rw blank, λ c. c.given ∙ rw blank, λ s₁ c. c.given ∙ rw blank, λ c l. c.given ∙ rw (eq-eqb (length e) 32 l, blank))

-- an entry answered 0 is in its row
proposed_0 : (s e : List ℕ) (n : ℕ) → ProposeRow s e n → n ≡ 0 → (length s ≡ state_length) × (length e ≡ record_length) × GoodRecord e
proposed_0 s e n (row.ProposeRow.no_relay l) z = absurd (omega arith)
proposed_0 s e n (row.ProposeRow.entry_length l h) z = absurd (omega arith)
proposed_0 s e n (row.ProposeRow.out_of_range l h k f) z = absurd (omega arith)
proposed_0 s e n (row.ProposeRow.done l h g) z = (l, h, g)

pub confirmed_0 : (s e : List ℕ) (n : ℕ) → ConfirmRow s e n → n ≡ 0 → (length s ≡ state_length) × GoodRecord (settings_of s).pending × ((settings_of s).pending ≡ e)
confirmed_0 s e n (row.ConfirmRow.no_relay l) z = absurd (omega arith)
confirmed_0 s e n (row.ConfirmRow.entry_length l h) z = absurd (omega arith)
confirmed_0 s e n (row.ConfirmRow.nothing_pending l h f) z = absurd (omega arith)
confirmed_0 s e n (row.ConfirmRow.differs l h g k f) z = absurd (omega arith)
confirmed_0 s e n (row.ConfirmRow.done l h g p) z = (l, g, p)

pub accepted_proposal : AcceptedProposal Proposed
accepted_proposal s e s₁ c =
    let r = proposed_0 s e 0 ((propose_answers s e 0 s₁ c 0).0 refl) refl in
    let k = propose_left s r.0 e 0 s₁ c in
    (ap (λ p. p.force) k.pair, ap (λ p. p.pending) k.pair ∙ rw (eq-eqb (length e) 32 r.1, r.2))

pub accepted_confirmation : AcceptedConfirmation
accepted_confirmation s e s₁ c =
    let r = confirmed_0 s e 0 ((confirm_answers s e 0 s₁ c 0).0 refl) refl in
    let k = confirm_left s r.0 e 0 s₁ c in
    let done = zero_is (confirm_answer (standing s) (settings_of s) e) (sym k.given) in
    (r.2, rw r.2 at r.1, ap (λ p. p.force) k.pair ∙ rw done, ap (λ p. p.pending) k.pair)

pub refused_proposal : RefusedEntry Proposed
refused_proposal s e n s₁ l c refused =
    let k = propose_left s l e n s₁ c in
    let r = not_zero_refused (propose_answer (verdict e) e) (λ z. refused (k.given ∙ z)) in
    (ap (λ p. p.force) k.pair, ap (λ p. p.pending) k.pair ∙ rw r)

pub refused_confirmation : RefusedEntry Confirmed
refused_confirmation s e n s₁ l c refused =
    let k = confirm_left s l e n s₁ c in
    let r = not_zero_refused (confirm_answer (standing s) (settings_of s) e) (λ z. refused (k.given ∙ z)) in
    (ap (λ p. p.force) k.pair ∙ rw r, ap (λ p. p.pending) k.pair)

pub no_third_entry : NoThirdEntry
no_third_entry s e e' n n' s₁ s₂ l l' c c' =
    let k = confirm_left s l e n s₁ c in
    let none : verdict (settings_of s₁).pending ≡ verdict nothing = ap (λ p. verdict p.pending) k.pair in
    let k' = confirm_left s₁ k.relay e' n' s₂ c' in
    k'.given ∙ rw (eq-eqb (length e') 32 l', none, blank)

pub good_comes_into_force : GoodComesIntoForce
good_comes_into_force s e n m s₁ s₂ l le good c c' =
    let t = eq-eqb (length e) 32 le in
    let k = propose_left s l e n s₁ c in
    let pending : (settings_of s₁).pending ≡ e = ap (λ p. p.pending) k.pair ∙ rw (t, good) in
    let k' = confirm_left s₁ k.relay e m s₂ c' in (
      k.given ∙ rw (t, good),
      k'.given ∙ rw (t, pending, good, difference_self e),
      ap (λ p. p.force) k'.pair ∙ rw (t, pending, good, difference_self e),
      ap (λ p. p.pending) k'.pair,
    )

-- an answer of 8 is in its row, with its place
row_8 : (s e : List ℕ) (n k : ℕ) → ConfirmRow s e n → n ≡ 256 * k + 8 → FirstAt (settings_of s).pending e k
row_8 s e n k (row.ConfirmRow.no_relay l) z = absurd (omega arith)
row_8 s e n k (row.ConfirmRow.entry_length l h) z = absurd (omega arith)
row_8 s e n k (row.ConfirmRow.nothing_pending l h f) z = absurd (omega arith)
row_8 s e n k (row.ConfirmRow.differs l h g i f) z = let same : i ≡ k = omega arith in subst (FirstAt (settings_of s).pending e) same f
row_8 s e n k (row.ConfirmRow.done l h g p) z = absurd (omega arith)

pub differs_at_first : DiffersAtFirst
differs_at_first s e k s₁ c = row_8 s e _ k ((confirm_answers s e _ s₁ c _).0 refl) refl

-- and so is an answer of 4
row_4 : (s b out : List ℕ) (n k : ℕ) → DecideRow s b out n → n ≡ 256 * k + 4 → first_missing (numbers_of b) ≡ Some k
row_4 s b out n k (row.DecideRow.no_relay l) z = absurd (omega arith)
row_4 s b out n k (row.DecideRow.no_settings l g) z = absurd (omega arith)
row_4 s b out n k (row.DecideRow.window_length l g h) z = absurd (omega arith)
row_4 s b out n k (row.DecideRow.no_room l g h q) z = absurd (omega arith)
row_4 s b out n k (row.DecideRow.missing_sample l g h q i below there before) z =
    let same : i ≡ k = omega arith in
    sym (is_first (numbers_of b) (Some i) (rw (held (length_in_force s) b h) below, there, before)) ∙ ap Some same
row_4 s b out n k (row.DecideRow.done l g h q none) z = absurd (omega arith)

pub missing_in_order : MissingInOrder
missing_in_order s b out f c after l d =
    first_in_order (channels (ends (settings_of s).force)) (numbers_of b) f c l (row_4 s b out _ _ ((decide_answers s b out _ after d _).0 refl) refl)

pub no_relay_no_change : NoRelayNoChange
no_relay_no_change s e out n after f =
    let t = ne_eqb (length s) state_length f in (
      λ c. (c.given ∙ rw t, c.state ∙ rw t),
      λ c. (c.given ∙ rw t, c.state ∙ rw t),
      λ c. (c.given ∙ rw t, c.buffer ∙ rw t),
      λ c. (c.given ∙ rw t, c.buffer ∙ rw t),
      λ s₁ c. (c.given ∙ rw t, c.state ∙ rw t, c.buffer ∙ rw t),
    )

pub refused_read_back : RefusedReadBack
refused_read_back s out n after c refused = c.buffer ∙ rw (not_zero_refused (read_back_answer s out) (λ z. refused (c.given ∙ z)))

pub refused_decide : RefusedDecide
refused_decide s b out n after c refused =
    c.buffer ∙ rw (not_zero_refused (decide_answer s (fits_bytes s b) (numbers_of b) out) (λ z. refused (c.given ∙ z)))

-- ---- what is read back

-- a read-back answered 0 is in its row
pub read_0 : (s out : List ℕ) (n : ℕ) → ReadBackRow s out n → n ≡ 0 → (length s ≡ state_length) × GoodRecord (settings_of s).force × (record_length ≤ length out)
read_0 s out n (row.ReadBackRow.no_relay l) z = absurd (omega arith)
read_0 s out n (row.ReadBackRow.no_settings l f) z = absurd (omega arith)
read_0 s out n (row.ReadBackRow.no_room l g h) z = absurd (omega arith)
read_0 s out n (row.ReadBackRow.done l g h) z = (l, g, h)

pub reads_what_is_in_force : ReadsWhatIsInForce ReadBack
reads_what_is_in_force s out after b =
    let r = read_0 s out 0 ((read_back_answers s out 0 after b 0).0 refl) refl in
    let force = (settings_of s).force in
    let size : length force ≡ record_length = (sized s r.0).force in
    let written : after ≡ force ++ drop (0 + length force) out = b.buffer ∙ rw (eq-eqb (length s) state_length r.0, r.1, le-leb 32 (length out) r.2) in (
      ap (take 32) written ∙ take_at force (drop (0 + length force) out) 32 size,
      ap (drop 32) written ∙ drop_at force (drop (0 + length force) out) 32 size ∙ rw size,
    )

pub confirmed_reads_back : ConfirmedReadsBack
confirmed_reads_back s e s₁ out n after c b room =
    let r = accepted_confirmation s e s₁ c in
    let l = (confirmed_0 s e 0 ((confirm_answers s e 0 s₁ c 0).0 refl) refl).0 in
    let good : GoodRecord (settings_of s₁).force = rw r.2 r.1 in
    let zero = (read_back_answers s₁ out n after b 0).1 (row.ReadBackRow.done (confirm_left s l e 0 s₁ c).relay good room) in
    let k = reads_what_is_in_force s₁ out after (subst (λ (m : ℕ). ReadBack s₁ out m after) zero b) in
    (zero, k.0 ∙ r.2, k.1)
