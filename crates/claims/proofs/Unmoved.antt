-- What feeding does not move: each write goes over one part of the state, and the older calls read the pair alone.
use Prim.Native.Nat.{ℕ, ◌+◌, ◌*◌, ◌≤◌}
use mathlib.Core.Path.{◌≡◌, refl, sym, ap, ap₂, ◌∙◌}
use mathlib.Core.List.{List, ◌++◌, append-nil}
use mathlib.Core.Bool.{Bool, true, false, cond}
use native.Mathlib.Omega.{arith}
use borrow.Author.Tests.{eq-eqb}
use lib.ListN.{length, take, replicate, drop_of_length-le}
use lib.Seq.{length-take-le}
use Rattle.answers.specs.Answers.{Answer, given_back, is_done}
use Rattle.answers.proofs.Numbers.{not_zero_refused, zero_is}
use Rattle.lent.proofs.Over.{over_from}
use Rattle.samples.specs.Window.{frames, numbers_of}
use Rattle.stream.specs.Window.{none}
use Rattle.stream.specs.Stored.{stored_length, stored, stored_first}
use Rattle.stream.proofs.Bytes.{bytes_length}
use Rattle.stream.proofs.Storing.{none_stored}
use Rattle.entry.specs.Pair.{Pair}
use Rattle.entry.specs.Entry as entry
use Rattle.entry.proofs.Done.{proposed_sized, confirmed_sized}
use Rattle.feed.specs.Feed.{numbers_of_frame, with_frame, with_kept}
use Rattle.gorsepetal.specs.State.{state_length, window_offset, settings_of, with_settings, window_of, emptied}
use Rattle.gorsepetal.specs.Calls.{verdict, standing, confirmed_pair, read_back_answer, read_back_out, decide_answer, decide_out, fits_bytes, feed_keeps, Confirmed}
use Rattle.gorsepetal.proofs.EventCases.{Hands, nothing, a_frame, hands}
use Rattle.claims.specs.GivenBack.{Keepable}
use Rattle.claims.specs.Unmoved.{pair_part, window_part, FeedLeavesSettings, ReadLeavesSettings, EntriesLeaveWindow, WindowDoesNotMatter}
use Rattle.claims.proofs.Parts.{pair_stays, over_window_length, settings_stay, part_stays}
use Rattle.claims.proofs.Relay.{sized, paired, propose_left, confirm_left}
use Rattle.claims.proofs.Frames.{keepable, full, few}

-- ---- a frame leaves the records

-- what is written of a window moved on is no longer than the window's part
short : (s f out : List ℕ) → Keepable s f out → let r = (settings_of s).force in
    length (stored_first (frames * numbers_of_frame r) (with_frame r (window_of s) f)) ≤ stored_length
short s f out k =
    let r = (settings_of s).force in
    let n = frames * numbers_of_frame r in
    let xs = (with_frame r (window_of s) f).numbers in
    let part : length (take n xs) ≡ n = length-take-le n xs (omega (arith, few s f out k, full s f out k)) in
    omega (arith, bytes_length (take n xs), part, few s f out k)

pub feed_leaves_settings : FeedLeavesSettings
feed_leaves_settings s f out n s₁ out₁ l c = by_test (is_done (feed_keeps s f out)) refl c.state
  where
    by_test :
        (b : Bool) → is_done (feed_keeps s f out) ≡ b → s₁ ≡ cond b (with_kept (settings_of s).force window_offset s f) s
        → (length s₁ ≡ state_length) × (settings_of s₁ ≡ settings_of s) × (pair_part s₁ ≡ pair_part s)
    by_test true t e =
        let r = (settings_of s).force in
        let x = stored_first (frames * numbers_of_frame r) (with_frame r (window_of s) f) in
        let room = short s f out (keepable s f out t) in
        (ap length e ∙ over_window_length s x l room, ap settings_of e ∙ settings_stay s x l room, ap pair_part e ∙ pair_stays s x l)
    by_test false t e = (ap length e ∙ l, ap settings_of e, ap pair_part e)

-- a piece of an event file hands one on, or leaves the state
pub read_leaves_settings : ReadLeavesSettings
read_leaves_settings s r p out n s₁ r₁ out₁ l c = by_hands (hands s r p out)
  where
    by_hands : Hands s r p out → (length s₁ ≡ state_length) × (settings_of s₁ ≡ settings_of s) × (pair_part s₁ ≡ pair_part s)
    by_hands (nothing e t o) = let k = c.state ∙ t in (ap length k ∙ l, ap settings_of k, ap pair_part k)
    by_hands (a_frame f e a t o) =
        feed_leaves_settings s f out n s₁ out₁ l (record { given = c.given ∙ ap given_back a; state = c.state ∙ t; buffer = c.buffer ∙ o })

-- ---- an entry leaves the window

-- a window that was just emptied is zero bytes, and nothing lies behind it
emptied_part : (s : List ℕ) → length s ≡ state_length → window_part (emptied s) ≡ replicate stored_length 0
emptied_part s l =
    let x = stored none in
    let long : length x ≡ stored_length = ap length none_stored in
    over_from s window_offset x (omega arith) ∙ ap (λ (y : List ℕ). x ++ y) (drop_of_length-le s {i = window_offset + length x} (omega (arith, long))) ∙ append-nil x ∙ none_stored

module _ (s e : List ℕ) (l : length s ≡ state_length) where
  abbrev answer : Answer
  answer = entry.confirm_answer (standing s) (settings_of s) e

  -- what a confirmation makes of the state, by its answer
  confirm_state_lem : (n : ℕ) (s₁ : List ℕ) → Confirmed s e n s₁ → (b : Bool) → is_done answer ≡ b → s₁ ≡ cond b (emptied (confirmed_pair s e)) (confirmed_pair s e)
  confirm_state_lem n s₁ c b t =
      c.state ∙ ap₂ (λ (i j : Bool). cond i (cond j (emptied (confirmed_pair s e)) (confirmed_pair s e)) s) (eq-eqb (length s) state_length l) t

pub entries_leave_window : EntriesLeaveWindow
entries_leave_window s e n s₁ l =
    let t = eq-eqb (length s) state_length l in
    let p = entry.proposed (verdict e) (settings_of s) e in
    let q = entry.confirmed (standing s) (settings_of s) e in
    let proposing = part_stays s p (proposed_sized (verdict e) (settings_of s) e (sized s l)) in
    let confirming = part_stays s q (confirmed_sized (standing s) (settings_of s) e (sized s l)) in (
      λ c. let state : s₁ ≡ with_settings s p = c.state ∙ rw t in ap window_part state ∙ proposing,
      λ c not-0.
          let k = confirm_left s l e n s₁ c in
          ap window_part (confirm_state_lem s e l n s₁ c false (not_zero_refused (answer s e l) (λ z. not-0 (k.given ∙ z)))) ∙ confirming,
      λ c.
          let k = confirm_left s l e 0 s₁ c in
          ap window_part (confirm_state_lem s e l 0 s₁ c true (ap is_done (zero_is (answer s e l) (sym k.given)))) ∙ emptied_part (confirmed_pair s e) (paired s l q (confirmed_sized (standing s) (settings_of s) e (sized s l))),
    )

-- ---- the older calls go by the pair

pub window_does_not_matter : WindowDoesNotMatter
window_does_not_matter s t x out n n' after after' l k same =
    let p = eq-eqb (length s) state_length l in
    let q = eq-eqb (length t) state_length k in
    let force : (settings_of s).force ≡ (settings_of t).force = ap (λ (y : Pair). y.force) same in (
      λ c d. let a = propose_left s l x n after c in let b = propose_left t k x n' after' d in
          (a.given ∙ sym b.given, a.pair ∙ ap (λ (y : Pair). entry.proposed (verdict x) y x) same ∙ sym b.pair),
      λ c d. let a = confirm_left s l x n after c in let b = confirm_left t k x n' after' d in (
        a.given ∙ ap (λ (y : Pair). given_back (entry.confirm_answer (entry.standing (verdict y.pending)) y x)) same ∙ sym b.given,
        a.pair ∙ ap (λ (y : Pair). entry.confirmed (entry.standing (verdict y.pending)) y x) same ∙ sym b.pair,
      ),
      λ c d.
          let answers : read_back_answer s out ≡ read_back_answer t out = rw (p, q, force) in
          let written : read_back_out s out ≡ read_back_out t out = rw (p, q, force) in
          (c.given ∙ ap given_back answers ∙ sym d.given, c.buffer ∙ written ∙ sym d.buffer),
      λ c d.
          let answers : decide_answer s (fits_bytes s x) (numbers_of x) out ≡ decide_answer t (fits_bytes t x) (numbers_of x) out = rw (p, q, force) in
          let written : decide_out s (fits_bytes s x) (numbers_of x) out ≡ decide_out t (fits_bytes t x) (numbers_of x) out = rw (p, q, force) in
          (c.given ∙ ap given_back answers ∙ sym d.given, c.buffer ∙ written ∙ sym d.buffer),
    )
