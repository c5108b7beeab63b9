-- One frame that is fed: each number comes in its row's condition alone, and what follows of what is kept and of what is written.
use Prim.Native.Nat.{ℕ, ◌+◌, ◌*◌, ◌≤◌, ◌<◌}
use mathlib.Core.Path.{◌≡◌, refl, sym, ap, ap₂, ◌∙◌}
use mathlib.Core.List.{List, [], ◌∷◌}
use mathlib.Core.Bool.{Bool, true, false, cond, false≢true}
use native.Mathlib.Omega.{arith}
use borrow.Author.Tests.{eq-eqb, ne_eqb, le-leb, lt-leb, eqb-true, eqb-false, leb-true, leb-false}
use lib.Dec.{leb}
use lib.IntN.{ℤ}
use lib.ListN.{length}
use lib.Seq.{length-take-le}
use Rattle.std.specs.Prelude.{Ok, Err, Option, Some, None}
use Rattle.answers.specs.declared.Refusal.TheVariants.{NoSettings, NoRoom, OtherFrameLength, TooFewFrames, NoRelay}
use Rattle.answers.specs.Answers.{Answer, given_back, number_in, is_done, if_done}
use Rattle.answers.proofs.Numbers.{not_zero_refused}
use Rattle.samples.specs.Window.{frames, window_length, numbers_of, first_missing}
use Rattle.samples.proofs.Bytes.{held}
use Rattle.samples.proofs.Missing.{first_at, first_nothing, is_first, first_in_order}
use Rattle.stream.specs.Window.{counted}
use Rattle.stream.proofs.Moving.{moved_length}
use Rattle.stream.proofs.Reading.{part_holds}
use Rattle.settings.specs.Fields.{ends}
use Rattle.decision.specs.Decision.{decision_length}
use Rattle.decision.specs.Decide.{of_found, written}
use Rattle.feed.specs.Feed.{numbers_of_frame, fits_frame, with_frame, with_kept}
use Rattle.gorsepetal.specs.State.{state_length, window_offset, settings_of, window_of}
use Rattle.gorsepetal.specs.Calls.{is_relay, verdict, length_in_force, fits_bytes, decide_answer, feed_keeps, newest_of, feed_answer, Fed}
use Rattle.gorsepetal.proofs.EventCases.{Hands, nothing, a_frame, hands}
use Rattle.gorsepetal.proofs.Good.{in_range}
use Rattle.claims.specs.GivenBack.{Keepable, FeedRow, FeedAnswers}
use Rattle.claims.specs.GivenBack as row
use Rattle.claims.specs.Frames.{IsKept, KeptExactly, ElseNothingKept, RefusedFeed, FedAsDecided, MissingInFrames, ReadIsFed, ElseUnfed}
use Rattle.claims.proofs.GivenBack.{both, relay, no_relay, accepted, not_accepted, refused}

module _ (s f out : List ℕ) where
  abbrev r : List ℕ
  r = (settings_of s).force

  abbrev m : ℕ
  m = numbers_of_frame r

  -- the tests of 17, 1, 9 and 3, and where they are all passed
  abbrev passing : Bool → Bool → Bool → Bool → Answer
  passing a y x b =
      let first = cond a (cond y (Ok tt) (Err NoSettings)) (Err NoRelay) in
      if_done first (cond x (cond b (Ok tt) (Err NoRoom)) (Err OtherFrameLength)) first

  passed : is_relay s ≡ true → is_done (verdict r) ≡ true → fits_frame r f ≡ true → leb decision_length (length out) ≡ true → Keepable s f out
  passed p q u v = record { relay = relay s p; good = accepted r q; whole = eqb-true _ _ u; room = leb-true _ _ v }

  pub keepable : is_done (feed_keeps s f out) ≡ true → Keepable s f out
  keepable t = by_tests (is_relay s) (is_done (verdict r)) (fits_frame r f) (leb decision_length (length out)) refl refl refl refl t
    where
      by_tests :
          (a y x b : Bool) → is_relay s ≡ a → is_done (verdict r) ≡ y → fits_frame r f ≡ x → leb decision_length (length out) ≡ b
          → is_done (passing a y x b) ≡ true → Keepable s f out
      by_tests true true true true p q u v t = passed p q u v
      by_tests true true true false p q u v t = absurd (false≢true t)
      by_tests true true false b p q u v t = absurd (false≢true t)
      by_tests true false x b p q u v t = absurd (false≢true t)
      by_tests false y x b p q u v t = absurd (false≢true t)

  module _ (k : Keepable s f out) where
    pub keeps_done : feed_keeps s f out ≡ Ok tt
    keeps_done = rw (eq-eqb (length s) state_length k.relay, k.good, eq-eqb (length f) (2 * m) k.whole, le-leb decision_length (length out) k.room)

    pub few : ends r ≤ 6
    few = (in_range r k.good).ends_range.most

    -- the window has 336 numbers, before this frame and with it
    pub was_full : length (window_of s).numbers ≡ window_length 6
    was_full = let l = k.relay in held (window_length 6) _ (part_holds s window_offset (omega arith))

    pub full : length (with_frame r (window_of s) f).numbers ≡ window_length 6
    full = moved_length frames m (window_of s).numbers (numbers_of f) (omega (arith, few, was_full)) (held m f k.whole) ∙ was_full

    pub newest_length : length (newest_of s f) ≡ length_in_force s
    newest_length = length-take-le (frames * m) (with_frame r (window_of s) f).numbers (omega (arith, few, full))

  -- ---- row by row

  feed_row :
      (a y x b e : Bool) (z : Option ℕ) → is_relay s ≡ a → is_done (verdict r) ≡ y → fits_frame r f ≡ x → leb decision_length (length out) ≡ b
      → leb frames (counted frames (window_of s).count) ≡ e → first_missing (newest_of s f) ≡ z →
      FeedRow s f out (given_back (if_done (passing a y x b) (cond e (of_found z) (Err TooFewFrames)) (passing a y x b)))
  feed_row false y x b e z p q u v g h = row.FeedRow.no_relay (no_relay s p)
  feed_row true false x b e z p q u v g h = row.FeedRow.no_settings (relay s p) (not_accepted r q)
  feed_row true true false b e z p q u v g h = row.FeedRow.frame_length (relay s p) (accepted r q) (eqb-false _ _ u)
  feed_row true true true false e z p q u v g h = row.FeedRow.no_room (relay s p) (accepted r q) (eqb-true _ _ u) (leb-false _ _ v)
  feed_row true true true true false z p q u v g h =
      let k = passed p q u v in
      let less = leb-false frames (counted frames (window_of s).count) g in
      row.FeedRow.too_few k (omega arith)
  feed_row true true true true true (Some i) p q u v g h =
      let k = passed p q u v in
      let enough = leb-true frames (counted frames (window_of s).count) g in
      let first = first_at (newest_of s f) i h in
      row.FeedRow.missing_sample k (omega arith) i (rw (newest_length k) at first.0) first.1 first.2
  feed_row true true true true true None p q u v g h =
      let k = passed p q u v in
      let enough = leb-true frames (counted frames (window_of s).count) g in
      row.FeedRow.done k (omega arith) (rw (newest_length k) at (first_nothing (newest_of s f) h))

  -- a frame that is kept: 10, or what is found in the newest 16
  pub early_answer : Keepable s f out → (window_of s).count + 1 < frames → feed_answer s f out ≡ Err TooFewFrames
  early_answer k less =
      let no = lt-leb frames (counted frames (window_of s).count) (omega arith) in
      ap₂ (λ (a : Answer) (e : Bool). if_done a (cond e (of_found (first_missing (newest_of s f))) (Err TooFewFrames)) a) (keeps_done k) no

  pub full_answer : Keepable s f out → frames ≤ (window_of s).count + 1 → feed_answer s f out ≡ of_found (first_missing (newest_of s f))
  full_answer k enough =
      let yes = le-leb frames (counted frames (window_of s).count) (omega arith) in
      ap₂ (λ (a : Answer) (e : Bool). if_done a (cond e (of_found (first_missing (newest_of s f))) (Err TooFewFrames)) a) (keeps_done k) yes

  row_feed : (n : ℕ) → FeedRow s f out n → given_back (feed_answer s f out) ≡ n
  row_feed n (row.FeedRow.no_relay l) = rw (ne_eqb (length s) state_length l)
  row_feed n (row.FeedRow.no_settings l g) = rw (eq-eqb (length s) state_length l, refused r g)
  row_feed n (row.FeedRow.frame_length l g h) = rw (eq-eqb (length s) state_length l, g, ne_eqb (length f) (2 * m) h)
  row_feed n (row.FeedRow.no_room l g h q) = rw (eq-eqb (length s) state_length l, g, eq-eqb (length f) (2 * m) h, lt-leb decision_length (length out) q)
  row_feed n (row.FeedRow.too_few k less) = ap given_back (early_answer k less)
  row_feed n (row.FeedRow.missing_sample k enough i below there before) =
      let first = is_first (newest_of s f) (Some i) (rw (newest_length k) below, there, before) in
      ap given_back (full_answer k enough ∙ ap of_found (sym first))
  row_feed n (row.FeedRow.done k enough none) =
      let first = is_first (newest_of s f) None (rw (newest_length k) none) in
      ap given_back (full_answer k enough ∙ ap of_found (sym first))

pub feed_answers : FeedAnswers
feed_answers s f out n s₁ out₁ c =
    let y = is_done (verdict (settings_of s).force) in
    let e = leb frames (counted frames (window_of s).count) in
    both _ c.given
    (feed_row s f out (is_relay s) y (fits_frame (settings_of s).force f) (leb decision_length (length out)) e (first_missing (newest_of s f)) refl refl refl refl refl refl)
    (row_feed s f out)

-- ---- what is kept

pub four : (k : ℕ) → number_in (256 * k + 4) ≡ 4
four k = omega arith

pub kept_exactly : KeptExactly
kept_exactly s f out n s₁ out₁ c = (there n ((feed_answers s f out n s₁ out₁ c n).0 refl), back n ((feed_answers s f out n s₁ out₁ c n).0 refl))
  where
    there : (n : ℕ) → FeedRow s f out n → IsKept n → Keepable s f out
    there n (row.FeedRow.no_relay l) t = absurd (false≢true t)
    there n (row.FeedRow.no_settings l g) t = absurd (false≢true t)
    there n (row.FeedRow.frame_length l g h) t = absurd (false≢true t)
    there n (row.FeedRow.no_room l g h q) t = absurd (false≢true t)
    there n (row.FeedRow.too_few k less) t = k
    there n (row.FeedRow.missing_sample k enough i below at before) t = k
    there n (row.FeedRow.done k enough none) t = k

    back : (n : ℕ) → FeedRow s f out n → Keepable s f out → IsKept n
    back n (row.FeedRow.no_relay l) k = absurd (l k.relay)
    back n (row.FeedRow.no_settings l g) k = absurd (g k.good)
    back n (row.FeedRow.frame_length l g h) k = absurd (h k.whole)
    back n (row.FeedRow.no_room l g h q) k = let room = k.room in absurd (omega arith)
    back n (row.FeedRow.too_few k₁ less) k = refl
    back n (row.FeedRow.missing_sample k₁ enough i below at before) k = rw (four i)
    back n (row.FeedRow.done k₁ enough none) k = refl

pub else_nothing_kept : ElseNothingKept
else_nothing_kept s f out n s₁ out₁ c not_kept = c.state ∙ by_test (is_done (feed_keeps s f out)) refl
  where
    by_test : (b : Bool) → is_done (feed_keeps s f out) ≡ b → cond b (with_kept (settings_of s).force window_offset s f) s ≡ s
    by_test true t = absurd (not_kept ((kept_exactly s f out n s₁ out₁ c).1 (keepable s f out t)))
    by_test false t = refl

pub refused_feed : RefusedFeed
refused_feed s f out n s₁ out₁ c not-0 = c.buffer ∙ rw (not_zero_refused (feed_answer s f out) (λ z. not-0 (c.given ∙ z)))

pub fed_as_decided : FedAsDecided
fed_as_decided s f out n s₁ out₁ c is-kept enough b same long =
    let k = (kept_exactly s f out n s₁ out₁ c).0 is-kept in
    let r = (settings_of s).force in
    let w = newest_of s f in
    let answer : decide_answer s (fits_bytes s b) (numbers_of b) out ≡ of_found (first_missing w) =
    rw (eq-eqb (length s) state_length k.relay, k.good, eq-eqb (length b) (2 * length_in_force s) long, le-leb decision_length (length out) k.room) (ap (λ (x : List ℤ). of_found (first_missing x)) same) in
    let heard = full_answer s f out k enough in
    record {
      given = c.given ∙ ap given_back (heard ∙ sym answer);
      buffer = c.buffer ∙ ap₂ (λ (a : Answer) (x : List ℤ). written a r x out) (heard ∙ sym answer) (sym same);
    }

-- an answer of 4 is in its row, with its place: there are 16 frames, and it is the first missing number of them
pub row_4 : (s f out : List ℕ) (n k : ℕ) → FeedRow s f out n → n ≡ 256 * k + 4 → (frames ≤ (window_of s).count + 1) × (first_missing (newest_of s f) ≡ Some k)
row_4 s f out n k (row.FeedRow.no_relay l) z = absurd (omega arith)
row_4 s f out n k (row.FeedRow.no_settings l g) z = absurd (omega arith)
row_4 s f out n k (row.FeedRow.frame_length l g h) z = absurd (omega arith)
row_4 s f out n k (row.FeedRow.no_room l g h q) z = absurd (omega arith)
row_4 s f out n k (row.FeedRow.too_few h less) z = absurd (omega arith)
row_4 s f out n k (row.FeedRow.missing_sample h enough i below there before) z =
    let same : i ≡ k = omega arith in
    (enough, sym (is_first (newest_of s f) (Some i) (rw (newest_length s f out h) below, there, before)) ∙ ap Some same)
row_4 s f out n k (row.FeedRow.done h enough none) z = absurd (omega arith)

pub missing_in_frames : MissingInFrames
missing_in_frames s f out g c s₁ out₁ l d =
    first_in_order (numbers_of_frame (settings_of s).force) (newest_of s f) g c l (row_4 s f out _ _ ((feed_answers s f out _ s₁ out₁ d _).0 refl) refl).1

-- ---- a piece of an event file

pub read_is_fed : ReadIsFed
read_is_fed s r p out f n s₁ r₁ out₁ c h = by_hands (hands s r p out)
  where
    by_hands : Hands s r p out → Fed s f out n s₁ out₁
    by_hands (nothing e t o) = let none = sym e ∙ h in let z : ◌≡◌ {A = ℕ} 0 1 = cc in absurd (omega arith)
    by_hands (a_frame g e a t o) =
        let one : g ∷ [] ≡ f ∷ [] = sym e ∙ h in
        let same : g ≡ f = cc in
        rw (← same) (record { given = c.given ∙ ap given_back a; state = c.state ∙ t; buffer = c.buffer ∙ o })

pub else_unfed : ElseUnfed
else_unfed s r p out n s₁ r₁ out₁ c h = by_hands (hands s r p out)
  where
    by_hands : Hands s r p out → (s₁ ≡ s) × (out₁ ≡ out)
    by_hands (nothing e t o) = (c.state ∙ t, c.buffer ∙ o)
    by_hands (a_frame g e a t o) = let one = sym e ∙ h in let z : ◌≡◌ {A = ℕ} 0 1 = cc in absurd (omega arith)
