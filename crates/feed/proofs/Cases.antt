-- Each way out of a frame that is fed, on plain lists: what the tests on the way found decides the answer and what is left.
use Prim.Native.Nat.{ℕ, ◌+◌, ◌*◌, ◌≤◌, ◌<◌}
use mathlib.Core.Path.{◌≡◌, sym, ap, ap₂, ◌∙◌}
use mathlib.Core.List.{List}
use mathlib.Core.Bool.{Bool, true, false}
use native.Mathlib.Omega.{arith}
use borrow.Author.Tests.{eq-eqb, ne_eqb, le-leb, lt-leb}
use lib.Dec.{leb}
use lib.IntN.{ℤ}
use lib.ListN.{length-take, length, take, drop}
use lib.Seq.{take-take, length-take-le}
use Rattle.std.specs.Prelude.{Err}
use Rattle.answers.specs.Answers.{Answer}
use Rattle.answers.specs.declared.Refusal.TheVariants.{NoRoom, OtherFrameLength, TooFewFrames}
use Rattle.lent.specs.Lent.{over}
use Rattle.lent.proofs.Over.{over_before}
use Rattle.samples.specs.Window.{frames, window_length, numbers_of, HoldsNumbers}
use Rattle.samples.specs.Sizes.{count}
use Rattle.samples.proofs.Bytes.{held, count_all, count_held}
use Rattle.stream.specs.declared.Window.{Window}
use Rattle.stream.specs.Window.{moved_on}
use Rattle.stream.specs.Stored.{number_bytes, stored_length, window_at, kept}
use Rattle.stream.proofs.Moving.{moved_length}
use Rattle.stream.proofs.Reading.{part_holds}
use Rattle.settings.specs.Record.{record_length}
use Rattle.settings.specs.Fields.{ends, Ranges}
use Rattle.decision.specs.Decide as decide
use Rattle.feed.specs.Feed.{numbers_of_frame, record_of, with_frame, newest_frames, with_kept, Fed, KeptFrame}

-- ---- 9, 3, or the frame is kept

-- m is how many numbers the code has counted by the record r
module _ {at : ℕ} {s f out r : List ℕ} {m : ℕ} (many : m ≡ numbers_of_frame r) (its : r ≡ record_of s) where
  pub feed_9 : {s₁ out₁ : List ℕ} {a : Answer} → (length f ≡ 2 * m → ⊥) → a ≡ Err OtherFrameLength → s₁ ≡ s → out₁ ≡ out → Fed at s f out a s₁ out₁
  feed_9 l e es eo =
      let no = ne_eqb (length f) (2 * numbers_of_frame (record_of s)) (rw (many, its) at l) in
      record { answer = rw no e; state = rw no es; buffer = rw no eo }

  module _ (l : length f ≡ 2 * m) where
    pub feed_3 : {s₁ out₁ : List ℕ} {a : Answer} → length out < 32 → a ≡ Err NoRoom → s₁ ≡ s → out₁ ≡ out → Fed at s f out a s₁ out₁
    feed_3 less e es eo =
        let fits = eq-eqb (length f) (2 * numbers_of_frame (record_of s)) (rw (many, its) at l) in
        let no = lt-leb 32 (length out) less in
        record { answer = rw (fits, no) e; state = rw (fits, no) es; buffer = rw (fits, no) eo }

    pub feed_on : {s₁ out₁ : List ℕ} {a : Answer} → 32 ≤ length out → KeptFrame at s f out a s₁ out₁ → Fed at s f out a s₁ out₁
    feed_on enough k =
        let fits = eq-eqb (length f) (2 * numbers_of_frame (record_of s)) (rw (many, its) at l) in
        let room = le-leb 32 (length out) enough in
        record {
          answer = rw (fits, room) k.answer;
          state = rw (fits, room) k.state;
          buffer = rw (fits, room, ← k.answer) k.buffer;
        }

-- ---- a frame that is kept

-- the first m numbers that the code took out of a frame's bytes
pub frame_numbers : (m : ℕ) (f : List ℕ) (xs : List ℤ) → HoldsNumbers m f → m ≤ 21 → take (count f) xs ≡ take (count f) (numbers_of f) → take m xs ≡ numbers_of f
frame_numbers m f xs h few e =
    let c : count f ≡ m = sym (count_all f (omega arith) (omega arith)) ∙ omega arith in
    (rw c at e) ∙ count_held m f h

-- what is written from `at` on leaves the record before it
record_stays : (s x : List ℕ) (at : ℕ) → record_length ≤ at → at ≤ length s → record_of (over s at x) ≡ record_of s
record_stays s x at far room = sym (take-take record_length at (over s at x) far) ∙ ap (take record_length) (over_before s at x room) ∙ take-take record_length at s far

-- and so its ranges, and its 32 bytes
pub record_holds : (at : ℕ) (s : List ℕ) (m : ℕ) (x : List ℤ) (s₁ : List ℕ) → record_length ≤ at → at + stored_length ≤ length s → s₁ ≡ kept frames m at s x → Ranges (record_of s) → Ranges (record_of s₁) × (length (record_of s₁) ≡ record_length) × (record_length ≤ length s₁)
record_holds at s m x s₁ far room put g =
    let thirty_two : length (record_of s₁) ≡ record_length = rw (put, record_stays s _ at far (omega arith)) (length-take-le record_length s (omega arith)) in
    (rw (put, record_stays s _ at far (omega arith)) g, thirty_two, omega (arith, thirty_two, length-take record_length s₁))

module _
    (at : ℕ) (s f : List ℕ) (m : ℕ) (w : Window) (s₁ : List ℕ)
    (many : m ≡ numbers_of_frame (record_of s)) (few : m ≤ 21) (whole : length f ≡ 2 * numbers_of_frame (record_of s))
    (moved : w ≡ moved_on frames m (window_at s at) (numbers_of f)) (put : s₁ ≡ kept frames m at s (numbers_of f)) where
  the_window : w ≡ with_frame (record_of s) (window_at s at) f
  the_window = moved ∙ ap (λ (k : ℕ). moved_on frames k (window_at s at) (numbers_of f)) many

  the_state : s₁ ≡ with_kept (record_of s) at s f
  the_state = put ∙ ap (λ (k : ℕ). kept frames k at s (numbers_of f)) many

  pub kept_10 : {out out₁ : List ℕ} {a : Answer} → w.count < 16 → a ≡ Err TooFewFrames → out₁ ≡ out → KeptFrame at s f out a s₁ out₁
  kept_10 {out} {out₁} {a} less e eo =
      let no : leb frames (with_frame (record_of s) (window_at s at) f).count ≡ false = ap (λ (v : Window). leb frames v.count) (sym the_window) ∙ lt-leb 16 w.count less in
      record { answer = rw no e; state = the_state; buffer = rw e eo }

  module _ (far : record_length ≤ at) (room : at + stored_length ≤ length s) where
    -- the window has 336 numbers
    full : length w.numbers ≡ window_length 6
    full =
        let was : length (window_at s at).numbers ≡ window_length 6 = held (window_length 6) (take number_bytes (drop (at + 2) s)) (part_holds s at room) in
        ap (λ (v : Window). length v.numbers) the_window
        ∙ moved_length frames (numbers_of_frame (record_of s)) (window_at s at).numbers (numbers_of f) (omega (arith, was, many)) (held (numbers_of_frame (record_of s)) f whole) ∙ was

    pub kept_on :
        {out out₁ : List ℕ} {a : Answer} {n : ℕ} → 16 ≤ w.count → 32 ≤ length out → n ≡ 16 * m → decide.Decided (record_of s₁) (take n w.numbers) out a out₁
        → KeptFrame at s f out a s₁ out₁
    kept_on {out} {out₁} {a} {n} enough big e d₁ =
        let r : List ℕ = record_of s in
        let ys : List ℤ = newest_frames r (window_at s at) f in
        let yes : leb frames (with_frame r (window_at s at) f).count ≡ true = ap (λ (v : Window). leb frames v.count) (sym the_window) ∙ le-leb 16 w.count enough in
        let d = rw (the_state, record_stays s _ at far (omega arith)) at d₁ in
        let long : length (take n w.numbers) ≡ window_length (ends r) = length-take-le n w.numbers (omega (arith, full, few)) ∙ omega (arith, e, many) in
        let these : take n w.numbers ≡ ys = ap₂ (λ (k : ℕ) (v : Window). take k v.numbers) (e ∙ ap (λ (k : ℕ). 16 * k) many) the_window in
        let fits = eq-eqb (length (take n w.numbers)) (window_length (ends r)) long in
        let answered : a ≡ decide.window_answer true ys out = d.answer ∙ ap₂ (λ (b : Bool) (x : List ℤ). decide.window_answer b x out) fits these in
        record {
          answer = rw yes (rw (le-leb 32 (length out) big) at answered);
          state = the_state;
          buffer = d.buffer ∙ ap (λ (x : List ℤ). decide.written a r x out) these;
        }
