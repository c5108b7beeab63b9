-- Each way out of taking in a piece: it stands behind the bytes in hand, and all that the outcome asks of them is read where they lie.
use Prim.Native.Nat.{ℕ, ◌+◌, ◌*◌, ◌<◌, ◌≤◌}
use mathlib.Core.Path.{◌≡◌, refl, sym, ap, ◌∙◌}
use mathlib.Core.List.{List, ◌++◌}
use mathlib.Core.Bool.{Bool, true, false}
use native.Mathlib.Omega.{arith}
use native.Mathlib.Numerals.{add-one}
use borrow.Author.Tests.{lt-ltb, le-ltb, leb-true, leb-false}
use lib.Dec.{leb}
use lib.ListN.{length, take, drop, get_or, length-append, length-drop}
use lib.Seq.{drop-append-le, length-take-le, take_at, get_or-take, get_or-drop}
use Rattle.lent.specs.Lent.{over}
use Rattle.lent.proofs.Over.{over_length, part_front, take_drop}
use Rattle.samples.specs.Window.{channels}
use Rattle.records.specs.Record.{word_at, swapped, record_length, number_in, frame_in}
use Rattle.files.specs.Reader.{wrong_number}
use Rattle.std.specs.Prelude.{Result}
use Rattle.answers.specs.declared.Refusal.{Refusal}
use Rattle.events.specs.declared.Step.{Step}
use Rattle.events.specs.Slice.{HoldsReading, reader_length, ends_in, held_in, index_in, shape_in, hand_in, is_reading, wrong_in, front_of, Settled, TookIn}
use Rattle.events.proofs.Standing.{holds, hand_length}

-- bytes where they lie
hand_byte : (s : List ℕ) (k : ℕ) → get_or s (56 + k) 0 ≡ get_or (drop 56 s) k 0
hand_byte s k = sym (get_or-drop 56 s k 0)

-- ---- a piece behind the bytes in hand

hand_over : (s : List ℕ) (base held : ℕ) (piece : List ℕ) → base + held ≤ length s → take (held + length piece) (drop base (over s (base + held) piece)) ≡ take held (drop base s) ++ piece
hand_over s base held piece room =
    let r : List ℕ = drop (base + held + length piece) s in
    let h : drop base (take (base + held) s) ≡ take held (drop base s) = sym (take_drop base held s (omega arith)) in
    let long : length (drop base (take (base + held) s)) ≡ held = simp (length-drop, length-take-le (base + held) s room) (omega arith) in
    ap (take (held + length piece)) (drop-append-le base (take (base + held) s ++ piece) r (simp (length-append, length-take-le (base + held) s room) (omega arith)) ∙
    ap (λ (q : List ℕ). q ++ r) (drop-append-le base (take (base + held) s) piece (simp (length-take-le (base + held) s room) (omega arith)))) ∙
    take_at (drop base (take (base + held) s) ++ piece) r (held + length piece) (length-append (drop base (take (base + held) s)) piece ∙ ap (λ (n : ℕ). n + length piece) long) ∙
    ap (λ (q : List ℕ). q ++ piece) h

module _ (s piece : List ℕ) (l : length s ≡ reader_length) (y : is_reading s ≡ true) (room : held_in s + length piece ≤ record_length (shape_in s)) where
  abbrev pub t : List ℕ
  t = over s (56 + held_in s) piece

  abbrev pub g : List ℕ
  g = hand_in s ++ piece

  pub take_fits : 56 + held_in s + length piece ≤ 118
  take_fits = omega (arith, (holds s y).small)

  pub t_length : length t ≡ reader_length
  t_length = over_length s (56 + held_in s) piece (omega (arith, take_fits)) ∙ l

  pub g_length : length g ≡ held_in s + length piece
  g_length = length-append (hand_in s) piece ∙ ap (λ (n : ℕ). n + length piece) (hand_length s l y)

  pub in_hand_lem : take (held_in s + length piece) (drop 56 t) ≡ g
  in_hand_lem = hand_over s 56 (held_in s) piece (omega (arith, take_fits))

  -- a byte of the record in hand, and its frame, where they lie
  g_byte : (k : ℕ) → k < held_in s + length piece → get_or (drop 56 t) k 0 ≡ get_or g k 0
  g_byte k h = sym (get_or-take (held_in s + length piece) (drop 56 t) k 0 h) ∙ ap (λ (q : List ℕ). get_or q k 0) in_hand_lem

  g_number : 4 ≤ held_in s + length piece → word_at t 56 ≡ number_in g
  unfolding word_at
  g_number h =
      let byte : (k : ℕ) → k < 4 → get_or t (56 + k) 0 ≡ get_or g k 0 = λ k q. hand_byte t k ∙ g_byte k (omega arith) in
      rw (byte 0 (omega arith), byte 1 (omega arith), byte 2 (omega arith), byte 3 (omega arith))

  wrong_is : wrong_in t (held_in s + length piece) (index_in s) ≡ wrong_number (index_in s) g
  wrong_is = by_test (leb 4 (held_in s + length piece)) refl
    where
      by_test : (b : Bool) → leb 4 (held_in s + length piece) ≡ b → wrong_in t (held_in s + length piece) (index_in s) ≡ wrong_number (index_in s) g
      by_test true e = rw (g_length, e, g_number (leb-true 4 (held_in s + length piece) e), add-one (index_in s))
      by_test false e = rw (g_length, e)

  -- what follows the record in hand has no part in it
  g_front : 8 ≤ held_in s + length piece → front_of (drop 56 t) ≡ front_of g
  g_front h =
      let byte : (k : ℕ) → k < 8 → get_or (drop 56 t) k 0 ≡ get_or g k 0 = λ k q. g_byte k (omega arith) in
      rw (byte 0 (omega arith), byte 1 (omega arith), byte 2 (omega arith), byte 3 (omega arith), byte 4 (omega arith), byte 5 (omega arith), byte 6 (omega arith), byte 7 (omega arith))

  g_frame : 8 + 2 * channels (ends_in s) ≤ held_in s + length piece → frame_in (ends_in s) (drop 56 t) ≡ frame_in (ends_in s) g
  g_frame h =
      let front = part_front (drop 56 t) 8 (2 * channels (ends_in s)) (held_in s + length piece) h (simp length-drop (omega (arith, t_length, take_fits))) in
      ap swapped (sym front ∙ ap (λ (q : List ℕ). take (2 * channels (ends_in s)) (drop 8 q)) in_hand_lem)

  -- what is settled of the slice is the outcome
  settled_outcome :
      {left : List ℕ} {r : Result Step Refusal} →
      Settled (ends_in s) (record_length (shape_in s)) (index_in s) (held_in s + length piece) t r left → TookIn s piece r left
  settled_outcome {left} {r} settled = by_tests (wrong_number (index_in s) g) (leb (record_length (shape_in s)) (length g)) refl refl
    where
      by_tests : (a b : Bool) → wrong_number (index_in s) g ≡ a → leb (record_length (shape_in s)) (length g) ≡ b → TookIn s piece r left
      by_tests true b v w = let e = wrong_is ∙ v in record { step = rw v (settled.step ∙ rw e); reader = rw v (settled.reader ∙ rw e) }
      by_tests false true v w =
          let e = wrong_is ∙ v in
          let whole = leb-true (record_length (shape_in s)) (length g) w in
          let f = le-ltb (held_in s + length piece) (record_length (shape_in s)) (omega (arith, g_length, whole)) in
          let front = g_front (omega (arith, whole, g_length)) in
          let frame = g_frame (omega (arith, whole, g_length)) in
          record { step = rw (v, w) (settled.step ∙ rw (e, f)); reader = rw (v, w) (settled.reader ∙ rw (e, f, front, frame)) }
      by_tests false false v w =
          let e = wrong_is ∙ v in
          let few = leb-false (record_length (shape_in s)) (length g) w in
          let f = lt-ltb (held_in s + length piece) (record_length (shape_in s)) (omega (arith, g_length, few)) in
          record { step = rw (v, w) (settled.step ∙ rw (e, f)); reader = rw (v, w) (settled.reader ∙ rw (e, f)) }

pub took :
    (s piece : List ℕ) {ends long index held : ℕ} {mid left : List ℕ} {r : Result Step Refusal} → length s ≡ reader_length →
    HoldsReading s ends long index held → held + length piece ≤ long → mid ≡ over s (56 + held) piece →
    Settled ends long index (held + length piece) mid r left → TookIn s piece r left
took s piece l h room k c =
    settled_outcome s piece l h.reading (omega arith) (rw (← h.its_length, ← h.its_ends, ← h.its_index, ← h.its_held, ← k) c)
