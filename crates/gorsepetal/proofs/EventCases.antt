-- Each way out of the calls that read and write event files, on plain lists.
use Prim.Native.Nat.{ℕ, ◌*◌, ◌-◌}
use mathlib.Core.Path.{◌≡◌, refl, sym, ap, ◌∙◌}
use mathlib.Core.List.{List, [], ◌∷◌, ◌++◌}
use mathlib.Core.Bool.{Bool, true, false, ◌&&◌}
use native.Mathlib.Omega.{arith}
use borrow.Author.Tests.{eq-eqb, ne_eqb, eqb-true}
use lib.ListN.{length, take, drop}
use Rattle.std.specs.Prelude.{Result, Ok, Err}
use Rattle.std.specs.Array.{IsWholeChunk}
use Rattle.answers.specs.declared.Refusal.{Refusal}
use Rattle.answers.specs.declared.Refusal.TheVariants.{NoRelay}
use Rattle.answers.specs.Answers.{Answer}
use Rattle.lent.specs.Bytes.{Every, Byte}
use Rattle.lent.proofs.Every.{every_append, every_take, every_drop}
use Rattle.samples.specs.Window.{channels}
use Rattle.records.specs.Record.{Shape, frame_in}
use Rattle.records.proofs.Swapped.{swapped_bytes}
use Rattle.records.proofs.Writing.{both}
use Rattle.files.specs.Reader.{Ending, refusal_of, wanted, Outcome, Stopped, More, Whole}
use Rattle.events.specs.Slice.{reader_length, hand_at, held_in, hand_in, is_reader, reader_of, told, Read, read_left, frame_end}
use Rattle.events.specs.declared.Step.{Step}
use Rattle.events.specs.declared.Step.TheVariants as step
use Rattle.events.proofs.Next.{read_shows}
use Rattle.gorsepetal.specs.State.{state_length}
use Rattle.gorsepetal.specs.Calls.{is_relay, feed_answer, feed_state, feed_out}
use Rattle.gorsepetal.specs.EventFiles.{held_frame, both_lent, piece_outcome, handed, read_answer, read_state, read_reader, read_out}

-- ---- what a step tells of the outcome

stopped_by_lem : (o : Outcome) (a : Refusal) → Err a ≡ told o → (e : Ending) × (o ≡ Stopped e) × (a ≡ refusal_of e)
stopped_by_lem (Stopped e) a k = (e, refl, cc)
stopped_by_lem More a k = let z : ◌≡◌ {A = ℕ} 0 1 = cc in absurd (omega arith)
stopped_by_lem (Whole sh g) a k = let z : ◌≡◌ {A = ℕ} 0 1 = cc in absurd (omega arith)

taken_by : (o : Outcome) → Ok step.Taken ≡ told o → o ≡ More
taken_by (Stopped e) k = let z : ◌≡◌ {A = ℕ} 0 1 = cc in absurd (omega arith)
taken_by More k = refl
taken_by (Whole sh g) k = let z : ◌≡◌ {A = ℕ} 0 1 = cc in absurd (omega arith)

whole_by : (o : Outcome) → Ok step.Whole ≡ told o → (sh : Shape) × (g : List ℕ) × (o ≡ Whole sh g)
whole_by (Stopped e) k = let z : ◌≡◌ {A = ℕ} 0 1 = cc in absurd (omega arith)
whole_by More k = let z : ◌≡◌ {A = ℕ} 0 1 = cc in absurd (omega arith)
whole_by (Whole sh g) k = (sh, g, refl)

-- ---- read

pub both_lent_lem : (s r : List ℕ) → length s ≡ state_length → length r ≡ reader_length → both_lent s r ≡ true
both_lent_lem s r l m = rw (eq-eqb (length s) state_length l, eq-eqb (length r) reader_length m)

-- a piece hands nothing on, and leaves the relay and the buffer; or it hands a frame on, and all is as feed does it
pub data Hands (s r p out : List ℕ) : Type 0 where
  nothing : handed s r p ≡ [] → read_state s r p out ≡ s → read_out s r p out ≡ out → Hands s r p out
  a_frame :
      (f : List ℕ) → handed s r p ≡ f ∷ [] → read_answer s r p out ≡ feed_answer s f out → read_state s r p out ≡ feed_state s f out
      → read_out s r p out ≡ feed_out s f out → Hands s r p out

pub hands : (s r p out : List ℕ) → Hands s r p out
hands s r p out = by_test (both_lent s r) refl (piece_outcome r p) refl
  where
    by_test : (b : Bool) → both_lent s r ≡ b → (o : Outcome) → piece_outcome r p ≡ o → Hands s r p out
    by_test false t o u = nothing (rw t) (rw t) (rw t)
    by_test true t (Stopped e) u = nothing (rw (t, u)) (rw (t, u)) (rw (t, u))
    by_test true t More u = nothing (rw (t, u)) (rw (t, u)) (rw (t, u))
    by_test true t (Whole sh g) u = a_frame (frame_in sh.ends g) (rw (t, u)) (rw (t, u)) (rw (t, u)) (rw (t, u))

-- where a frame is handed on, both slices were lent and a record is whole
pub data Handed (s r p f : List ℕ) : Type 0 where
  whole : length s ≡ state_length → length r ≡ reader_length → (sh : Shape) (g : List ℕ) → piece_outcome r p ≡ Whole sh g → frame_in sh.ends g ≡ f → Handed s r p f

pub handed_is : (s r p f : List ℕ) → handed s r p ≡ f ∷ [] → Handed s r p f
handed_is s r p f e = by_test (both_lent s r) refl (piece_outcome r p) refl
  where
    by_test : (b : Bool) → both_lent s r ≡ b → (o : Outcome) → piece_outcome r p ≡ o → Handed s r p f
    by_test false t o u = let none = rw t at e in let z : ◌≡◌ {A = ℕ} 0 1 = cc in absurd (omega arith)
    by_test true t (Stopped x) u = let none = rw (t, u) at e in let z : ◌≡◌ {A = ℕ} 0 1 = cc in absurd (omega arith)
    by_test true t More u = let none = rw (t, u) at e in let z : ◌≡◌ {A = ℕ} 0 1 = cc in absurd (omega arith)
    by_test true t (Whole sh g) u =
        let one : frame_in sh.ends g ∷ [] ≡ f ∷ [] = rw (t, u) at e in
        let k = both (is_relay s) (is_reader r) t in
        whole (eqb-true (length s) state_length k.0) (eqb-true (length r) reader_length k.1) sh g u cc

-- such a frame is of bytes, where the reader and the piece are
pub handed_bytes : (s r p f : List ℕ) → Every Byte r → Every Byte p → handed s r p ≡ f ∷ [] → Every Byte f
handed_bytes s r p f hr hp e = of_record (handed_is s r p f e)
  where
    of_record : Handed s r p f → Every Byte f
    of_record (whole l m sh g u same) =
        let n : ℕ = wanted (reader_of r) in
        let hand = every_take Byte (held_in r) (drop hand_at r) (every_drop Byte hand_at r hr) in
        let all : Every Byte (hand_in r ++ take n p) = every_append Byte (hand_in r) (take n p) hand (every_take Byte n p hp) in
        rw (← same) (swapped_bytes _ (every_take Byte (2 * channels sh.ends) (drop 8 g) (every_drop Byte 8 g (rw (read_shows r p sh g m u).joined all))))

-- the frame that the slice shows is the record's
shown :
    (r p : List ℕ) {r₁ : List ℕ} {to : ℕ} (sh : Shape) (g : List ℕ) → length r ≡ reader_length → r₁ ≡ read_left r p → piece_outcome r p ≡ Whole sh g → to ≡ frame_end r₁ →
    take (to - 12) (drop 12 r₁) ≡ frame_in sh.ends g
shown r p {r₁} {to} sh g m d e t =
    let k = read_shows r p sh g m e in
    let ends : to - 12 ≡ 2 * channels sh.ends = omega (arith, t, ap frame_end d, k.end) in
    ap (λ (j : ℕ). take j (drop 12 r₁)) ends ∙ ap (λ (q : List ℕ). take (2 * channels sh.ends) (drop 12 q)) d ∙ k.frame

-- a state or a reader of another length
module _ (s r p out : List ℕ) where
  pub no_relay : (length s ≡ state_length → ⊥) → both_lent s r ≡ false
  no_relay l = rw (ne_eqb (length s) state_length l)

  pub no_reader : (length r ≡ reader_length → ⊥) → both_lent s r ≡ false
  no_reader m = by_test (is_relay s)
    where
      by_test : (b : Bool) → (b && is_reader r) ≡ false
      by_test true = ne_eqb (length r) reader_length m
      by_test false = refl

  module _ (lent : both_lent s r ≡ false) where
    pub refused_answer : Err NoRelay ≡ read_answer s r p out
    refused_answer = rw lent

    pub refused_state : s ≡ read_state s r p out
    refused_state = rw lent

    pub refused_reader : r ≡ read_reader s r p
    refused_reader = rw lent

    pub refused_out : out ≡ read_out s r p out
    refused_out = rw lent

-- what a piece comes to: the answer, and what is left
pub record Reads (s r p out : List ℕ) (a : Answer) (s₁ r₁ out₁ : List ℕ) : Type 0 where
  pub answer : a ≡ read_answer s r p out
  pub state : s₁ ≡ read_state s r p out
  pub reader : r₁ ≡ read_reader s r p
  pub buffer : out₁ ≡ read_out s r p out

-- x is the reader's slice as an array
module _ (s r p out x : List ℕ) (l : length s ≡ state_length) (w : IsWholeChunk r x reader_length) (a : Result Step Refusal) (r₁ : List ℕ) (d : Read x p a r₁) where
  lent : both_lent s r ≡ true
  lent = both_lent_lem s r l w.long

  of_reader : Read r p a r₁
  of_reader = rw w.same at d

  pub reader_is : r₁ ≡ read_reader s r p
  reader_is = rw lent of_reader.reader

  pub stopped : (b : Refusal) → a ≡ Err b → Reads s r p out (Err b) s r₁ out
  stopped b q =
      let e = stopped_by_lem (piece_outcome r p) b (sym q ∙ of_reader.step) in
      record { answer = rw (lent, e.1) (ap (λ (y : Refusal). Err y) e.2); state = rw (lent, e.1); reader = reader_is; buffer = rw (lent, e.1) }

  pub taken : a ≡ Ok step.Taken → Reads s r p out (Ok tt) s r₁ out
  taken q =
      let e = taken_by (piece_outcome r p) (sym q ∙ of_reader.step) in
      record { answer = rw (lent, e); state = rw (lent, e); reader = reader_is; buffer = rw (lent, e) }

  pub fed :
      {b : Answer} {s₁ out₁ : List ℕ} → a ≡ Ok step.Whole → b ≡ feed_answer s (held_frame r₁) out → s₁ ≡ feed_state s (held_frame r₁) out
      → out₁ ≡ feed_out s (held_frame r₁) out → Reads s r p out b s₁ r₁ out₁
  fed q ea es eo =
      let h = whole_by (piece_outcome r p) (sym q ∙ of_reader.step) in
      let e = shown r p h.0 h.1 w.long of_reader.reader h.2 refl in
      record { answer = rw (lent, h.2, ← e) ea; state = rw (lent, h.2, ← e) es; reader = reader_is; buffer = rw (lent, h.2, ← e) eo }
