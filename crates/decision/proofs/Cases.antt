-- Each way out of decide, on plain numbers and lists.
use Prim.Native.Nat.{ℕ, ◌≤◌, ◌<◌}
use mathlib.Core.Path.{◌≡◌, sym, ap, ◌∙◌}
use mathlib.Core.List.{List}
use native.Mathlib.Omega.{arith}
use borrow.Author.Rules.{rules}
use borrow.Author.Tests.{eq-eqb, ne_eqb, le-leb, lt-leb}
use lib.IntN.{ℤ, pos}
use lib.Signed.{mag}
use lib.ListN.{length, take}
use lib.Seq.{take_all}
use mir.Syntax.{w16, w64}
use mir.Val.{of_z, to_z}
use Rattle.std.proofs.Common.{Fits}
use Rattle.std.specs.Prelude.{Ok, Err, Option, Some, None}
use Rattle.answers.specs.Answers.{Answer}
use Rattle.answers.specs.declared.Refusal.TheVariants.{OtherWindowLength, NoRoom, MissingSample}
use Rattle.whole.proofs.Machine.{back}
use Rattle.lent.specs.Lent.{over}
use Rattle.samples.specs.Window.{window_length, first_missing}
use Rattle.samples.proofs.Missing.{first_at}
use Rattle.settings.specs.Record.{record_length}
use Rattle.settings.specs.Fields.{Ranges, ends, reach, second_reach}
use Rattle.distance.specs.declared.mho.SixLoops.{SixLoops}
use Rattle.distance.specs.Constants.{replica}
use Rattle.distance.specs.Mho.{loop_bits}
use Rattle.decision.specs.Decision.{asserting_bits, overreaching_bits, decision}
use Rattle.decision.specs.Decide.{Decided}

-- n is how many numbers the window should have
module _ {s : List ℕ} {w : List ℤ} {out after : List ℕ} {n : ℕ} (h : n ≡ window_length (ends s)) where
  pub decide_2 : (length w ≡ n → ⊥) → after ≡ out → Decided s w out (Err OtherWindowLength) after
  decide_2 l k = record { answer = rw (← h, ne_eqb (length w) n l); buffer = k }

  module _ (l : length w ≡ n) where
    pub decide_3 : length out < 32 → after ≡ out → Decided s w out (Err NoRoom) after
    decide_3 r k = record { answer = rw (← h, eq-eqb (length w) n l, lt-leb 32 (length out) r); buffer = k }

    module _ {f : Option ℕ} (r : 32 ≤ length out) (m : f ≡ first_missing w) where
      pub decide_4 : {k : ℕ} → f ≡ Some k → after ≡ out → Decided s w out (Err (MissingSample k)) after
      decide_4 g k = record { answer = rw (← h, eq-eqb (length w) n l, le-leb 32 (length out) r, ← m, g); buffer = k }

      pub decide_0 : {d : List ℕ} → f ≡ None → d ≡ decision s w → after ≡ over out 0 d → Decided s w out (Ok tt) after
      decide_0 g e k =
          record { answer = rw (← h, eq-eqb (length w) n l, le-leb 32 (length out) r, ← m, g); buffer = k ∙ rw e }

-- ---- what the machine reads of the two reaches, and the zones by them

module _ (s : List ℕ) (l : SixLoops) (n : ℕ) where
  pub at_reach : (r : ℤ) → mag r < 9223372036854775808 → r ≡ pos (reach s) → n ≡ loop_bits (replica s) (to_z w64 (of_z w64 r)) l → n ≡ asserting_bits s l
  at_reach r fits e f = f ∙ ap (λ (x : ℤ). loop_bits (replica s) x l) (back r fits ∙ e)

  module _ (r : ℤ) (fits : mag r < 9223372036854775808) (e : r ≡ pos (second_reach s)) where
    pub at_second : (of_z w64 (to_z w64 (of_z w64 r)) ≡ 0 → ⊥) → n ≡ loop_bits (replica s) (to_z w64 (of_z w64 r)) l → n ≡ overreaching_bits s l
    at_second on f =
        let read = back r fits ∙ e in
        rw (ne_eqb (second_reach s) 0 (λ z. on (ap (of_z w64) read ∙ z))) (f ∙ ap (λ (x : ℤ). loop_bits (replica s) x l) read)

    pub second_off : of_z w64 (to_z w64 (of_z w64 r)) ≡ 0 → 0 ≡ overreaching_bits s l
    second_off off = rw (sym (ap (of_z w64) (back r fits ∙ e)) ∙ off)

-- ---- a record of 32 bytes is its own front, and a place in a window has 16 bits

pub front_is : (s : List ℕ) → length s ≡ record_length → take record_length s ≡ s
front_is s l = take_all record_length s (omega arith)

pub good_front : {s : List ℕ} → length s ≡ record_length → Ranges s → Ranges (take record_length s)
good_front {s} l g = rw (front_is s l) g

pub decided_front : {s : List ℕ} {w : List ℤ} {out after : List ℕ} {a : Answer} → length s ≡ record_length → Decided (take record_length s) w out a after → Decided s w out a after
decided_front {s} l d = rw (front_is s l) at d

pub place_fits : (w : List ℤ) (f : Option ℕ) (n k : ℕ) → f ≡ first_missing w → f ≡ Some k → length w ≡ n → n ≤ window_length 6 → Fits w16 k
place_fits w f n k m g l few = let place = (first_at w _ (sym m ∙ g)).0 in search rules
