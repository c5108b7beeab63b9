-- What open, end and read are proved by, on plain lists.
use Prim.Native.Nat.{ℕ, ◌-◌, ◌<◌, ◌^◌, min}
use mathlib.Core.Path.{◌≡◌, sym, ap, ◌∙◌}
use mathlib.Core.Bool.{Bool, true}
use mathlib.Core.List.{List}
use native.Mathlib.Omega.{arith}
use borrow.Author.Tests.{ne_eqb}
use lib.ListN.{length, take, set}
use Rattle.std.specs.Prelude.{Result, Err}
use Rattle.std.proofs.lemmas.List.{take_min}
use Rattle.std.specs.Array.{IsWholeChunk}
use Rattle.answers.specs.declared.Refusal.{Refusal}
use Rattle.answers.specs.declared.Refusal.TheVariants.{InsideRecord}
use Rattle.records.specs.Record.{good_file, record_length}
use Rattle.records.proofs.Writing.{good_file_lem}
use Rattle.events.specs.declared.Step.{Step}
use Rattle.events.specs.Slice.{reader_length, held_in, shape_in, hand_in, HoldsReading, AtEnd, TookIn, Read}
use Rattle.events.proofs.Standing.{held_is, hand_length, end_inside}

-- the status channels of a good file
pub small_status : (ends status : ℕ) {b : Bool} → b ≡ good_file ends status → b ≡ true → status < 2 ^ 8
small_status ends status e t = omega (arith, (good_file_lem ends status (sym e ∙ t)).2)

module _ {ends long index held : ℕ} where
  -- inside a record
  pub cut_at_end :
      (s t : List ℕ) → IsWholeChunk s t reader_length → HoldsReading t ends long index held → 0 < held → AtEnd s (Err (InsideRecord index)) (set t 2 11)
  cut_at_end s t w h n =
      let l = ap length w.same ∙ w.long in
      let e = ne_eqb (held_in t) 0 (λ z. omega arith) in
      rw (← w.same)
      (record {
        answer = rw (l, end_inside t l h.reading (omega arith)) (ap (λ (i : ℕ). Err (InsideRecord i)) h.its_index);
        reader = rw (l, h.reading, e);
      })

  -- as many bytes are taken as are wanted
  pub took_wanted :
      (s p : List ℕ) {n m : ℕ} {r : Result Step Refusal} {left : List ℕ} → length s ≡ reader_length → HoldsReading s ends long index held →
      m ≡ long - held → n ≡ min m (length p) → TookIn s (take n p) r left → Read s p r left
  took_wanted s p {n} {m} l h e f k =
      let y = held_is s h.reading in
      let some : take n p ≡ take (record_length (shape_in s) - length (hand_in s)) p =
      ap (λ (i : ℕ). take i p) f ∙ take_min m p ∙ ap (λ (i : ℕ). take i p) (omega (arith, hand_length s l h.reading)) in
      record { step = k.step ∙ rw (y, some); reader = k.reader ∙ rw (h.reading, y, some) }
