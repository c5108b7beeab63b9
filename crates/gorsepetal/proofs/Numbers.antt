-- What decide does with a window of bytes is what it does with the numbers taken out of them: where the bytes hold a window, these are
-- all their numbers, and else neither fits.
use Prim.Native.Nat.{ℕ, ◌*◌, ◌≤◌}
use mathlib.Core.Path.{◌≡◌, refl, sym, ap, ◌∙◌}
use mathlib.Core.List.{List}
use mathlib.Core.Bool.{Bool, true, false, cond}
use native.Mathlib.Omega.{arith}
use borrow.Author.Tests.{eqb-true}
use lib.Dec.{eqb}
use lib.IntN.{ℤ}
use lib.ListN.{length, take}
use lib.Seq.{length-take-le}
use Rattle.answers.specs.Answers.{Answer, given_back, is_done}
use Rattle.samples.specs.Window.{numbers_of}
use Rattle.samples.specs.Sizes.{count}
use Rattle.samples.proofs.Bytes.{numbers_length, count_window, count_held}
use Rattle.settings.specs.Fields.{ends}
use Rattle.decision.specs.Decide.{window_answer, written}
use Rattle.gorsepetal.specs.State.{settings_of}
use Rattle.gorsepetal.specs.Calls.{ready, length_in_force, fits_numbers, fits_bytes, decide_answer, decide_out, DecidedNumbers, Decided}
use Rattle.gorsepetal.proofs.Good.{in_range, ready_good}

module _ (s b out : List ℕ) (w : List ℤ) (taken : w ≡ take (count b) (numbers_of b)) (few : 2 * count b ≤ length b) where
  as_many : length w ≡ count b
  as_many = ap length taken ∙ length-take-le (count b) (numbers_of b) (omega (arith, few, numbers_length b))

  -- with a record in force, the numbers fit exactly where the bytes do
  fits_same : is_done (ready s) ≡ true → fits_numbers s w ≡ fits_bytes s b
  fits_same d =
      let r = (settings_of s).force in
      ap (λ k. eqb k (length_in_force s)) as_many ∙ count_window b (ends r) (in_range r (ready_good s d)).ends_range.most

  -- and are all the numbers of the bytes then
  all_taken : is_done (ready s) ≡ true → fits_bytes s b ≡ true → w ≡ numbers_of b
  all_taken d f =
      let n = length_in_force s in
      let held = eqb-true (length b) (2 * n) f in
      let counted = sym as_many ∙ eqb-true (length w) n (fits_same d ∙ f) in
      taken ∙ ap (λ k. take k (numbers_of b)) counted ∙ count_held n b held

  same_answer : decide_answer s (fits_numbers s w) w out ≡ decide_answer s (fits_bytes s b) (numbers_of b) out
  same_answer = by_test (is_done (ready s)) refl
    where
      on : (x : Bool) → (x ≡ true → w ≡ numbers_of b) → window_answer x w out ≡ window_answer x (numbers_of b) out
      on true e = ap (λ v. window_answer true v out) (e refl)
      on false e = refl

      by_test :
          (d : Bool) → is_done (ready s) ≡ d →
          cond d (window_answer (fits_numbers s w) w out) (ready s) ≡ cond d (window_answer (fits_bytes s b) (numbers_of b) out) (ready s)
      by_test true d = ap (λ x. window_answer x w out) (fits_same d) ∙ on (fits_bytes s b) (all_taken d)
      by_test false d = refl

  same_out : decide_out s (fits_numbers s w) w out ≡ decide_out s (fits_bytes s b) (numbers_of b) out
  same_out = ap (λ a. written a r w out) same_answer ∙ by_tests (is_done (ready s)) refl (fits_bytes s b) refl
    where
      r : List ℕ
      r = (settings_of s).force

      answer : Bool → Bool → Answer
      answer d x = cond d (window_answer x (numbers_of b) out) (ready s)

      by_tests :
          (d : Bool) → is_done (ready s) ≡ d → (x : Bool) → fits_bytes s b ≡ x →
          written (answer d x) r w out ≡ written (answer d x) r (numbers_of b) out
      by_tests true d true f = ap (λ v. written (answer true true) r v out) (all_taken d f)
      by_tests true d false f = refl
      by_tests false d x f = rw d

  pub decide_bytes : (a : Answer) (n : ℕ) (after : List ℕ) → n ≡ given_back a → DecidedNumbers s w out a after → Decided s b out n after
  decide_bytes a n after g p =
      record { given = g ∙ ap given_back (p.answer ∙ same_answer); buffer = p.buffer ∙ same_out }
