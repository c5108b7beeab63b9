-- Writing a line, on plain lists: with the words from i on and the numbers `left` still to come, what is printed of them, right behind what
-- is written, leaves the whole line, and there is room for it.
use Prim.Native.Nat.{ℕ, ◌+◌, ◌*◌, ◌<◌, ◌≤◌}
use mathlib.Core.Path.{◌≡◌, refl, sym, ◌∙◌, ap}
use mathlib.Core.Logic.{◌⊎◌, ⊎_elim}
use mathlib.Core.List.{List, [], ◌∷◌, ◌++◌}
use native.Mathlib.Numerals.{add-one}
use native.Mathlib.Omega.{arith}
use lib.ListN.{length, get_or, set, drop, length-set, length-append, drop_of_length-le}
use lib.Seq.{drop-cons, sets-eq, length-take-le}
use Rattle.std.proofs.Common.{eq-eqb, ne_eqb}
use Rattle.lent.specs.Lent.{over}
use Rattle.lent.proofs.Over.{over_over, over_none}
use Rattle.report.specs.Printed.{decimal, mark, printed}
use Rattle.report.specs.Sizes.{most_digits}
use Rattle.report.specs.Written.{Written}

pub record SoFar (lent line out words left : List ℕ) (at i : ℕ) : Type 0 where
  pub text : over out at (printed (drop i words) left) ≡ over lent 0 line
  pub ends : at + length (printed (drop i words) left) ≡ length line
  pub room : at + length (drop i words) + 19 * length left ≤ length out

-- what is printed of a mark with a number, and of any other byte
of_mark : (w n : ℕ) (rest left : List ℕ) → w ≡ mark → printed (w ∷ rest) (n ∷ left) ≡ decimal n ++ printed rest left
unfolding printed
of_mark w n rest left e = rw (eq-eqb w mark e)

of_word : (w : ℕ) (rest left : List ℕ) → (w ≡ mark → ⊥) ⊎ (length left ≡ 0) → printed (w ∷ rest) left ≡ w ∷ printed rest left
unfolding printed
of_word w rest [] o = refl
of_word w rest (n ∷ left) o = ⊎_elim (λ ne. rw (ne_eqb w mark ne)) (λ e. absurd (omega arith)) o

-- one word, for which a number was put, or the word itself
module _ {lent line out words left : List ℕ} {at i : ℕ} (so : SoFar lent line out words left at i) (w : i < length words) where
  rest : drop i words ≡ get_or words i 0 ∷ drop (i + 1) words
  rest = rw add-one (drop-cons words i 0 w)

  pub number_turn :
      {left' after : List ℕ} {n end : ℕ} → get_or words i 0 ≡ mark → left ≡ n ∷ left' →
      Written out at (decimal n) end after × (end ≤ at + most_digits) → length after ≡ length out →
      SoFar lent line after words left' end (i + 1)
  number_turn {left'} {n = n} m e (p, most) l =
      let is = ap (λ l. printed l left) rest ∙ ap (printed (get_or words i 0 ∷ drop (i + 1) words)) e ∙ of_mark _ n _ left' m in
      record {
        text = rw (p.buffer, p.ends, over_over out at (decimal n) (omega (arith, so.room)) _) (rw is at so.text);
        ends = omega (arith, p.ends, simp length-append at (rw is at so.ends));
        room = omega (arith, rw (rest, e) at so.room);
      }

  pub word_turn :
      (get_or words i 0 ≡ mark → ⊥) ⊎ (length left ≡ 0) →
      SoFar lent line (set out at (get_or words i 0)) words left (at + 1) (i + 1)
  word_turn o =
      let room = rw rest at so.room in
      let is = ap (λ l. printed l left) rest ∙ of_word _ _ left o in
      let one = get_or words i 0 ∷ [] in
      record {
        text = rw (sets-eq one out at (omega arith), over_over out at one (omega arith) _) (rw is at so.text);
        ends = omega (arith, rw is at so.ends);
        room = omega (arith, length-set out at (get_or words i 0));
      }

-- behind the last word the line is written
pub all_written :
    {lent line out words left : List ℕ} {at i : ℕ} → SoFar lent line out words left at i → length words ≤ i → Written lent 0 line at out
unfolding printed
all_written {out = out} {words} {at = at} so e =
    let last = drop_of_length-le words e in
    let l : at ≤ length out = omega (arith, so.room) in
    record { ends = omega (arith, rw last at so.ends); buffer = over_none out at ∙ rw last at so.text; inside = (l, sym (length-take-le at out l)) }
