-- What stays alike: the fields of two records that differ in one, and the bytes of a decision as those of what was found.
use Prim.Native.Nat.{ℕ, zero, suc, ◌+◌, ◌/◌, ◌%◌, ◌≤◌, ◌<◌}
use mathlib.Core.Path.{◌≡◌, refl, sym, ap, ◌∙◌}
use mathlib.Core.List.{List, [], ◌∷◌, ◌++◌}
use mathlib.Core.Bool.{Bool, true, false, cond, false≢true, ◌||◌}
use native.Mathlib.Omega.{arith}
use borrow.Author.Tests.{leb-true}
use lib.Dec.{leb}
use lib.IntN.{ℤ}
use lib.ListN.{drop, get_or, get_or-append}
use Rattle.settings.specs.Record.{field_at}
use Rattle.settings.specs.Table.{Rule, Byte, offset_of}
use Rattle.settings.specs.Check.{holds, fault, checked_by}
use Rattle.settings.specs.Fields.{AllKept}
use Rattle.settings.proofs.Good.{all_kept}
use Rattle.differential.specs.Differential.{operating_bits}
use Rattle.findings.specs.declared.Findings.{Findings}
use Rattle.findings.specs.DecisionRecord.{decision_bytes}
use Rattle.decision.specs.Decision.{findings, decision_length}
use Rattle.decision_claims.specs.Alike.{SameBut, FromBefore}
use Rattle.claims.specs.Decisions.{Decision}
use Rattle.decision_claims.specs.Demand2.{byte}
use Rattle.claims.proofs.Decisions.{front}
use Rattle.decision_claims.proofs.Bits.{bits_most}
use Rattle.decision_claims.proofs.Demand2.{operate}

-- every other field is the same in both records: it ends before the row's, or begins behind it
pub same_field :
    (row : Rule) (s t : List ℕ) → SameBut row s t → (at : ℕ) → leb (at + 2) (offset_of row) || leb (offset_of row + 2) at ≡ true
    → field_at s at ≡ field_at t at
same_field row s t h at apart = by_test (leb (at + 2) (offset_of row)) (leb (offset_of row + 2) at) refl refl apart
  where
    by_test : (x y : Bool) → leb (at + 2) (offset_of row) ≡ x → leb (offset_of row + 2) at ≡ y → x || y ≡ true → field_at s at ≡ field_at t at
    by_test true y e f a =
        let l = leb-true (at + 2) (offset_of row) e in
        rw (h at (λ k. omega arith) (λ k. omega arith), h (at + 1) (λ k. omega arith) (λ k. omega arith))
    by_test false true e f a =
        let l = leb-true (offset_of row + 2) at f in
        rw (h at (λ k. omega arith) (λ k. omega arith), h (at + 1) (λ k. omega arith) (λ k. omega arith))
    by_test false false e f a = absurd (false≢true a)

-- a decision's bytes are those of what was found
pub byte_is : (s : List ℕ) (w : List ℤ) (out d : List ℕ) → Decision s w out d → (k : ℕ) → k < 32 → byte d k ≡ byte (decision_bytes (findings s w)) k
byte_is s w out d c k l = ap (λ x. byte x k) (front c) ∙ get_or-append (decision_bytes (findings s w)) (drop decision_length out) 0 k l

-- ---- what was found, with other phases and quadrilaterals: bytes 2 on do not go by them

abbrev pub with_phases : ℕ → ℕ → Findings → Findings
with_phases p q f = record { operating = p; quadrilaterals = q; asserting = f.asserting; overreaching = f.overreaching; unbalanced = f.unbalanced; direction = f.direction; changes = f.changes; comparisons = f.comparisons }

from_2 : (f : Findings) (rest : List ℕ) (k : ℕ) → 2 ≤ k → get_or (decision_bytes f ++ rest) k 0 ≡ get_or (decision_bytes (with_phases 0 0 f) ++ rest) k 0
from_2 f rest zero l = absurd (omega arith)
from_2 f rest (suc zero) l = absurd (omega arith)
from_2 f rest (suc (suc k)) l = refl

pub same_from_2 :
    (s t : List ℕ) (w : List ℤ) (out d e : List ℕ) → with_phases 0 0 (findings s w) ≡ with_phases 0 0 (findings t w) → Decision s w out d → Decision t w out e
    → (k : ℕ) → 2 ≤ k → byte d k ≡ byte e k
same_from_2 s t w out d e same c b k l =
    let rest = drop decision_length out in
    ap (λ x. byte x k) (front c) ∙ from_2 (findings s w) rest k l ∙ ap (λ f. get_or (decision_bytes f ++ rest) k 0) same
    ∙ sym (from_2 (findings t w) rest k l) ∙ sym (ap (λ x. byte x k) (front b))

-- and the two parts of byte 1
module _ (s : List ℕ) (w : List ℤ) (out d : List ℕ) (c : Decision s w out d) where
  few : (findings s w).operating < 8
  unfolding findings operating_bits
  few = let h = bits_most (operate s w) in omega (arith, h)

  pub low_bits : byte d 1 % 8 ≡ (findings s w).operating
  low_bits = let e = byte_is s w out d c 1 (omega arith) in omega (arith, e, few)

  pub high_bits : byte d 1 / 8 ≡ (findings s w).quadrilaterals
  high_bits = let e = byte_is s w out d c 1 (omega arith) in omega (arith, e, few)

-- ---- records from before

-- rules in front of two lists that find the same
behind : (rs ts us : List Rule) (s : List ℕ) → checked_by ts s ≡ checked_by us s → checked_by (rs ++ ts) s ≡ checked_by (rs ++ us) s
unfolding checked_by
behind [] ts us s e = e
behind (r ∷ rs) ts us s e = ap (λ x. cond (holds s r) x (fault (offset_of r))) (behind rs ts us s e)

kept_from : (front rs : List Rule) (s : List ℕ) → AllKept (front ++ rs) s → AllKept rs s
kept_from [] rs s a = a
kept_from (r ∷ front) rs s a = kept_from front rs s a.1

-- a row that allows 0, and two spare bytes in its place
module _ (row : Rule) (front rest : List Rule) (zero-kept : (s : List ℕ) → field_at s (offset_of row) ≡ 0 → holds s row ≡ true) where
  abbrev at : ℕ
  at = offset_of row

  abbrev before : List Rule
  before = front ++ Byte at 0 0 ∷ Byte (at + 1) 0 0 ∷ rest

  found_alike : (s : List ℕ) → get_or s at 0 ≡ 0 → get_or s (at + 1) 0 ≡ 0 → checked_by (front ++ row ∷ rest) s ≡ checked_by before s
  unfolding checked_by
  found_alike s high low =
      let two : checked_by (row ∷ rest) s ≡ checked_by (Byte at 0 0 ∷ Byte (at + 1) 0 0 ∷ rest) s = rw (zero-kept s (rw (high, low)), high, low) in
      behind front (row ∷ rest) (Byte at 0 0 ∷ Byte (at + 1) 0 0 ∷ rest) s two

  pub from_before : FromBefore row (front ++ row ∷ rest) before
  from_before =
      record {
        found_alike = found_alike;
        good_before = λ s. (
          λ g.
              let kept = kept_from front (Byte at 0 0 ∷ Byte (at + 1) 0 0 ∷ rest) s (all_kept before s g) in
              let high = kept.0.most in
              let low = kept.1.0.most in
              (found_alike s (omega (arith, high)) (omega (arith, low)) ∙ g, omega (arith, high, low)),
          λ h. sym (found_alike s (omega (arith, h.1)) (omega (arith, h.1))) ∙ h.0,
        );
      }
