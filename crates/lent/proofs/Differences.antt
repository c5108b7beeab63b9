-- What a comparison finds: the first difference, if there is one; no difference is equality.
use Prim.Native.Nat.{ℕ, zero, suc, ◌+◌, ◌-◌, ◌<◌, ◌≤◌}
use mathlib.Core.Path.{◌≡◌, refl, ap, ap₂, ◌∙◌}
use mathlib.Core.List.{List, [], ◌∷◌}
use mathlib.Core.Bool.{Bool, true, false, cond}
use native.Mathlib.Nat.{sub-zero}
use native.Mathlib.Omega.{arith}
use borrow.Author.Tests.{eq-eqb, ne_eqb, eqb-true, eqb-false}
use lib.ListN.{length, take, get_or, drop, drop_of_length-le}
use lib.Seq.{drop-cons}
use lib.Dec.{eqb}
use Rattle.std.proofs.lemmas.Bool.Decides.{nat_tests}
use Rattle.lent.specs.Lent.{differ_from, first_difference, FirstAt}
use Rattle.std.specs.Prelude.{Some, None}
use native.Mathlib.Numerals.{add-one}

first_from : (j k : ℕ) (xs ys : List ℕ) → differ_from j xs ys ≡ Some k → (j ≤ k) × FirstAt xs ys (k - j)
unfolding differ_from
first_from j k [] ys e = absurd cc
first_from j k (x ∷ xs) [] e = absurd cc
first_from j k (x ∷ xs) (y ∷ ys) e = by_test (eqb x y) refl (λ d. first_from (suc j) k xs ys d) e
  where
    by_test :
        (b : Bool) → eqb x y ≡ b → (differ_from (suc j) xs ys ≡ Some k → (suc j ≤ k) × FirstAt xs ys (k - suc j)) →
        cond b (differ_from (suc j) xs ys) (Some j) ≡ Some k → (j ≤ k) × FirstAt (x ∷ xs) (y ∷ ys) (k - j)
    by_test true t rest e =
        let r = rest e in
        let n : k - j ≡ suc (k - suc j) = omega (arith, r.0) in
        (omega (arith, r.0), rw n (record { before = ap₂ ◌∷◌ (eqb-true x y t) r.1.before; there = r.1.there }))
    by_test false t rest e =
        let n : j ≡ k = cc in
        let z : k - j ≡ 0 = omega arith in
        (omega arith, rw z (record { before = refl; there = eqb-false x y t }))

pub difference_first : (k : ℕ) (xs ys : List ℕ) → first_difference xs ys ≡ Some k → FirstAt xs ys k
unfolding first_difference
difference_first k xs ys e = rw (sub-zero k) at (first_from 0 k xs ys e).1

first_is : (j k : ℕ) (xs ys : List ℕ) → length xs ≡ length ys → FirstAt xs ys k → differ_from j xs ys ≡ Some (j + k)
unfolding differ_from
first_is j k [] [] l f = absurd (f.there refl)
first_is j k [] (y ∷ ys) l f = absurd (omega arith)
first_is j k (x ∷ xs) [] l f = absurd (omega arith)
first_is j zero (x ∷ xs) (y ∷ ys) l f = rw (ne_eqb x y f.there) (ap Some (omega arith))
first_is j (suc k) (x ∷ xs) (y ∷ ys) l f =
    let before = f.before in
    let heads : x ≡ y = cc in
    let tails : take k xs ≡ take k ys = cc in
    rw (eq-eqb x y heads) (first_is (suc j) k xs ys (omega arith) (record { before = tails; there = f.there }) ∙ ap Some (omega arith))

-- and the other way, for two lists of one length
pub first_difference_lem : (k : ℕ) (xs ys : List ℕ) → length xs ≡ length ys → FirstAt xs ys k → first_difference xs ys ≡ Some k
unfolding first_difference
first_difference_lem k xs ys l f = first_is 0 k xs ys l f ∙ ap Some (omega arith)

same_from : (j : ℕ) (xs ys : List ℕ) → length xs ≡ length ys → differ_from j xs ys ≡ None → xs ≡ ys
unfolding differ_from
same_from j [] [] l e = refl
same_from j [] (y ∷ ys) l e = absurd (omega arith)
same_from j (x ∷ xs) [] l e = absurd (omega arith)
same_from j (x ∷ xs) (y ∷ ys) l e = grind (arith, nat_tests, same_from (suc j) xs ys (omega arith))

-- two lists of one length with no difference are the same list
pub difference_same : (xs ys : List ℕ) → length xs ≡ length ys → first_difference xs ys ≡ None → xs ≡ ys
unfolding first_difference
difference_same xs ys l e = same_from 0 xs ys l e

same_self : (j : ℕ) (xs : List ℕ) → differ_from j xs xs ≡ None
unfolding differ_from
same_self j [] = refl
same_self j (x ∷ xs) = rw (eq-eqb x x refl) (same_self (suc j) xs)

-- and a list does not differ from itself
pub difference_self : (xs : List ℕ) → first_difference xs xs ≡ None
unfolding first_difference
difference_self xs = same_self 0 xs

-- ---- one turn of the comparison, on what is left of two lists

module _ (xs ys : List ℕ) (i : ℕ) (hx : i < length xs) (hy : i < length ys) where
  pub same_turn : get_or xs i 0 ≡ get_or ys i 0 → differ_from i (drop i xs) (drop i ys) ≡ differ_from (i + 1) (drop (i + 1) xs) (drop (i + 1) ys)
  unfolding differ_from
  same_turn e = rw (drop-cons xs i 0 hx, drop-cons ys i 0 hy, eq-eqb (get_or xs i 0) (get_or ys i 0) e, add-one i)

  pub differ_turn : (get_or xs i 0 ≡ get_or ys i 0 → ⊥) → differ_from i (drop i xs) (drop i ys) ≡ Some i
  unfolding differ_from
  differ_turn e = rw (drop-cons xs i 0 hx, drop-cons ys i 0 hy, ne_eqb (get_or xs i 0) (get_or ys i 0) e)

pub same_end : (xs ys : List ℕ) (i : ℕ) → length xs ≤ i → differ_from i (drop i xs) (drop i ys) ≡ None
unfolding differ_from
same_end xs ys i h = rw (drop_of_length-le xs h)
