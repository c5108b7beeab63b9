-- What `first_missing` means: it finds the missing number that has none before it, and nothing else can be found so.
use Prim.Native.Nat.{ℕ, zero, suc, ◌+◌, ◌*◌, ◌-◌, ◌<◌, ◌≤◌, min}
use mathlib.Core.Path.{◌≡◌, refl, sym, ap, subst, ◌∙◌}
use mathlib.Core.List.{List, [], ◌∷◌, ◌++◌, append-nil}
use mathlib.Core.Bool.{Bool, true, false, cond, true≢false}
use native.Mathlib.Nat.{zero-mul, le_of_suc-le-suc, not-suc-le-zero, lt_of_not-le, le_antisymm, sub-zero, mul-le-mul_right}
use native.Mathlib.Numerals.{add-one}
use native.Mathlib.Omega.{arith}
use borrow.Author.Tests.{eqb-true}
use lib.IntN.{ℤ, pos, negsuc}
use lib.ListN.{length, drop, get_or, length-append, drop_of_length-le}
use Rattle.std.specs.Prelude.{Option, None, Some}
use Rattle.std.specs.List.{AllWithin}
use Rattle.std.specs.Ordering.{int_eq}
use Rattle.samples.specs.Window.{missing_mark, same, missing_from, first_missing}
use Rattle.samples.specs.Order.{Missing, NoneMissing, Finds, FirstInOrder}

-- ---- the test of one number

marked : (x : ℤ) → same x missing_mark ≡ true → x ≡ missing_mark
marked (pos n) t = absurd (true≢false (sym t))
marked (negsuc n) t = ap negsuc (eqb-true n 32767 t)

unmarked : (x : ℤ) → same x missing_mark ≡ false → x ≡ missing_mark → ⊥
unmarked x t e = true≢false (rw e at t)

not_marked : (x : ℤ) → (x ≡ missing_mark → ⊥) → same x missing_mark ≡ false
not_marked x other = by_test (same x missing_mark) refl
  where
    by_test : (b : Bool) → same x missing_mark ≡ b → b ≡ false
    by_test true t = absurd (other (marked x t))
    by_test false t = refl

-- ---- the search finds what it has to

-- what a search that counts from j has to find
abbrev From : ℕ → List ℤ → Option ℕ → Type 0
From j w (Some k) = (j ≤ k) × Finds w (Some (k - j))
From j w None = Finds w None

-- one present number more, in front
more : (x : ℤ) (xs : List ℤ) (n : ℕ) → (x ≡ missing_mark → ⊥) → NoneMissing xs n → (k : ℕ) → k < suc n → Missing (x ∷ xs) k → ⊥
more x xs n here rest zero l m = here m
more x xs n here rest (suc k) l m = rest k (le_of_suc-le-suc l) m

from : (j : ℕ) (w : List ℤ) → From j w (missing_from j w)
unfolding missing_from
from j [] = λ k h m. not-suc-le-zero h
from j (x ∷ xs) = by_test (same x missing_mark) refl (missing_from (suc j) xs) (from (suc j) xs)
  where
    by_test : (b : Bool) → same x missing_mark ≡ b → (r : Option ℕ) → From (suc j) xs r → From j (x ∷ xs) (cond b (Some j) r)
    by_test true t r h =
        let z : j - j ≡ 0 = omega arith in
        (omega arith, rw z (omega arith, marked x t, λ k l m. not-suc-le-zero l))
    by_test false t (Some k) h =
        let n : k - j ≡ suc (k - suc j) = omega (arith, h.0) in
        (omega (arith, h.0), rw n (omega (arith, h.1.0), h.1.1, more x xs (k - suc j) (unmarked x t) h.1.2))
    by_test false t None h = more x xs (length xs) (unmarked x t) h

-- `first_missing` finds what a search has to
pub finds : (w : List ℤ) → Finds w (first_missing w)
unfolding first_missing
finds w = start (missing_from 0 w) (from 0 w)
  where
    start : (r : Option ℕ) → From 0 w r → Finds w r
    start None h = h
    start (Some k) h = rw (sub-zero k) at h.1

-- the place that it gives is in the list, a missing number stands there, and none before
pub first_at : (w : List ℤ) (k : ℕ) → first_missing w ≡ Some k → (k < length w) × Missing w k × NoneMissing w k
first_at w k e = subst (Finds w) e (finds w)

-- where it gives none, none is missing
pub first_nothing : (w : List ℤ) → first_missing w ≡ None → NoneMissing w (length w)
first_nothing w e = subst (Finds w) e (finds w)

-- ---- and there is no other answer

-- a missing number is at or after any number with none missing before it
no_earlier : (w : List ℤ) (k l : ℕ) → NoneMissing w k → Missing w l → k ≤ l
no_earlier w k l before there = le_of_suc-le-suc (lt_of_not-le (λ h. before l h there))

-- two answers that fit are one
one : (w : List ℤ) (r s : Option ℕ) → Finds w r → Finds w s → r ≡ s
one w None None g h = refl
one w None (Some l) g h = absurd (g l h.0 h.1)
one w (Some k) None g h = absurd (h k g.0 g.1)
one w (Some k) (Some l) g h = ap Some (le_antisymm (no_earlier w k l g.2 h.1) (no_earlier w l k h.2 g.1))

-- whatever fits is what `first_missing` gives
pub is_first : (w : List ℤ) (r : Option ℕ) → Finds w r → r ≡ first_missing w
is_first w r h = one w r (first_missing w) h (finds w)

-- ---- in the words of std

-- where no number equals the mark, none is missing
pub none_marked : (w : List ℤ) → AllWithin (λ x. int_eq x missing_mark ≡ false) w 0 (length w) → None ≡ first_missing w
none_marked w h = is_first w None (λ k l m. let other = h k (pos 0) (omega arith) l in true≢false (rw m at other))

-- ---- the search as it goes on: over a frame from c on, and what is left behind it

pub begins : (m : ℕ) (w : List ℤ) → missing_from (0 * m) w ≡ first_missing w
unfolding first_missing
begins m w = ap (λ (k : ℕ). missing_from k w) (zero-mul m)

pub none_left : (k : ℕ) (w : List ℤ) → length w ≡ 0 → missing_from k w ≡ None
unfolding missing_from
none_left k [] e = refl
none_left k (x ∷ w) e = absurd (omega arith)

-- one number more: it is the mark, or the search goes on behind it
turn :
    (k c : ℕ) (frame w : List ℤ) → c < length frame →
    missing_from k (drop c frame ++ w) ≡ cond (same (get_or frame c (pos 0)) missing_mark) (Some k) (missing_from (suc k) (drop (suc c) frame ++ w))
unfolding missing_from
turn k c [] w h = absurd (not-suc-le-zero h)
turn k zero (x ∷ frame) w h = refl
turn k (suc c) (x ∷ frame) w h = turn k c frame w (le_of_suc-le-suc h)

pub goes_on :
    (k c : ℕ) (frame w : List ℤ) (r : Option ℕ) → c < length frame → (get_or frame c (pos 0) ≡ missing_mark → ⊥) →
    missing_from (k + c) (drop c frame ++ w) ≡ r → missing_from (k + (c + 1)) (drop (c + 1) frame ++ w) ≡ r
goes_on k c frame w r h other e =
    let x : ℤ = get_or frame c (pos 0) in
    let next : k + (c + 1) ≡ suc (k + c) = omega arith in
    rw (next, add-one c) (let here = turn (k + c) c frame w h in sym (rw (not_marked x other) at here) ∙ e)

pub ends_here :
    (k c : ℕ) (frame w : List ℤ) → c < length frame → get_or frame c (pos 0) ≡ missing_mark → missing_from k (drop c frame ++ w) ≡ Some k
ends_here k c frame w h e = let here = turn k c frame w h in rw e at here

-- past a frame's end; only the last can be shorter
pub next_frame :
    (f m c : ℕ) (frame w : List ℤ) → c ≡ length frame → length frame ≡ min m (length (frame ++ w)) →
    missing_from (f * m + c) (drop c frame ++ w) ≡ missing_from ((f + 1) * m) w
unfolding missing_from
next_frame f m c frame [] e long = rw (append-nil (drop c frame), drop_of_length-le frame {i = c} (omega (arith, e))) refl
next_frame f m c frame (x ∷ w) e long =
    let whole : c ≡ m = omega (arith, e, long, length-append frame (x ∷ w)) in
    let place : f * m + c ≡ (f + 1) * m = omega (arith, whole) in
    rw (drop_of_length-le frame {i = c} (omega (arith, e)), place) refl

-- for the contract of `first_missing`
pub ruleset searched = (none_marked, begins, none_left, ends_here, next_frame)

-- ---- frame order, then channel order

-- a place in an earlier frame is below where this frame begins
pub earlier : (m g d f : ℕ) → g < f → d < m → g * m + d < f * m
earlier m g d f h l = omega (arith, mul-le-mul_right m h)

-- the place that it gives, as a frame and a channel
pub first_in_order : (m : ℕ) (w : List ℤ) (f c : ℕ) → c < m → first_missing w ≡ Some (f * m + c) → FirstInOrder m w f c
first_in_order m w f c h e =
    let p = first_at w (f * m + c) e in
    record {
      in_frame = h;
      there = p.1;
      earlier_frame = λ g d i l. p.2 (g * m + d) (omega (arith, earlier m g d f i l));
      earlier_channel = λ d l. p.2 (f * m + d) (omega arith);
    }
