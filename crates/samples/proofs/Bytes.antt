-- The numbers of bytes: how many they are, when they are as many as a window has, each of them, and a list filled with them as the code does.
use Prim.Native.Nat.{ℕ, zero, suc, ◌+◌, ◌*◌, ◌/◌, ◌-◌, ◌<◌, ◌≤◌}
use mathlib.Core.Path.{◌≡◌, refl, sym, ap, ap₂, ◌∙◌}
use mathlib.Core.List.{List, [], ◌∷◌, ◌++◌}
use mathlib.Core.Bool.{Bool, true, false, cond, ◌&&◌}
use native.Mathlib.Nat.{not-suc-le-zero}
use native.Mathlib.Numerals.{add-one}
use native.Mathlib.Omega.{arith}
use borrow.Author.Tests.{eq-eqb, ne_eqb, le-leb, lt-leb, eqb-true, eqb-false, leb-true}
use lib.Dec.{eqb, leb}
use lib.IntN.{ℤ, pos}
use lib.ListN.{length, take, drop, set, get_or}
use lib.Seq.{take-suc, take-suc-set, take_all, drop-nil}
use mir.Syntax.{w16}
use Rattle.std.specs.Int.{cast_signed}
use Rattle.std.specs.Simd.{first_chunks}
use Rattle.whole.specs.TwosComplement.{signed}
use Rattle.whole.proofs.TwosComplement.{cast_signed_is}
use Rattle.samples.specs.Window.{window_length, numbers_of, HoldsNumbers}
use Rattle.samples.specs.Sizes.{count}

pub numbers_length : (b : List ℕ) → length (numbers_of b) ≡ length b / 2
unfolding numbers_of
numbers_length [] = refl
numbers_length (x ∷ []) = refl
numbers_length (x ∷ y ∷ b) = omega (arith, numbers_length b)

-- bytes that hold n numbers give n numbers
pub held : (n : ℕ) (b : List ℕ) → HoldsNumbers n b → length (numbers_of b) ≡ n
held n b h = omega (arith, numbers_length b)

-- how many are taken: where a byte is over, where they are too many, and else
module _ (b : List ℕ) where
  pub count_odd : (2 * (length b / 2) ≡ length b → ⊥) → 0 ≡ count b
  count_odd h = rw (ne_eqb (2 * (length b / 2)) (length b) h)

  pub count_long : 2 * (length b / 2) ≡ length b → window_length 6 < length b / 2 → 0 ≡ count b
  count_long h l = rw (eq-eqb (2 * (length b / 2)) (length b) h, lt-leb (length b / 2) (window_length 6) l)

  pub count_all : 2 * (length b / 2) ≡ length b → length b / 2 ≤ window_length 6 → length b / 2 ≡ count b
  count_all h l = rw (eq-eqb (2 * (length b / 2)) (length b) h, le-leb (length b / 2) (window_length 6) l)

  -- at most as many as the longest window has, and as there are
  pub count_few : (count b ≤ window_length 6) × (2 * count b ≤ length b)
  count_few = by_tests (eqb (2 * (length b / 2)) (length b)) refl (leb (length b / 2) (window_length 6)) refl
    where
      by_tests :
          (x : Bool) → eqb (2 * (length b / 2)) (length b) ≡ x → (y : Bool) → leb (length b / 2) (window_length 6) ≡ y
          → (cond (x && y) (length b / 2) 0 ≤ window_length 6) × (2 * cond (x && y) (length b / 2) 0 ≤ length b)
      by_tests true t true u = (leb-true (length b / 2) (window_length 6) u, omega (arith, eqb-true (2 * (length b / 2)) (length b) t))
      by_tests true t false u = (omega arith, omega arith)
      by_tests false t y u = (omega arith, omega arith)

  counted : (n : ℕ) → 0 < n → count b ≡ n → HoldsNumbers n b
  counted n p e = by_tests (eqb (2 * (length b / 2)) (length b)) refl (leb (length b / 2) (window_length 6)) e
    where
      by_tests : (x : Bool) → eqb (2 * (length b / 2)) (length b) ≡ x → (y : Bool) → cond (x && y) (length b / 2) 0 ≡ n → HoldsNumbers n b
      by_tests true t true e = omega (arith, eqb-true (2 * (length b / 2)) (length b) t)
      by_tests true t false e = absurd (omega arith)
      by_tests false t y e = absurd (omega arith)

  -- so many are taken as a window of N ends has, exactly where the bytes hold a window of N ends
  pub count_window : (N : ℕ) → N ≤ 6 → eqb (count b) (window_length N) ≡ eqb (length b) (2 * window_length N)
  count_window N few = by_test (eqb (length b) (2 * window_length N)) refl
    where
      by_test : (x : Bool) → eqb (length b) (2 * window_length N) ≡ x → eqb (count b) (window_length N) ≡ x
      by_test true t =
          let h : length b ≡ 2 * window_length N = eqb-true (length b) (2 * window_length N) t in
          eq-eqb (count b) (window_length N) (sym (count_all (omega (arith, h)) (omega (arith, h))) ∙ omega (arith, h))
      by_test false t =
          ne_eqb (count b) (window_length N) (λ e. eqb-false (length b) (2 * window_length N) t (counted (window_length N) (omega arith) e))

-- and all the numbers are taken then
pub count_held : (n : ℕ) (b : List ℕ) → HoldsNumbers n b → take n (numbers_of b) ≡ numbers_of b
count_held n b h = take_all n (numbers_of b) (omega (arith, numbers_length b))

-- the number at i comes of the bytes at 2i and 2i + 1
pub number_at : (b : List ℕ) (i : ℕ) → 2 * i + 1 < length b → get_or (numbers_of b) i (pos 0) ≡ signed (get_or b (2 * i) 0 * 256 + get_or b (2 * i + 1) 0)
unfolding numbers_of
number_at [] i h = absurd (not-suc-le-zero h)
number_at (x ∷ []) i h = absurd (omega arith)
number_at (x ∷ y ∷ b) zero h = refl
number_at (x ∷ y ∷ b) (suc i) h =
    let high : suc (suc (2 * i)) ≡ 2 * suc i = omega arith in
    let low : suc (suc (2 * i + 1)) ≡ 2 * suc i + 1 = omega arith in
    number_at b i (omega arith) ∙ ap₂ (λ (m n : ℕ). signed (get_or (x ∷ y ∷ b) m 0 * 256 + get_or (x ∷ y ∷ b) n 0)) high low

-- without the first numbers
pub numbers_drop : (n : ℕ) (b : List ℕ) → numbers_of (drop (2 * n) b) ≡ drop n (numbers_of b)
unfolding numbers_of
numbers_drop zero b = refl
numbers_drop (suc n) [] = ap numbers_of (drop-nil (2 * suc n))
numbers_drop (suc n) (x ∷ []) = let two : 2 * suc n ≡ suc (suc (2 * n)) = omega arith in rw two (ap numbers_of (drop-nil (suc (2 * n))))
numbers_drop (suc n) (x ∷ y ∷ b) = let two : 2 * suc n ≡ suc (suc (2 * n)) = omega arith in rw two (numbers_drop n b)

-- of bytes one after another, where the first hold m numbers
pub numbers_append : (m : ℕ) (a b : List ℕ) → HoldsNumbers m a → numbers_of (a ++ b) ≡ numbers_of a ++ numbers_of b
unfolding numbers_of
numbers_append m [] b h = refl
numbers_append m (x ∷ []) b h = absurd (omega arith)
numbers_append m (x ∷ y ∷ a) b h = ap (λ (l : List ℤ). signed (x * 256 + y) ∷ l) (numbers_append (m - 1) a b (omega arith))

-- as std reads it from the pair at i
pub number_of_pair :
    (n : ℕ) (b : List ℕ) (i : ℕ) → ((k : ℕ) → get_or b k 0 < 256) → i < n → 2 * n ≤ length b →
    cast_signed w16 (get_or (get_or (first_chunks 2 n b) i []) 0 0 * 256 + get_or (get_or (first_chunks 2 n b) i []) 1 0)
    ≡ get_or (numbers_of b) i (pos 0)
unfolding numbers_of
number_of_pair zero b i byte h room = absurd (not-suc-le-zero h)
number_of_pair (suc n) [] i byte h room = absurd (omega arith)
number_of_pair (suc n) (x ∷ []) i byte h room = absurd (omega arith)
number_of_pair (suc n) (x ∷ y ∷ b) zero byte h room = cast_signed_is (x * 256 + y) (omega (arith, byte 0, byte 1))
number_of_pair (suc n) (x ∷ y ∷ b) (suc i) byte h room = number_of_pair n b i (λ k. byte (suc (suc k))) (omega arith) (omega arith)

-- a list filled from the front as t is, filled one place further with what t has there
pub filled : (s t : List ℤ) (i : ℕ) → i < length s → i < length t → take i s ≡ take i t → take (i + 1) (set s i (get_or t i (pos 0))) ≡ take (i + 1) t
filled s t i hs ht e = rw (add-one i, take-suc-set s i (get_or t i (pos 0)) hs, e, take-suc t i (pos 0) ht)
