-- How numbers become bytes, one after another, and that nothing is lost on the way there or back: a number of 16 bits is two bytes.
use Prim.Native.Nat.{ℕ, ◌+◌, ◌*◌, ◌/◌, ◌%◌, ◌-◌, ◌≤◌, ◌<◌, min}
use mathlib.Core.Path.{◌≡◌, refl, ap, ap₂, ◌∙◌}
use mathlib.Core.List.{List, [], ◌∷◌, ◌++◌}
use mathlib.Core.Bool.{Bool, true, false, cond}
use native.Mathlib.Numerals.{add-one}
use native.Mathlib.Omega.{arith}
use borrow.Author.Tests.{lt-ltb, le-ltb, ltb-true, ltb-false}
use lib.Dec.{ltb}
use lib.IntN.{ℤ, pos, negsuc, ◌-ℤ◌}
use lib.ListN.{length, take, get_or}
use lib.Seq.{get_or-take, take-suc, length-take-le}
use Rattle.std.proofs.lemmas.List.{length-take}
use mir.Syntax.{w16}
use mir.Val.{SFits}
use Rattle.std.specs.Int.{to_be_bytes, cast_unsigned}
use Rattle.whole.specs.TwosComplement.{signed, unsigned}
use Rattle.whole.proofs.TwosComplement.{from_32768, cast_unsigned_is}
use Rattle.lent.specs.Lent.{over}
use Rattle.lent.proofs.Over.{over_over}
use Rattle.samples.specs.Window.{numbers_of}
use Rattle.stream.specs.declared.Window.{Window}
use Rattle.stream.specs.Stored.{word, bytes_of, stored_first, Sample}
use Rattle.lent.specs.Bytes.{Every, Byte}

-- what std's `to_be_bytes` gives, of a count and of a number
pub word_is : (v : ℕ) → v < 65536 → to_be_bytes w16 v ≡ word v
word_is v h = ap (λ (high : ℕ). high ∷ v % 256 ∷ []) (omega arith)

pub number_word : (x : ℤ) → SFits w16 x → to_be_bytes w16 (cast_unsigned w16 x) ≡ word (unsigned x)
number_word x h = rw (cast_unsigned_is x) (word_is (unsigned x) (in_16 x h))
  where
    in_16 : (x : ℤ) → SFits w16 x → unsigned x < 65536
    in_16 (pos n) h = omega (arith, h.sfits)
    in_16 (negsuc n) h = omega arith

pub bytes_length : (xs : List ℤ) → length (bytes_of xs) ≡ 2 * length xs
unfolding bytes_of
bytes_length [] = refl
bytes_length (x ∷ xs) = omega (arith, bytes_length xs)

pub bytes_first : (xs : List ℤ) (k : ℕ) → k ≤ length xs → length (bytes_of (take k xs)) ≡ 2 * k
bytes_first xs k h = bytes_length (take k xs) ∙ ap (λ (n : ℕ). 2 * n) (length-take-le k xs h)

pub bytes_append : (xs ys : List ℤ) → bytes_of (xs ++ ys) ≡ bytes_of xs ++ bytes_of ys
unfolding bytes_of
bytes_append [] ys = refl
bytes_append (x ∷ xs) ys = ap (λ (l : List ℕ). word (unsigned x) ++ l) (bytes_append xs ys)

-- the bytes of one number more
pub bytes_more : (xs : List ℤ) (i : ℕ) → i < length xs → bytes_of (take (i + 1) xs) ≡ bytes_of (take i xs) ++ word (unsigned (get_or xs i (pos 0)))
unfolding bytes_of
bytes_more xs i h = rw (add-one i, take-suc xs i (pos 0) h) (bytes_append (take i xs) (get_or xs i (pos 0) ∷ []))

pub two_bytes : (v : ℕ) → v / 256 * 256 + v % 256 ≡ v
two_bytes v = omega arith

-- a number of 16 bits comes back from its bits
pub signed_unsigned : (x : ℤ) → Sample x → signed (unsigned x) ≡ x
signed_unsigned (pos n) h = rw (lt-ltb n 32768 h)
signed_unsigned (negsuc n) h =
    rw (le-ltb (65535 - n) 32768 (omega arith), from_32768 (65535 - n) (omega arith) (omega arith)) (ap negsuc (omega arith))

-- 16 bits are a number of 16 bits, so the numbers of bytes are such
pub signed_sample : (v : ℕ) → v < 65536 → Sample (signed v)
signed_sample v k = by_test (ltb v 32768) refl
  where
    by_test : (b : Bool) → ltb v 32768 ≡ b → Sample (cond b (pos v) (pos v -ℤ pos 65536))
    by_test true t = ltb-true v 32768 t
    by_test false t = let h = ltb-false v 32768 t in rw (from_32768 v h k) (omega (arith, h))

pub numbers_samples : (b : List ℕ) → Every Byte b → Every Sample (numbers_of b)
unfolding numbers_of
numbers_samples [] h = tt
numbers_samples (x ∷ []) h = tt
numbers_samples (x ∷ y ∷ b) h = (signed_sample (x * 256 + y) (omega (arith, h.0, h.1.0)), numbers_samples b h.1.1)

-- numbers written, with bytes behind them, and read again
pub written_read : (xs : List ℤ) (b : List ℕ) → Every Sample xs → numbers_of (bytes_of xs ++ b) ≡ xs ++ numbers_of b
unfolding bytes_of numbers_of
written_read [] b h = refl
written_read (x ∷ xs) b h = ap₂ ◌∷◌ (rw (two_bytes (unsigned x)) (signed_unsigned x h.0)) (written_read xs b h.1)

-- a window written: its count, and one number more
pub count_put : (d : List ℕ) (at : ℕ) (w : Window) → w.count < 65536 → over d at (to_be_bytes w16 w.count) ≡ over d at (stored_first 0 w)
unfolding bytes_of
count_put d at w few = ap (over d at) (word_is w.count few)

pub number_put :
    (d s : List ℕ) (at k : ℕ) (w : Window) (i : ℕ) (bytes : List ℕ) → at ≤ length d → i < length (take k w.numbers) →
    s ≡ over d at (stored_first i w) → SFits w16 (get_or (take k w.numbers) i (pos 0)) →
    bytes ≡ to_be_bytes w16 (cast_unsigned w16 (get_or (take k w.numbers) i (pos 0))) →
    over s (at + 2 + 2 * i) bytes ≡ over d at (stored_first (i + 1) w)
number_put d s at k w i bytes room more e fits b =
    let x : ℤ = get_or (take k w.numbers) i (pos 0) in
    let few : length (take k w.numbers) ≡ min k (length w.numbers) = length-take k w.numbers in
    let there : at + 2 + 2 * i ≡ at + length (stored_first i w) = omega (arith, few, bytes_first w.numbers i (omega (arith, few))) in
    rw (b, number_word x fits, e, there, bytes_more w.numbers i (omega (arith, few)), get_or-take k w.numbers i (pos 0) (omega (arith, few)))
    (over_over d at (stored_first i w) room (word (unsigned (get_or w.numbers i (pos 0)))))
