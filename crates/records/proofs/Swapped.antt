-- Bytes exchanged two by two: how many they are, one pair more, and exchanged twice they are as they were.
use Prim.Native.Nat.{ℕ, zero, suc, ◌+◌, ◌*◌, ◌<◌, ◌≤◌}
use mathlib.Core.Path.{◌≡◌, refl, ap, ap₂, sym, ◌∙◌}
use mathlib.Core.List.{List, [], ◌∷◌, ◌++◌, append_assoc}
use native.Mathlib.Omega.{arith}
use native.Mathlib.Numerals.{add-one}
use lib.ListN.{length, take, drop, set, get_or}
use lib.Seq.{length-take-le, take-suc, get_or-take, get_or-drop}
use Rattle.std.specs.Simd.{first_chunks}
use Rattle.lent.specs.Lent.{over}
use Rattle.lent.specs.Bytes.{Every, Byte}
use Rattle.lent.proofs.Over.{over_over, over_two}
use Rattle.records.specs.Record.{swapped}

pub swapped_append : (n : ℕ) (xs ys : List ℕ) → length xs ≡ 2 * n → swapped (xs ++ ys) ≡ swapped xs ++ swapped ys
unfolding swapped
swapped_append zero [] ys l = refl
swapped_append zero (x ∷ xs) ys l = absurd (omega arith)
swapped_append (suc n) [] ys l = absurd (omega arith)
swapped_append (suc n) (x ∷ []) ys l = absurd (omega arith)
swapped_append (suc n) (x ∷ y ∷ xs) ys l = ap (λ (r : List ℕ). y ∷ x ∷ r) (swapped_append n xs ys (omega arith))

pub swapped_length : (n : ℕ) (xs : List ℕ) → length xs ≡ 2 * n → length (swapped xs) ≡ 2 * n
unfolding swapped
swapped_length zero [] l = refl
swapped_length zero (x ∷ xs) l = absurd (omega arith)
swapped_length (suc n) [] l = absurd (omega arith)
swapped_length (suc n) (x ∷ []) l = absurd (omega arith)
swapped_length (suc n) (x ∷ y ∷ xs) l = omega (arith, swapped_length n xs (omega arith))

pub swapped_twice : (n : ℕ) (xs : List ℕ) → length xs ≡ 2 * n → swapped (swapped xs) ≡ xs
unfolding swapped
swapped_twice zero [] l = refl
swapped_twice zero (x ∷ xs) l = absurd (omega arith)
swapped_twice (suc n) [] l = absurd (omega arith)
swapped_twice (suc n) (x ∷ []) l = absurd (omega arith)
swapped_twice (suc n) (x ∷ y ∷ xs) l = ap (λ (r : List ℕ). x ∷ y ∷ r) (swapped_twice n xs (omega arith))

pub swapped_bytes : (xs : List ℕ) → Every Byte xs → Every Byte (swapped xs)
unfolding swapped
swapped_bytes [] h = tt
swapped_bytes (x ∷ []) h = tt
swapped_bytes (x ∷ y ∷ xs) h = (h.1.0, (h.0, swapped_bytes xs h.1.1))

-- an odd byte over is left out
pub swapped_pairs : (n : ℕ) (xs : List ℕ) → 2 * n ≤ length xs → length xs ≤ 2 * n + 1 → swapped (take (2 * n) xs) ≡ swapped xs
unfolding swapped
swapped_pairs zero [] l m = refl
swapped_pairs zero (x ∷ []) l m = refl
swapped_pairs zero (x ∷ y ∷ xs) l m = absurd (omega arith)
swapped_pairs (suc n) [] l m = absurd (omega arith)
swapped_pairs (suc n) (x ∷ []) l m = absurd (omega arith)
swapped_pairs (suc n) (x ∷ y ∷ xs) l m =
    let two : 2 * suc n ≡ suc (suc (2 * n)) = omega arith in
    rw two (ap (λ (r : List ℕ). y ∷ x ∷ r) (swapped_pairs n xs (omega arith) (omega arith)))

-- where the bytes of a pair lie
pub pair_byte : (n : ℕ) (xs : List ℕ) (i k j : ℕ) → i < n → k < 2 → j ≡ 2 * i + k → get_or (get_or (first_chunks 2 n xs) i []) k 0 ≡ get_or xs j 0
pair_byte zero xs i k j l m e = absurd (omega arith)
pair_byte (suc n) xs zero k j l m e = get_or-take 2 xs k 0 m ∙ ap (λ (j : ℕ). get_or xs j 0) (omega arith)
pair_byte (suc n) xs (suc i) k j l m e =
    pair_byte n (drop 2 xs) i k (2 * i + k) (omega arith) m refl ∙ get_or-drop 2 xs (2 * i + k) 0 ∙ ap (λ (j : ℕ). get_or xs j 0) (omega arith)

take_two : (s : List ℕ) (k : ℕ) → k + 1 < length s → take (suc (suc k)) s ≡ take k s ++ get_or s k 0 ∷ get_or s (k + 1) 0 ∷ []
take_two s k l = rw (take-suc s (suc k) 0 (omega arith), take-suc s k 0 (omega arith), add-one k) (append_assoc (take k s) (get_or s k 0 ∷ []) (get_or s (suc k) 0 ∷ []))

swapped_more :
    (s : List ℕ) (i : ℕ) → 2 * i + 1 < length s → swapped (take (2 * (i + 1)) s) ≡ swapped (take (2 * i) s) ++ get_or s (2 * i + 1) 0 ∷ get_or s (2 * i) 0 ∷ []
unfolding swapped
swapped_more s i l =
    let two : 2 * (i + 1) ≡ suc (suc (2 * i)) = omega arith in
    rw (two, take_two s (2 * i) l) (swapped_append i (take (2 * i) s) (get_or s (2 * i) 0 ∷ get_or s (2 * i + 1) 0 ∷ []) (length-take-le (2 * i) s (omega arith)))

-- one turn of the loop: one channel more behind those that were written
pub turned :
    (d₀ d s : List ℕ) (at i : ℕ) {high low : ℕ} → 2 * i + 1 < length s → at + (2 * i + 2) ≤ length d₀ → length d ≡ length d₀ →
    d ≡ over d₀ at (swapped (take (2 * i) s)) → high ≡ get_or s (2 * i + 1) 0 → low ≡ get_or s (2 * i) 0 →
    set (set d (at + 2 * i) high) (at + 2 * i + 1) low ≡ over d₀ at (swapped (take (2 * (i + 1)) s))
turned d₀ d s at i {high} {low} more room same e h l =
    let x : List ℕ = swapped (take (2 * i) s) in
    let long : length x ≡ 2 * i = swapped_length i (take (2 * i) s) (length-take-le (2 * i) s (omega arith)) in
    let pair : high ∷ low ∷ [] ≡ get_or s (2 * i + 1) 0 ∷ get_or s (2 * i) 0 ∷ [] = cc in
    over_two d (at + 2 * i) high low (omega arith) ∙
    ap₂ (λ (t : List ℕ) (k : ℕ). over t (at + k) (high ∷ low ∷ [])) e (sym long) ∙
    over_over d₀ at x (omega arith) (high ∷ low ∷ []) ∙
    ap (over d₀ at) (ap (λ (y : List ℕ). x ++ y) pair ∙ sym (swapped_more s i more))
