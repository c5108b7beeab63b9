-- A record finished in its slice, which the code writes in two parts: what stands before the bytes in hand, and these.
use Prim.Native.Nat.{ℕ, zero, suc, ◌+◌, ◌*◌, ◌-◌, ◌<◌, ◌≤◌}
use mathlib.Core.Path.{◌≡◌, refl, ap, ap₂, ◌∙◌}
use mathlib.Core.List.{List, [], ◌∷◌, ◌++◌, append_assoc}
use native.Mathlib.Omega.{arith}
use lib.ListN.{length, take, drop, set, get_or, length-drop, take-append-drop}
use lib.Seq.{sets-eq, take-append-le, drop-append-le, length-take-le, get_or-drop}
use Rattle.std.specs.Int.{w32, to_le_bytes, to_be_bytes}
use Rattle.std.proofs.lemmas.Nat.{le_bytes_4, be_bytes_4}
use Rattle.lent.specs.Lent.{over}
use Rattle.lent.proofs.Over.{over_over, over_length}
use Rattle.samples.specs.Window.{channels}
use Rattle.records.specs.Record.{word_at, swapped}
use Rattle.records.proofs.Swapped.{swapped_length}
use Rattle.events.specs.Slice.{reader_length, front_of, finished}

-- what is written over a front is written over the whole
over_front : (a b : List ℕ) (at : ℕ) (x : List ℕ) → at + length x ≤ length a → over a at x ++ b ≡ over (a ++ b) at x
over_front a b at x room = rw (take-append-le at a b (omega arith), drop-append-le (at + length x) a b room) (append_assoc (take at a ++ x) (drop (at + length x) a) b)

-- the four bytes of a number, and again
small_bytes : (a b c d : ℕ) → a < 256 → b < 256 → c < 256 → d < 256 → (i : ℕ) → get_or (a ∷ b ∷ c ∷ d ∷ []) i 0 < 256
small_bytes a b c d p q r s zero = p
small_bytes a b c d p q r s (suc zero) = q
small_bytes a b c d p q r s (suc (suc zero)) = r
small_bytes a b c d p q r s (suc (suc (suc zero))) = s
small_bytes a b c d p q r s (suc (suc (suc (suc i)))) = omega arith

module _ (h : List ℕ) (bytes : (i : ℕ) → get_or h i 0 < 256) (at : ℕ) where
  low_first : to_le_bytes w32 (word_at h at) ≡ get_or h at 0 ∷ get_or h (at + 1) 0 ∷ get_or h (at + 2) 0 ∷ get_or h (at + 3) 0 ∷ []
  unfolding word_at
  low_first = le_bytes_4 _ (word_at h at) refl (small_bytes _ _ _ _ (bytes at) (bytes (at + 1)) (bytes (at + 2)) (bytes (at + 3))) (omega arith)

  high_first : to_be_bytes w32 (word_at h at) ≡ get_or h (at + 3) 0 ∷ get_or h (at + 2) 0 ∷ get_or h (at + 1) 0 ∷ get_or h at 0 ∷ []
  unfolding word_at
  high_first = be_bytes_4 _ (word_at h at) refl (small_bytes _ _ _ _ (bytes (at + 3)) (bytes (at + 2)) (bytes (at + 1)) (bytes at)) (omega arith)

-- the byte, the number and the time are one part
pub finish_is :
    (s : List ℕ) (ends : ℕ) {number time n : ℕ} {front hand low high one two left : List ℕ} → length s ≡ reader_length → ends ≤ 6 → ((i : ℕ) → get_or s i 0 < 256) →
    front ≡ take 56 s → hand ≡ drop 56 s → number ≡ word_at hand 0 → time ≡ word_at hand 4 → n ≡ channels ends →
    low ≡ to_le_bytes w32 number → high ≡ to_be_bytes w32 time → one ≡ over (set front 3 0) 4 low → two ≡ over one 8 high →
    left ≡ over two 12 (swapped (take (8 + 2 * n - 8) (drop 8 hand))) → left ++ hand ≡ finished ends (drop 56 s) s
finish_is s ends {number} {time} {n} {front} {hand} {low} {high} {one} {two} {left} l most bytes f h nu ti c lo hi o t k =
    let p : List ℕ = take 56 s in
    let x : List ℕ = drop 56 s in
    let byte : (i : ℕ) → get_or x i 0 < 256 = λ i. rw (get_or-drop 56 s i 0) (bytes (56 + i)) in
    let first : List ℕ = get_or x 0 0 ∷ get_or x 1 0 ∷ get_or x 2 0 ∷ get_or x 3 0 ∷ [] in
    let second : List ℕ = get_or x 7 0 ∷ get_or x 6 0 ∷ get_or x 5 0 ∷ get_or x 4 0 ∷ [] in
    let number_is : low ≡ first = lo ∙ rw (nu, h) (low_first x byte 0) in
    let time_is : high ≡ second = hi ∙ rw (ti, h) (high_first x byte 4) in
    let long : length p ≡ 56 = length-take-le 56 s (omega arith) in
    let written : two ≡ over p 3 (front_of x) =
    t ∙ ap₂ (λ (a b : List ℕ). over a 8 b)
    (o ∙ ap₂ (λ (a b : List ℕ). over a 4 b) (ap (λ (a : List ℕ). set a 3 0) f ∙ sets-eq (0 ∷ []) p 3 (omega arith)) number_is ∙ over_over p 3 (0 ∷ []) (omega arith) first)
    time_is ∙ over_over p 3 (0 ∷ first) (omega arith) second in
    let y : List ℕ = take (2 * channels ends) (drop 8 x) in
    let all : length y ≡ 2 * channels ends = length-take-le (2 * channels ends) (drop 8 x) (simp length-drop (omega arith)) in
    let same : 8 + 2 * n - 8 ≡ 2 * channels ends = omega arith in
    let frame : swapped (take (8 + 2 * n - 8) (drop 8 hand)) ≡ swapped y = rw (same, h) in
    let room : length (over p 3 (front_of x)) ≡ 56 = over_length p 3 (front_of x) (omega arith) ∙ long in
    ap₂ ◌++◌ (k ∙ ap₂ (λ (a b : List ℕ). over a 12 b) written frame) h ∙
    over_front (over p 3 (front_of x)) x 12 (swapped y) (omega (arith, room, swapped_length (channels ends) y all)) ∙
    ap (λ (a : List ℕ). over a 12 (swapped y)) (over_front p x 3 (front_of x) (omega arith) ∙ ap (λ (a : List ℕ). over a 3 (front_of x)) (take-append-drop 56 s))
