-- Laws of what is written over a list: what stands before it, from it on and behind it, a second part right behind the first, what stood there
-- already, the part read again, single bytes; nothing written, and two bytes.
use Prim.Native.Nat.{ℕ, ◌+◌, ◌<◌, ◌≤◌}
use mathlib.Core.Path.{◌≡◌, sym, ◌∙◌, ap}
use mathlib.Core.List.{List, [], ◌∷◌, ◌++◌, append_assoc}
use native.Mathlib.Nat.{add_assoc}
use native.Mathlib.Omega.{arith}
use native.Mathlib.Numerals.{add-one}
use lib.ListN.{length, take, drop, set, get_or, get_or-append, length-append, length-drop, take-append-drop}
use lib.Seq.{sets-eq, paste, paste-zero, paste-suc, take-length, get_or-take, get_or-append-add, length-take-le, take_at, drop_at, drop-drop, take-take, take-add, take-append_seam, drop-append-add}
use Rattle.lent.specs.Lent.{over}

module _ {A : Type 0} (d : List A) (at : ℕ) (x : List A) (room : at ≤ length d) where
  -- up to the part's end
  front_length : length (take at d ++ x) ≡ at + length x
  front_length = length-append (take at d) x ∙ ap (λ (n : ℕ). n + length x) (length-take-le at d room)

  whole : over d at x ≡ take at d ++ (x ++ drop (at + length x) d)
  whole = append_assoc (take at d) x (drop (at + length x) d)

  -- before the part nothing changes
  pub over_before : take at (over d at x) ≡ take at d
  over_before = ap (take at) whole ∙ take_at (take at d) (x ++ drop (at + length x) d) at (length-take-le at d room)

  -- from its place on stands the part, and then what stood there
  pub over_from : drop at (over d at x) ≡ x ++ drop (at + length x) d
  over_from = ap (drop at) whole ∙ drop_at (take at d) (x ++ drop (at + length x) d) at (length-take-le at d room)

  -- behind the part nothing changes
  pub over_behind : (n : ℕ) → drop (at + length x + n) (over d at x) ≡ drop (at + length x + n) d
  over_behind n = rw (← front_length, drop-append-add, front_length) (drop-drop n (at + length x) d)

  -- a second part right behind the first is one longer part
  pub over_over : (y : List A) → over (over d at x) (at + length x) y ≡ over d at (x ++ y)
  over_over y = rw (over_behind (length y), take_at (take at d ++ x) (drop (at + length x) d) (at + length x) front_length) (rw (length-append x y, ← add_assoc, ← append_assoc))

  -- the part, read again
  pub over_read : take (length x) (drop at (over d at x)) ≡ x
  over_read = ap (take (length x)) over_from ∙ take-append_seam x (drop (at + length x) d)

module _ (d : List ℕ) (at : ℕ) (x : List ℕ) (room : at ≤ length d) where
  -- a byte before the part, and one of it
  pub byte_before : (k : ℕ) → k < at → get_or (over d at x) k 0 ≡ get_or d k 0
  byte_before k l =
      ap (λ (t : List ℕ). get_or t k 0) (whole d at x room) ∙
      get_or-append (take at d) (x ++ drop (at + length x) d) 0 k (omega (arith, length-take-le at d room)) ∙
      get_or-take at d k 0 l

  pub byte_in : (k : ℕ) → k < length x → get_or (over d at x) (at + k) 0 ≡ get_or x k 0
  byte_in k l =
      ap (λ (t : List ℕ). get_or t (at + k) 0) (whole d at x room) ∙
      ap (λ (n : ℕ). get_or (take at d ++ (x ++ drop (at + length x) d)) (n + k) 0) (sym (length-take-le at d room)) ∙
      get_or-append-add (take at d) (x ++ drop (at + length x) d) k 0 ∙
      get_or-append x (drop (at + length x) d) 0 k l

-- a part that has room leaves the length
pub over_length : {A : Type 0} (d : List A) (at : ℕ) (x : List A) → at + length x ≤ length d → length (over d at x) ≡ length d
over_length d at x room = simp (length-append, length-drop, length-take-le at d (omega arith)) (omega arith)

-- what stands there already changes nothing
pub over_same : {A : Type 0} (d : List A) (at n : ℕ) → at + n ≤ length d → over d at (take n (drop at d)) ≡ d
over_same d at n room =
    let l : length (take n (drop at d)) ≡ n = length-take-le n (drop at d) (simp length-drop (omega arith)) in
    rw (l, ← take-add) (take-append-drop (at + n) d)

-- nothing written changes nothing
pub over_none : {A : Type 0} (d : List A) (at : ℕ) → d ≡ over d at []
over_none d at = paste-zero d at []

-- two stores are two bytes written
pub over_two : (d : List ℕ) (at x y : ℕ) → at + 2 ≤ length d → set (set d at x) (at + 1) y ≡ over d at (x ∷ y ∷ [])
over_two d at x y room = rw (add-one at) (sets-eq (x ∷ y ∷ []) d at room)

-- the middle of a list, cut in either order
pub take_drop : {A : Type 0} (n m : ℕ) (l : List A) → n ≤ length l → take m (drop n l) ≡ drop n (take (n + m) l)
take_drop n m l h = rw (take-add n m l) (sym (drop_at (take n l) (take m (drop n l)) n (length-take-le n l h)))

-- a part of a list's front is that part of the list
pub part_front : (x : List ℕ) (a m n : ℕ) → a + m ≤ n → n ≤ length x → take m (drop a (take n x)) ≡ take m (drop a x)
part_front x a m n l h =
    take_drop a m (take n x) (simp (length-take-le n x h) (omega arith)) ∙ ap (drop a) (take-take (a + m) n x l) ∙ sym (take_drop a m x (omega arith))

-- the first j items of s pasted over d, and one item more; all of s pasted is `over`
pub put_turn :
    {A : Type 0} (d₀ d s : List A) (at j : ℕ) (x none : A) → at + length s ≤ length d₀ → j < length s → d ≡ paste d₀ at s j → x ≡ get_or s j none →
    set d (at + j) x ≡ paste d₀ at s (j + 1)
put_turn d₀ d s at j x none room more e there = rw (e, there, add-one j) (paste-suc d₀ at s j none (omega arith) more)

pub put_end : {A : Type 0} (d s : List A) (at : ℕ) → paste d at s (length s) ≡ over d at s
put_end d s at = rw (take-length s)

-- the first items of a part written there, and one item more
over_first : {A : Type 0} (d s : List A) (at j : ℕ) → j ≤ length s → over d at (take j s) ≡ paste d at s j
over_first d s at j h = ap (λ (n : ℕ). take at d ++ take j s ++ drop (at + n) d) (length-take-le j s h)

pub over_more :
    {A : Type 0} (d s : List A) (at j : ℕ) (x : A) → at + length s ≤ length d → j < length s → x ≡ get_or s j x →
    set (over d at (take j s)) (at + j) x ≡ over d at (take (j + 1) s)
over_more d s at j x room more there =
    put_turn d (over d at (take j s)) s at j x x room more (over_first d s at j (omega arith)) there ∙ sym (over_first d s at (j + 1) (omega arith))
