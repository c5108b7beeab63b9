-- Windows up to the end of the input, on plain lists.
use Rattle.std.proofs.Common.{◌≡◌, refl, ℕ, suc, ◌+◌, ◌-◌, ◌^◌, ◌<◌, ◌≤◌, Bool, true, false, not, List, [], ◌++◌, Option, IfSome, arith, length, take, drop, eqb}
use Rattle.std.specs.Io.KnownBytes.{Appends}
use Rattle.gorsepetal.specs.Calls.{window_bytes}
use Rattle.session.specs.Session.{Windowed, line_of, lines_from, lines}
use Rattle.session.proofs.Behind.{Whole, behind, ended}

-- the lines from the window that is numbered n on
unfoldable pub from : (s : List ℕ) (n : ℕ) (xs : List ℕ) → List ℕ
from s n xs = lines_from (2 ^ 64 - 1 - n) s xs n

some_more : (b : Bool) → true ≡ not b → b ≡ false
some_more true e = e
some_more false e = refl

no_more : (b : Bool) → false ≡ not b → b ≡ true
no_more true e = refl
no_more false e = e

module _ (s : List ℕ) (n : ℕ) (h : n < 2 ^ 64 - 1) (w xs : List ℕ) (taken : w ≡ take (window_bytes s) xs) where
  next : 2 ^ 64 - 1 - n ≡ suc (2 ^ 64 - 1 - (n + 1))
  next = omega arith

  went_on : true ≡ not (eqb (length w) 0) → from s n xs ≡ line_of s w n ++ from s (n + 1) (drop (window_bytes s) xs)
  unfolding from lines_from
  went_on e = rw (next, ← taken, some_more (eqb (length w) 0) e)

  at_end : false ≡ not (eqb (length w) 0) → from s n xs ≡ []
  unfolding from lines_from
  at_end e = rw (next, ← taken, no_more (eqb (length w) 0) e)

-- Before the window that is numbered n, its line and those behind it make up all the lines.
module _ {known left o o₁ : Option (List ℕ)} {s : List ℕ} {n : ℕ} (so : Whole (from s 1) known o (from s n) left o₁) where
  -- one window
  pub turn :
      {left' o₁' : Option (List ℕ)} {more : Bool} → n < 2 ^ 64 - 1 → Windowed left left' s n o₁ o₁' more → more ≡ true →
      Whole (from s 1) known o (from s (n + 1)) left' o₁'
  turn h w e = let w = rw e at w in behind so (from s (n + 1)) _ w.w _ w.taken w.line (λ xs t. went_on s n h w.w xs t w.went_on)

  -- the input has ended
  pub at_last :
      {left' o₁' : Option (List ℕ)} {more : Bool} → n < 2 ^ 64 - 1 → Windowed left left' s n o₁ o₁' more → more ≡ false →
      IfSome known (λ xs. Appends o o₁' (lines s xs))
  unfolding from lines
  at_last h w e =
      let w = rw e at w in
      ended (behind so (λ ys. []) _ w.w [] w.taken w.line (λ xs t. at_end s n h w.w xs t w.went_on)) (λ ys. refl)

-- the largest number is given to no window
pub no_number :
    {known left o o₁ : Option (List ℕ)} (s : List ℕ) {n : ℕ} → Whole (from s 1) known o (from s n) left o₁ → 2 ^ 64 - 1 ≤ n →
    IfSome known (λ xs. Appends o o₁ (lines s xs))
unfolding from lines lines_from
no_number s {n} so h = let none : 2 ^ 64 - 1 - n ≡ 0 = omega arith in ended so (λ ys. rw none)
