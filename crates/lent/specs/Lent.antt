-- Document 01, "Decision record" and "Numbers given back": what is done to lent bytes. A part is written over, later bytes stay; and the
-- first place at which two lists differ.
use Rattle.std.specs.Prelude.{ℕ, suc, ◌+◌, ◌≡◌, List, [], ◌∷◌, ◌++◌, cond, length, take, drop, get_or, eqb, Option, Some, None}

-- d with s written over it from `at` on: "written at the front of the lent buffer; later bytes stay".
abbrev pub over : {A : Type 0} → List A → ℕ → List A → List A
over d at s = take at d ++ s ++ drop (at + length s) d

-- The first place at which two lists differ, counted from k.
unfoldable pub differ_from : ℕ → List ℕ → List ℕ → Option ℕ
differ_from k [] ys = None
differ_from k (x ∷ xs) [] = None
differ_from k (x ∷ xs) (y ∷ ys) = cond (eqb x y) (differ_from (suc k) xs ys) (Some k)

-- Refusal 8: the first differing offset of two records of one length.
unfoldable pub first_difference : List ℕ → List ℕ → Option ℕ
first_difference xs ys = differ_from 0 xs ys

-- What that means: the lists agree before k, and not there.
pub record FirstAt (xs ys : List ℕ) (k : ℕ) : Type 0 where
  pub before : take k xs ≡ take k ys
  pub there : get_or xs k 0 ≡ get_or ys k 0 → ⊥
