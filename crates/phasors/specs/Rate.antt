-- Document 01, "Window and phasors": how a cycle is measured, as data. Everything above is defined and proved over any such rule.
use Rattle.std.specs.Prelude.{List, [], ◌∷◌, ℕ, ◌+◌, ◌%◌, ℤ, pos, neg_ℤ, length, get_or}

-- The cosines at scale 16384, as many as a cycle has samples; how many places on the same table is read for the sine; and by what the sums
-- are rounded.
pub record Rate : Type 0 where
  pub cosines : List ℤ
  pub shift : ℕ
  pub divisor : ℕ

-- C[n]
abbrev pub cosine : List ℤ → ℕ → ℤ
cosine coefficients n = get_or coefficients n (pos 0)

-- S[n], the same table read some places on, around its end
abbrev pub sine : List ℤ → ℕ → ℕ → ℤ
sine coefficients shift n = get_or coefficients ((n + shift) % length coefficients) (pos 0)

-- "Cosines C[0..15]"
abbrev pub cosines : List ℤ
cosines =
    pos 16384 ∷ pos 15137 ∷ pos 11585 ∷ pos 6270 ∷ pos 0 ∷ neg_ℤ (pos 6270) ∷ neg_ℤ (pos 11585) ∷ neg_ℤ (pos 15137)
    ∷ neg_ℤ (pos 16384) ∷ neg_ℤ (pos 15137) ∷ neg_ℤ (pos 11585) ∷ neg_ℤ (pos 6270) ∷ pos 0 ∷ pos 6270 ∷ pos 11585 ∷ pos 15137 ∷ []

-- Sixteen samples a cycle: "S[n] = C[(n+12) mod 16]", and 131072
abbrev pub sixteen : Rate
sixteen = record { cosines = cosines; shift = 12; divisor = 131072 }
