-- How a line is printed from words and numbers.
use Rattle.std.specs.Prelude.{ℕ, zero, suc, ◌+◌, ◌/◌, ◌%◌, cond, List, [], ◌∷◌, ◌++◌, eqb, ltb}

-- One decimal digit.
abbrev pub digit : ℕ → List ℕ
digit d = (48 + d) ∷ []

-- The digits of n, where at most f stand behind the first.
unfoldable pub decimal_from : ℕ → ℕ → List ℕ
decimal_from zero n = digit n
decimal_from (suc f) n = cond (ltb n 10) (digit n) (decimal_from f (n / 10) ++ digit (n % 10))

-- A number in decimal: behind the first digit there are at most n.
unfoldable pub decimal : ℕ → List ℕ
decimal n = decimal_from n n

-- The mark, #, where a number goes.
abbrev pub mark : ℕ
mark = 35

-- What is printed: the words as they stand, and the next number in decimal for each mark. (A mark with no number left stays.)
unfoldable pub printed : List ℕ → List ℕ → List ℕ
printed [] ns = []
printed (c ∷ cs) [] = c ∷ printed cs []
printed (c ∷ cs) (n ∷ ns) = cond (eqb c mark) (decimal n ++ printed cs ns) (c ∷ printed cs (n ∷ ns))
