-- Document 01, "Decision record": what the bits of a number tell.
use Rattle.std.specs.Prelude.{ℕ, zero, suc, ◌/◌, ◌%◌, ◌⊎◌, List, [], ◌∷◌, ◌≡◌, Bool, true, eqb}
use Rattle.whole.specs.Exactly.{Exactly}

-- Whether bit k of a number is set, counted from 0
abbrev pub is_set : ℕ → ℕ → Bool
is_set zero n = eqb (n % 2) 1
is_set (suc k) n = is_set k (n / 2)

-- What bits of a number tell, from bit k on: each is set exactly when its fact holds.
abbrev pub BitsTell : ℕ → ℕ → List (Type 0) → Type 0
BitsTell n k [] = Unit {0}
BitsTell n k (A ∷ As) = Exactly (is_set k n ≡ true) A × BitsTell n (suc k) As

-- One of some facts holds.
abbrev pub AnyOf : List (Type 0) → Type 0
AnyOf [] = ⊥
AnyOf (A ∷ As) = A ⊎ AnyOf As

-- All of them hold.
abbrev pub AllOf : List (Type 0) → Type 0
AllOf [] = Unit {0}
AllOf (A ∷ As) = A × AllOf As
