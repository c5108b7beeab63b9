-- What lent bytes are: a list is of bytes where each of its numbers is below 256, as all that C lends is.
use Rattle.std.specs.Prelude.{ℕ, ◌<◌, List, [], ◌∷◌}

-- All of a list are so.
abbrev pub Every : {A : Type 0} → (A → Type 0) → List A → Type 0
Every P [] = Unit {0}
Every P (x ∷ xs) = P x × Every P xs

abbrev pub Byte : ℕ → Type 0
Byte b = b < 256
