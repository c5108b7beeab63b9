-- A table proved row by row: the proof of a row, and of the rows after it.
infixr 5 ◌&◌
pub ◌&◌ : {A B : Type 0} → A → B → A × B
a & b = (a, b)
