-- "Exactly when", as document 01 uses it.

-- the one holds exactly when the other does
abbrev pub Exactly : Type 0 → Type 0 → Type 0
Exactly A B = (A → B) × (B → A)
