-- What reading does to the bytes that a reader has left, where those are known; and a call that is lent what was read.
use Rattle.std.specs.Prelude.{ℕ, ◌≡◌, List, take, drop, ⊤, Option, None, Some}
use Rattle.std.specs.Borrow.{Bor, MutBor}
use Rattle.std.specs.Fn.{Once}

-- The first `most` known bytes, or all where there are fewer, are bs, and are gone.
abbrev pub Takes : Option (List ℕ) → Option (List ℕ) → ℕ → List ℕ → Type 0
Takes None after most bs = ⊤
Takes (Some xs) None most bs = ⊥
Takes (Some xs) (Some ys) most bs = (bs ≡ take most xs) × (ys ≡ drop most xs)

-- A call of f, which is lent the state s to be written and the entry e to be read, gives r back and leaves s'.
module _ {F : Type 0} (g : Once F (MutBor (List ℕ) × (Bor (List ℕ) × Unit {0})) (ℕ × (MutBor (List ℕ) × Unit {0}))) where
  pub record Gives (f : F) (s e : List ℕ) (r : ℕ) (s' : List ℕ) : Type 0 where
    pub shown : MutBor (List ℕ)
    pub lent : Bor (List ℕ)
    pub shows : (shown.now ≡ s) × (lent.now ≡ e)
    pub left : MutBor (List ℕ)
    pub met : g.post f (shown, (lent, tt)) (r, (left, tt))
    pub leaves : left.now ≡ s'
