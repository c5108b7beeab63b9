-- What is printed for an input, step by step. After each step: what `rest` makes of the bytes that are left, printed right behind what was
-- printed, leaves what `text` makes of the whole input.
use Rattle.std.proofs.Common.{◌≡◌, ℕ, List, [], ◌++◌, Option, None, Some, IfSome, take, drop}
use Rattle.std.specs.Io.KnownBytes.{Appends}
use Rattle.std.proofs.KnownBytes.{Appends-nil, Appends-trans}
use Rattle.session.specs.Taken.{Takes}

pub record Whole (text : List ℕ → List ℕ) (known o : Option (List ℕ)) (rest : List ℕ → List ℕ) (left o₁ : Option (List ℕ)) : Type 0 where
  pub all : (o₂ : Option (List ℕ)) → IfSome left (λ ys. Appends o₁ o₂ (rest ys)) → IfSome known (λ xs. Appends o o₂ (text xs))

pub start : (text : List ℕ → List ℕ) (known o : Option (List ℕ)) → Whole text known o text known o
start text known o = record { all = λ o₂ more. more }

-- one step takes bytes and prints a part
step :
    (rest rest' : List ℕ → List ℕ) (left left' o₁ o₁' o₂ : Option (List ℕ)) (n : ℕ) (bytes part : List ℕ) → Takes left left' n bytes →
    Appends o₁ o₁' part → ((xs : List ℕ) → bytes ≡ take n xs → rest xs ≡ part ++ rest' (drop n xs)) →
    IfSome left' (λ ys. Appends o₁' o₂ (rest' ys)) → IfSome left (λ ys. Appends o₁ o₂ (rest ys))
step rest rest' None left' o₁ o₁' o₂ n bytes part t p split more = tt
step rest rest' (Some xs) None o₁ o₁' o₂ n bytes part t p split more = absurd t
step rest rest' (Some xs) (Some ys) o₁ o₁' o₂ n bytes part t p split more =
    rw (split xs t.0) (Appends-trans o₁ o₁' o₂ part _ p (rw t.1 at more))

none : (rest : List ℕ → List ℕ) (left o₁ : Option (List ℕ)) → ((ys : List ℕ) → rest ys ≡ []) → IfSome left (λ ys. Appends o₁ o₁ (rest ys))
none rest None o₁ e = tt
none rest (Some ys) o₁ e = rw (e ys) (Appends-nil o₁)

module _ {text rest : List ℕ → List ℕ} {known o left o₁ : Option (List ℕ)} (so : Whole text known o rest left o₁) where
  pub behind :
      (rest' : List ℕ → List ℕ) {left' o₁' : Option (List ℕ)} (n : ℕ) (bytes part : List ℕ) → Takes left left' n bytes →
      Appends o₁ o₁' part → ((xs : List ℕ) → bytes ≡ take n xs → rest xs ≡ part ++ rest' (drop n xs)) → Whole text known o rest' left' o₁'
  behind rest' {left'} {o₁'} n bytes part t p split =
      record { all = λ o₂ more. so.all o₂ (step rest rest' left left' o₁ o₁' o₂ n bytes part t p split more) }

  -- nothing more is printed
  pub ended : ((ys : List ℕ) → rest ys ≡ []) → IfSome known (λ xs. Appends o o₁ (text xs))
  ended e = so.all o₁ (none rest left o₁ e)
