-- Document 01, "What a reader may rely on": a claim leaves one possible result for each input, bad ones too.
use Rattle.std.specs.Prelude.{ℕ, ◌≡◌, List, ℤ}
use Rattle.answers.specs.Answers.{Answer, number, place, given_back, number_in, place_in}
use Rattle.gorsepetal.specs.Calls.{Proposed, Confirmed, ReadBack, Decided, DecidedNumbers, Fed}

-- A claim is about two lent slices, the number given back, and what the slice that may change holds after the call.
abbrev pub Claim : Type 1
Claim = List ℕ → List ℕ → ℕ → List ℕ → Type 0

abbrev pub OneResult : Claim → Type 0
OneResult claim = (x y : List ℕ) (n n' : ℕ) (after after' : List ℕ) → claim x y n after → claim x y n' after' → (n ≡ n') × (after ≡ after')

abbrev pub OneProposed : Type 0
OneProposed = OneResult Proposed

abbrev pub OneConfirmed : Type 0
OneConfirmed = OneResult Confirmed

abbrev pub OneReadBack : Type 0
OneReadBack = OneResult ReadBack

-- Decide is lent a third slice, the relay's state, which it does not change.
abbrev pub OneDecided : Type 0
OneDecided = (s : List ℕ) → OneResult (Decided s)

-- Feed is lent three, and changes the relay's state and the buffer.
abbrev pub OneFed : Type 0
OneFed =
    (s f out : List ℕ) (n n' : ℕ) (s₁ s₁' out₁ out₁' : List ℕ) → Fed s f out n s₁ out₁ → Fed s f out n' s₁' out₁'
    → (n ≡ n') × (s₁ ≡ s₁') × (out₁ ≡ out₁')

-- Inside, decide is lent numbers, and gives the answer itself.
abbrev pub OneDecidedNumbers : Type 0
OneDecidedNumbers =
    (s : List ℕ) (w : List ℤ) (out : List ℕ) (a a' : Answer) (after after' : List ℕ)
    → DecidedNumbers s w out a after → DecidedNumbers s w out a' after' → (a ≡ a') × (after ≡ after')

-- And the one number that C gets tells the answer's number and its place.
abbrev pub NumberAndPlace : Type 0
NumberAndPlace = (a : Answer) → (number_in (given_back a) ≡ number a) × (place_in (given_back a) ≡ place a)
