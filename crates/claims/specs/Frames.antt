-- Document 02, CR 1: what one frame that is fed is answered and leaves, in every state.
use Rattle.std.specs.Prelude.{ℕ, ◌+◌, ◌*◌, ◌≤◌, ◌<◌, ◌≡◌, List, [], ◌∷◌, Bool, true, ◌||◌, eqb, length}
use Rattle.whole.specs.Exactly.{Exactly}
use Rattle.answers.specs.Answers.{number_in}
use Rattle.samples.specs.Window.{frames, numbers_of}
use Rattle.samples.specs.Order.{FirstInOrder}
use Rattle.feed.specs.Feed.{numbers_of_frame}
use Rattle.gorsepetal.specs.State.{settings_of, window_of}
use Rattle.gorsepetal.specs.Calls.{length_in_force, newest_of, Decided, Fed}
use Rattle.gorsepetal.specs.EventFiles.{handed, EventsRead}
use Rattle.claims.specs.GivenBack.{Keepable}

-- A frame was kept: it was answered 0, 4 or 10.
abbrev pub is_kept : ℕ → Bool
is_kept n = eqb (number_in n) 0 || (eqb (number_in n) 4 || eqb (number_in n) 10)

abbrev pub IsKept : ℕ → Type 0
IsKept n = is_kept n ≡ true

-- That is so exactly where a good record is in force, the frame has its length, and there is room.
abbrev pub KeptExactly : Type 0
KeptExactly = (s f out : List ℕ) (n : ℕ) (s₁ out₁ : List ℕ) → Fed s f out n s₁ out₁ → Exactly (IsKept n) (Keepable s f out)

-- "The first three keep nothing": no byte of the state changes.
abbrev pub ElseNothingKept : Type 0
ElseNothingKept = (s f out : List ℕ) (n : ℕ) (s₁ out₁ : List ℕ) → Fed s f out n s₁ out₁ → (IsKept n → ⊥) → s₁ ≡ s

-- A frame that is not answered 0 writes nothing.
abbrev pub RefusedFeed : Type 0
RefusedFeed = (s f out : List ℕ) (n : ℕ) (s₁ out₁ : List ℕ) → Fed s f out n s₁ out₁ → (n ≡ 0 → ⊥) → out₁ ≡ out

-- "For each accepted frame the answer, number, place and 32 bytes are those that document 01's call gives for these 16 frames", here b.
abbrev pub FedAsDecided : Type 0
FedAsDecided =
    (s f out : List ℕ) (n : ℕ) (s₁ out₁ : List ℕ) → Fed s f out n s₁ out₁ → IsKept n → frames ≤ (window_of s).count + 1
    → (b : List ℕ) → numbers_of b ≡ newest_of s f → length b ≡ 2 * length_in_force s → Decided s b out n out₁

-- Refusal 4 names the first missing number of the 16 frames, in frame order, then channel order.
abbrev pub MissingInFrames : Type 0
MissingInFrames =
    (s f out : List ℕ) (g c : ℕ) (s₁ out₁ : List ℕ) → let m = numbers_of_frame (settings_of s).force in
    c < m → Fed s f out (256 * (g * m + c) + 4) s₁ out₁ → FirstInOrder m (newest_of s f) g c

-- Document 02, CR 5, "The reader feeds CR 1": a piece of an event file that makes a record whole is a frame fed by hand, with the same number, place,
-- state and buffer;
abbrev pub ReadIsFed : Type 0
ReadIsFed =
    (s r p out f : List ℕ) (n : ℕ) (s₁ r₁ out₁ : List ℕ) → EventsRead s r p out n s₁ r₁ out₁ → handed s r p ≡ f ∷ [] → Fed s f out n s₁ out₁

-- and any other piece leaves the relay and the buffer.
abbrev pub ElseUnfed : Type 0
ElseUnfed =
    (s r p out : List ℕ) (n : ℕ) (s₁ r₁ out₁ : List ℕ) → EventsRead s r p out n s₁ r₁ out₁ → handed s r p ≡ [] → (s₁ ≡ s) × (out₁ ≡ out)
