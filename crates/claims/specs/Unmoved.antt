-- What document 02's CR 1 and CR 5 do not move: a frame leaves the records, and so does a piece of an event file; the older calls leave the window,
-- and they answer as before it was there.
use Rattle.std.specs.Prelude.{ℕ, ◌≡◌, List, length, take, drop, replicate}
use Rattle.stream.specs.Stored.{stored_length}
use Rattle.gorsepetal.specs.State.{state_length, window_offset, settings_of}
use Rattle.gorsepetal.specs.Calls.{Proposed, Confirmed, ReadBack, Decided, Fed}
use Rattle.gorsepetal.specs.EventFiles.{EventsRead}

-- The two parts of a relay's state: the pair of records, and the window.
abbrev pub pair_part : List ℕ → List ℕ
pair_part s = take window_offset s

abbrev pub window_part : List ℕ → List ℕ
window_part s = drop window_offset s

-- A frame leaves the records: demand 1's `other`.
abbrev pub FeedLeavesSettings : Type 0
FeedLeavesSettings =
    (s f out : List ℕ) (n : ℕ) (s₁ out₁ : List ℕ) → length s ≡ state_length → Fed s f out n s₁ out₁
    → (length s₁ ≡ state_length) × (settings_of s₁ ≡ settings_of s) × (pair_part s₁ ≡ pair_part s)

-- And so does a piece of an event file (document 02, CR 5), whatever it comes to.
abbrev pub ReadLeavesSettings : Type 0
ReadLeavesSettings =
    (s r p out : List ℕ) (n : ℕ) (s₁ r₁ out₁ : List ℕ) → length s ≡ state_length → EventsRead s r p out n s₁ r₁ out₁
    → (length s₁ ≡ state_length) × (settings_of s₁ ≡ settings_of s) × (pair_part s₁ ≡ pair_part s)

-- An entry leaves the window, but a confirmation answered 0 empties it: no frame, and all zero bytes.
abbrev pub EntriesLeaveWindow : Type 0
EntriesLeaveWindow =
    (s e : List ℕ) (n : ℕ) (s₁ : List ℕ) → length s ≡ state_length
    → (Proposed s e n s₁ → window_part s₁ ≡ window_part s) × (Confirmed s e n s₁ → (n ≡ 0 → ⊥) → window_part s₁ ≡ window_part s)
    × (Confirmed s e 0 s₁ → window_part s₁ ≡ replicate stored_length 0)

-- What the calls of document 01 answer, write and make of the pair goes by the pair alone, whatever the window holds.
abbrev pub WindowDoesNotMatter : Type 0
WindowDoesNotMatter =
    (s t x out : List ℕ) (n n' : ℕ) (after after' : List ℕ) → length s ≡ state_length → length t ≡ state_length → settings_of s ≡ settings_of t
    → (Proposed s x n after → Proposed t x n' after' → (n ≡ n') × (settings_of after ≡ settings_of after'))
    × (Confirmed s x n after → Confirmed t x n' after' → (n ≡ n') × (settings_of after ≡ settings_of after'))
    × (ReadBack s out n after → ReadBack t out n' after' → (n ≡ n') × (after ≡ after'))
    × (Decided s x out n after → Decided t x out n' after' → (n ≡ n') × (after ≡ after'))
