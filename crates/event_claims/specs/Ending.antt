-- Document 02, CR 5: what ends a reading and what does not, what 0 means, and what a refusal leaves.
use Rattle.std.specs.Prelude.{ℕ, ◌+◌, ◌*◌, ◌≤◌, ◌<◌, ◌≡◌, ◌⊎◌, List, [], ◌∷◌, length}
use Rattle.answers.specs.Answers.{given_back}
use Rattle.files.specs.Reader.{Ending, BadFile, OtherNumber, InsideRecord, answer_of, Ended}
use Rattle.events.specs.Slice.{reader_length, reader_of, wanted_in}
use Rattle.gorsepetal.specs.State.{state_length}
use Rattle.gorsepetal.specs.EventFiles.{handed, EventsOpened, EventsRead, EventsEnded}

-- "Refusals 11 to 13 end the reading": the reader remembers each, with its place.
abbrev pub RefusalsEnd : Type 0
RefusalsEnd =
    (s r p out : List ℕ) (ends status i : ℕ) (s₁ r₁ out₁ : List ℕ)
    → (EventsOpened r ends status 13 r₁ → reader_of r₁ ≡ Ended BadFile) × (EventsRead s r p out (256 * i + 12) s₁ r₁ out₁ → reader_of r₁ ≡ Ended (OtherNumber i))
    × (EventsEnded r (256 * i + 11) r₁ → reader_of r₁ ≡ Ended (InsideRecord i))

-- "(further bytes get the same refusal)": of a reading that has ended nothing changes any more, and read and end give its refusal.
abbrev pub SameRefusal : Type 0
SameRefusal =
    (s r p out : List ℕ) (e : Ending) (n : ℕ) (s₁ r₁ out₁ : List ℕ) → length s ≡ state_length → length r ≡ reader_length → reader_of r ≡ Ended e
    → (EventsRead s r p out n s₁ r₁ out₁ → (n ≡ given_back (answer_of e)) × (s₁ ≡ s) × (r₁ ≡ r) × (out₁ ≡ out))
    × (EventsEnded r n r₁ → (n ≡ given_back (answer_of e)) × (r₁ ≡ r))

-- "CR 1's do not": whatever feed answers to a record's frame, the next record is wanted.
abbrev pub FeedDoesNotEnd : Type 0
FeedDoesNotEnd =
    (s r p out f : List ℕ) (n : ℕ) (s₁ r₁ out₁ : List ℕ) → EventsRead s r p out n s₁ r₁ out₁ → handed s r p ≡ f ∷ [] → 0 < wanted_in r₁

-- Who lends fewer bytes than wanted knows that 0 means "taken", and who lends as many knows that 0 means "decided".
abbrev pub ZeroMeans : Type 0
ZeroMeans =
    (s r p out s₁ r₁ out₁ : List ℕ) → EventsRead s r p out 0 s₁ r₁ out₁
    → (length p < wanted_in r → handed s r p ≡ []) × (wanted_in r ≤ length p → (f : List ℕ) × (handed s r p ≡ f ∷ []))

-- A piece that is not answered 0 writes nothing to the buffer.
abbrev pub RefusedRead : Type 0
RefusedRead = (s r p out : List ℕ) (n : ℕ) (s₁ r₁ out₁ : List ℕ) → EventsRead s r p out n s₁ r₁ out₁ → (n ≡ 0 → ⊥) → out₁ ≡ out

-- A state or a reader of another length is answered 17, before all others, and nothing changes.
abbrev pub NoReaderNoChange : Type 0
NoReaderNoChange =
    (s r p out : List ℕ) (ends status n : ℕ) (s₁ r₁ out₁ : List ℕ)
    → ((length s ≡ state_length → ⊥) ⊎ (length r ≡ reader_length → ⊥) → EventsRead s r p out n s₁ r₁ out₁ → (n ≡ 17) × (s₁ ≡ s) × (r₁ ≡ r) × (out₁ ≡ out))
    × ((length r ≡ reader_length → ⊥) → EventsOpened r ends status n r₁ → (n ≡ 17) × (r₁ ≡ r))
    × ((length r ≡ reader_length → ⊥) → EventsEnded r n r₁ → (n ≡ 17) × (r₁ ≡ r))
    × ((length r ≡ reader_length → ⊥) → wanted_in r ≡ 0)
