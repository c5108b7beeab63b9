-- Document 01, "Settings record" and "Numbers given back": what the desk may rely on, call by call. A relay is a state of `state_length`
-- bytes.
use Rattle.std.specs.Prelude.{ℕ, ◌+◌, ◌*◌, ◌≤◌, ◌<◌, ◌≡◌, List, length, take, drop}
use Rattle.whole.specs.Exactly.{Exactly}
use Rattle.lent.specs.Lent.{FirstAt}
use Rattle.samples.specs.Window.{channels, numbers_of}
use Rattle.samples.specs.Order.{FirstInOrder}
use Rattle.settings.specs.Fields.{Ranges, ends}
use Rattle.entry.specs.Pair.{record_length, nothing}
use Rattle.gorsepetal.specs.State.{state_length, fresh_state, settings_of}
use Rattle.claims.specs.One.{Claim}
use Rattle.gorsepetal.specs.Calls.{GoodRecord, Proposed, Confirmed, ReadBack, Decided, Fed}

-- A record is good exactly if it has every field in its range and its spare bytes zero. (Propose accepts exactly the good records of 32
-- bytes: `ProposeAnswers`.)
abbrev pub GoodExactly : Type 0
GoodExactly = (r : List ℕ) → Exactly (GoodRecord r) (Ranges r)

-- "A fresh relay has nothing in force and nothing pending."
abbrev pub FreshHasNothing : Type 0
FreshHasNothing =
    (b out e : List ℕ) (n : ℕ) (after : List ℕ)
    → (Decided fresh_state b out n after → n ≡ 1) × (ReadBack fresh_state out n after → n ≡ 1) × ((s₁ : List ℕ) → Fed fresh_state b out n s₁ after → n ≡ 1)
    × (Confirmed fresh_state e n after → length e ≡ record_length → n ≡ 7)

-- A proposal answered 0 makes the entry pending and leaves the record in force: the line stays protected until the confirmation.
abbrev pub AcceptedProposal : Claim → Type 0
AcceptedProposal claim =
    (s e s₁ : List ℕ) → claim s e 0 s₁ → ((settings_of s₁).force ≡ (settings_of s).force) × ((settings_of s₁).pending ≡ e)

-- A confirmation answered 0 is of the pending record, puts it in force and leaves nothing pending.
abbrev pub AcceptedConfirmation : Type 0
AcceptedConfirmation =
    (s e s₁ : List ℕ) → Confirmed s e 0 s₁
    → ((settings_of s).pending ≡ e) × GoodRecord e × ((settings_of s₁).force ≡ e) × ((settings_of s₁).pending ≡ nothing)

-- A good record, proposed and then confirmed with the same bytes, is answered 0 twice and is in force.
abbrev pub GoodComesIntoForce : Type 0
GoodComesIntoForce =
    (s e : List ℕ) (n m : ℕ) (s₁ s₂ : List ℕ) → length s ≡ state_length → length e ≡ record_length → GoodRecord e → Proposed s e n s₁ → Confirmed s₁ e m s₂
    → (n ≡ 0) × (m ≡ 0) × ((settings_of s₂).force ≡ e) × ((settings_of s₂).pending ≡ nothing)

-- In every state, a read-back answered 0 writes the record in force at the front, whatever is pending, and leaves the later bytes.
abbrev pub ReadsWhatIsInForce : Claim → Type 0
ReadsWhatIsInForce claim =
    (s out after : List ℕ) → claim s out 0 after
    → (take record_length after ≡ (settings_of s).force) × (drop record_length after ≡ drop record_length out)

-- So a record whose confirmation was answered 0, read back, is the same 32 bytes, and there is no other refusal than for the room.
abbrev pub ConfirmedReadsBack : Type 0
ConfirmedReadsBack =
    (s e s₁ out : List ℕ) (n : ℕ) (after : List ℕ) → Confirmed s e 0 s₁ → ReadBack s₁ out n after → record_length ≤ length out
    → (n ≡ 0) × (take record_length after ≡ e) × (drop record_length after ≡ drop record_length out)

-- A refused entry drops the pending record, and never the one in force.
abbrev pub RefusedEntry : Claim → Type 0
RefusedEntry claim =
    (s e : List ℕ) (n : ℕ) (s₁ : List ℕ) → length s ≡ state_length → claim s e n s₁ → (n ≡ 0 → ⊥)
    → ((settings_of s₁).force ≡ (settings_of s).force) × ((settings_of s₁).pending ≡ nothing)

-- After a confirmation, refused or not, a further one of 32 bytes is answered 7: no third entry slips in after a mismatch.
abbrev pub NoThirdEntry : Type 0
NoThirdEntry =
    (s e e' : List ℕ) (n n' : ℕ) (s₁ s₂ : List ℕ) → length s ≡ state_length → length e' ≡ record_length → Confirmed s e n s₁ → Confirmed s₁ e' n' s₂
    → n' ≡ 7

-- Refusal 8 is at the first differing offset: the entry and the pending record agree before it, and not there.
abbrev pub DiffersAtFirst : Type 0
DiffersAtFirst =
    (s e : List ℕ) (k : ℕ) (s₁ : List ℕ) → Confirmed s e (256 * k + 8) s₁ → FirstAt (settings_of s).pending e k

-- Refusal 4 "names the first missing number in frame order, then channel order": channel c of frame f, where a frame has m channels.
abbrev pub MissingInOrder : Type 0
MissingInOrder =
    (s b out : List ℕ) (f c : ℕ) (after : List ℕ) → let m = channels (ends (settings_of s).force) in
    c < m → Decided s b out (256 * (f * m + c) + 4) after → FirstInOrder m (numbers_of b) f c

-- A refused read-back writes nothing, and neither does a refused decide.
abbrev pub RefusedReadBack : Type 0
RefusedReadBack = (s out : List ℕ) (n : ℕ) (after : List ℕ) → ReadBack s out n after → (n ≡ 0 → ⊥) → after ≡ out

abbrev pub RefusedDecide : Type 0
RefusedDecide = (s b out : List ℕ) (n : ℕ) (after : List ℕ) → Decided s b out n after → (n ≡ 0 → ⊥) → after ≡ out

-- A state slice of another length is answered 17, before all others, and nothing changes.
abbrev pub NoRelayNoChange : Type 0
NoRelayNoChange =
    (s e out : List ℕ) (n : ℕ) (after : List ℕ) → (length s ≡ state_length → ⊥)
    → (Proposed s e n after → (n ≡ 17) × (after ≡ s)) × (Confirmed s e n after → (n ≡ 17) × (after ≡ s))
    × (ReadBack s out n after → (n ≡ 17) × (after ≡ out)) × (Decided s e out n after → (n ≡ 17) × (after ≡ out))
    × ((s₁ : List ℕ) → Fed s e out n s₁ after → (n ≡ 17) × (s₁ ≡ s) × (after ≡ out))
