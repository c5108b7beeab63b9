-- Document 01, "Numbers given back", and document 02, CR 1: the table, row by row. Each number comes in its row's condition, once the checks
-- before it have passed, "and none is given in any other condition".
use Rattle.std.specs.Prelude.{ℕ, ◌*◌, ◌+◌, ◌≤◌, ◌<◌, ◌≡◌, List, length}
use Rattle.whole.specs.Exactly.{Exactly}
use Rattle.lent.specs.Lent.{FirstAt}
use Rattle.samples.specs.Window.{frames, numbers_of}
use Rattle.samples.specs.Order.{Missing, NoneMissing}
use Rattle.settings.specs.Table.{settings_table}
use Rattle.settings.specs.Check.{FirstFault}
use Rattle.entry.specs.Pair.{record_length}
use Rattle.decision.specs.Decision.{decision_length}
use Rattle.claims.specs.One.{Claim}
use Rattle.feed.specs.Feed.{numbers_of_frame}
use Rattle.gorsepetal.specs.State.{state_length, settings_of, window_of}
use Rattle.gorsepetal.specs.Calls.{GoodRecord, length_in_force, newest_of, Proposed, Confirmed, ReadBack, Decided, Fed}

-- A frame is kept: the relay has a good record in force, the frame has its 3+3N numbers, and there is room for a decision.
pub record Keepable (s f out : List ℕ) : Type 0 where
  pub relay : length s ≡ state_length
  pub good : GoodRecord (settings_of s).force
  pub whole : length f ≡ 2 * numbers_of_frame (settings_of s).force
  pub room : decision_length ≤ length out

-- "Propose: 5, 6."
pub data ProposeRow (s e : List ℕ) : ℕ → Type 0 where
  no_relay : (length s ≡ state_length → ⊥) → ProposeRow s e 17
  entry_length : length s ≡ state_length → (length e ≡ record_length → ⊥) → ProposeRow s e 5
  out_of_range : length s ≡ state_length → length e ≡ record_length → (k : ℕ) → FirstFault settings_table e k → ProposeRow s e (256 * k + 6)
  done : length s ≡ state_length → length e ≡ record_length → GoodRecord e → ProposeRow s e 0

-- "Confirm: 5, 7, 8." "A stored record that propose would refuse counts as absent."
pub data ConfirmRow (s e : List ℕ) : ℕ → Type 0 where
  no_relay : (length s ≡ state_length → ⊥) → ConfirmRow s e 17
  entry_length : length s ≡ state_length → (length e ≡ record_length → ⊥) → ConfirmRow s e 5
  nothing_pending : length s ≡ state_length → length e ≡ record_length → (GoodRecord (settings_of s).pending → ⊥) → ConfirmRow s e 7
  differs :
      length s ≡ state_length → length e ≡ record_length → GoodRecord (settings_of s).pending
      → (k : ℕ) → FirstAt (settings_of s).pending e k → ConfirmRow s e (256 * k + 8)
  done : length s ≡ state_length → length e ≡ record_length → GoodRecord (settings_of s).pending → (settings_of s).pending ≡ e → ConfirmRow s e 0

-- "Read-back: 1, 3."
pub data ReadBackRow (s out : List ℕ) : ℕ → Type 0 where
  no_relay : (length s ≡ state_length → ⊥) → ReadBackRow s out 17
  no_settings : length s ≡ state_length → (GoodRecord (settings_of s).force → ⊥) → ReadBackRow s out 1
  no_room : length s ≡ state_length → GoodRecord (settings_of s).force → length out < record_length → ReadBackRow s out 3
  done : length s ≡ state_length → GoodRecord (settings_of s).force → record_length ≤ length out → ReadBackRow s out 0

-- "Decide checks 1, 2, 3, 4." An odd count of bytes is twice no number. The place of 4 is the first missing number's index.
pub data DecideRow (s b out : List ℕ) : ℕ → Type 0 where
  no_relay : (length s ≡ state_length → ⊥) → DecideRow s b out 17
  no_settings : length s ≡ state_length → (GoodRecord (settings_of s).force → ⊥) → DecideRow s b out 1
  window_length : length s ≡ state_length → GoodRecord (settings_of s).force → (length b ≡ 2 * length_in_force s → ⊥) → DecideRow s b out 2
  no_room :
      length s ≡ state_length → GoodRecord (settings_of s).force → length b ≡ 2 * length_in_force s → length out < decision_length → DecideRow s b out 3
  missing_sample :
      length s ≡ state_length → GoodRecord (settings_of s).force → length b ≡ 2 * length_in_force s → decision_length ≤ length out
      → (k : ℕ) → k < length_in_force s → Missing (numbers_of b) k → NoneMissing (numbers_of b) k → DecideRow s b out (256 * k + 4)
  done :
      length s ≡ state_length → GoodRecord (settings_of s).force → length b ≡ 2 * length_in_force s → decision_length ≤ length out
      → NoneMissing (numbers_of b) (length_in_force s) → DecideRow s b out 0

-- Document 02, CR 1: "Order 1, 9, 3, 10, 4." Refusal 10: fewer than 16 frames, this one counted. The place of 4 is the index in the newest 16
-- frames, the oldest first.
pub data FeedRow (s f out : List ℕ) : ℕ → Type 0 where
  no_relay : (length s ≡ state_length → ⊥) → FeedRow s f out 17
  no_settings : length s ≡ state_length → (GoodRecord (settings_of s).force → ⊥) → FeedRow s f out 1
  frame_length : length s ≡ state_length → GoodRecord (settings_of s).force → (length f ≡ 2 * numbers_of_frame (settings_of s).force → ⊥) → FeedRow s f out 9
  no_room :
      length s ≡ state_length → GoodRecord (settings_of s).force → length f ≡ 2 * numbers_of_frame (settings_of s).force → length out < decision_length
      → FeedRow s f out 3
  too_few : Keepable s f out → (window_of s).count + 1 < frames → FeedRow s f out 10
  missing_sample :
      Keepable s f out → frames ≤ (window_of s).count + 1
      → (k : ℕ) → k < length_in_force s → Missing (newest_of s f) k → NoneMissing (newest_of s f) k → FeedRow s f out (256 * k + 4)
  done : Keepable s f out → frames ≤ (window_of s).count + 1 → NoneMissing (newest_of s f) (length_in_force s) → FeedRow s f out 0

-- A call gives back a number exactly where that number's row holds.
abbrev pub RowByRow : Claim → (List ℕ → List ℕ → ℕ → Type 0) → Type 0
RowByRow claim Row = (x y : List ℕ) (n : ℕ) (after : List ℕ) → claim x y n after → (m : ℕ) → Exactly (n ≡ m) (Row x y m)

abbrev pub ProposeAnswers : Type 0
ProposeAnswers = RowByRow Proposed ProposeRow

abbrev pub ConfirmAnswers : Type 0
ConfirmAnswers = RowByRow Confirmed ConfirmRow

abbrev pub ReadBackAnswers : Type 0
ReadBackAnswers = RowByRow ReadBack ReadBackRow

abbrev pub DecideAnswers : Type 0
DecideAnswers = (s : List ℕ) → RowByRow (Decided s) (DecideRow s)

abbrev pub FeedAnswers : Type 0
FeedAnswers =
    (s f out : List ℕ) (n : ℕ) (s₁ out₁ : List ℕ) → Fed s f out n s₁ out₁ → (m : ℕ) → Exactly (n ≡ m) (FeedRow s f out m)
