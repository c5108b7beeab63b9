-- "Which rule had answered?" Demands 1 and 2 joined: a decision was made by a record that somebody had said twice; and what is read back is
-- such a record.
use Rattle.std.specs.Prelude.{ℕ, ◌*◌, ◌≤◌, ◌≡◌, List, [], ◌∷◌, ◌++◌, length, take, drop}
use Rattle.samples.specs.Window.{frames, channels, window_length, numbers_of}
use Rattle.samples.specs.Order.{NoneMissing}
use Rattle.lent.specs.Bytes.{Every, Byte}
use Rattle.settings.specs.Fields.{ends}
use Rattle.entry.specs.Pair.{record_length}
use Rattle.entry.specs.Log.{Log, SaidTwice}
use Rattle.decision.specs.Decision.{decision_length, decision}
use Rattle.gorsepetal.specs.Calls.{ReadBack, Decided, Fed}
use Rattle.gorsepetal.specs.EventFiles.{handed, EventsRead}
use Rattle.claims.specs.Demand1.{Call, fresh_relay, after_calls, History}
use Rattle.claims.specs.Feeding.{frames_after, one_after_another, AllBytes}

-- The buffer after the call holds the decision of documents 01 and 02, on the window's bytes b, for a record that by the log l was proposed
-- and in the next entry confirmed with the same 32 bytes, both answered 0, with no later confirmation answered 0; and its later bytes
-- stayed.
pub record ByARecordSaidTwice (l : Log) (b out after : List ℕ) : Type 0 where
  pub rule : List ℕ
  pub said_twice : SaidTwice rule l
  pub decided : take decision_length after ≡ decision rule (numbers_of b)
  pub kept : drop decision_length after ≡ drop decision_length out

-- In every list of calls to one relay, fresh at the start, each decide answered 0 did so. cs are the calls before it; what comes after it does
-- not matter.
abbrev pub WhichRule : Type 0
WhichRule =
    (cs : List Call) (b out after : List ℕ) → Decided (after_calls fresh_relay cs).state b out 0 after
    → ByARecordSaidTwice (after_calls fresh_relay cs).log b out after

-- The same by the calls' claims alone.
abbrev pub WhichRuleOverHistories : Type 0
WhichRuleOverHistories =
    (l : Log) (s b out after : List ℕ) → History l s → Decided s b out 0 after → ByARecordSaidTwice l b out after

-- And each feed answered 0 did so, on the newest 16 of the frames kept, one after another.
abbrev pub WhichRuleByFeeding : Type 0
WhichRuleByFeeding =
    (cs : List Call) (f out s₁ after : List ℕ) → AllBytes cs → Every Byte f → Fed (after_calls fresh_relay cs).state f out 0 s₁ after
    → ByARecordSaidTwice (after_calls fresh_relay cs).log (one_after_another (frames_after fresh_relay [] cs ++ (f ∷ []))) out after

-- And each piece of an event file answered 0 that made a record whole.
abbrev pub WhichRuleByEvents : Type 0
WhichRuleByEvents =
    (cs : List Call) (r p out f s₁ r₁ after : List ℕ) → AllBytes cs → Every Byte r → Every Byte p → EventsRead (after_calls fresh_relay cs).state r p out 0 s₁ r₁ after
    → handed (after_calls fresh_relay cs).state r p ≡ f ∷ []
    → ByARecordSaidTwice (after_calls fresh_relay cs).log (one_after_another (frames_after fresh_relay [] cs ++ (f ∷ []))) out after

-- The buffer after a read-back holds a record that by the log l was said twice, and its later bytes stayed.
pub record HoldsARecordSaidTwice (l : Log) (out after : List ℕ) : Type 0 where
  pub said_twice : SaidTwice (take record_length after) l
  pub kept : drop record_length after ≡ drop record_length out

-- In every list of calls to one relay, fresh at the start, each read-back answered 0 wrote such a record.
abbrev pub WhichRecord : Type 0
WhichRecord =
    (cs : List Call) (out after : List ℕ) → ReadBack (after_calls fresh_relay cs).state out 0 after
    → HoldsARecordSaidTwice (after_calls fresh_relay cs).log out after

abbrev pub WhichRecordOverHistories : Type 0
WhichRecordOverHistories = (l : Log) (s out after : List ℕ) → History l s → ReadBack s out 0 after → HoldsARecordSaidTwice l out after

-- And the other way: a record that the log shows said twice is what is read back, and what decides, wherever the call itself is a good one.
abbrev pub SaidTwiceReadsBack : Type 0
SaidTwiceReadsBack =
    (l : Log) (s r out : List ℕ) (n : ℕ) (after : List ℕ) → History l s → SaidTwice r l → ReadBack s out n after → record_length ≤ length out
    → (n ≡ 0) × (take record_length after ≡ r)

abbrev pub SaidTwiceDecides : Type 0
SaidTwiceDecides =
    (l : Log) (s r b out : List ℕ) (n : ℕ) (after : List ℕ) → History l s → SaidTwice r l → Decided s b out n after
    → length b ≡ 2 * window_length (ends r) → decision_length ≤ length out → NoneMissing (numbers_of b) (window_length (ends r))
    → (n ≡ 0) × (take decision_length after ≡ decision r (numbers_of b))

-- The same by feeding: once 16 frames are kept and none of their samples is missing.
abbrev pub SaidTwiceDecidesByFeeding : Type 0
SaidTwiceDecidesByFeeding =
    (cs : List Call) (r f out : List ℕ) (n : ℕ) (s₁ after : List ℕ) → AllBytes cs → Every Byte f → SaidTwice r (after_calls fresh_relay cs).log
    → Fed (after_calls fresh_relay cs).state f out n s₁ after → length f ≡ 2 * channels (ends r) → decision_length ≤ length out
    → let fs = frames_after fresh_relay [] cs ++ (f ∷ []) in
    frames ≤ length fs → NoneMissing (numbers_of (one_after_another fs)) (window_length (ends r))
    → (n ≡ 0) × (take decision_length after ≡ decision r (numbers_of (one_after_another fs)))
