-- Document 02, CR 1: what the firmware may rely on that feeds one frame every sample time. Over every list of calls that lend one relay, fresh at
-- the start: what a frame is answered goes by the frames themselves, whatever bytes the state keeps them in.
use Rattle.std.specs.Prelude.{ℕ, ◌+◌, ◌*◌, ◌-◌, ◌≤◌, ◌<◌, ◌≡◌, cond, eqb, length}
use mathlib.Core.List.{List, [], ◌∷◌, ◌++◌, flatten}
use Rattle.answers.specs.Answers.{given_back}
use Rattle.samples.specs.Window.{frames}
use Rattle.lent.specs.Bytes.{Every, Byte}
use Rattle.stream.specs.History.{newest}
use Rattle.feed.specs.Feed.{numbers_of_frame}
use Rattle.gorsepetal.specs.State.{state_length, fresh_state, settings_of, window_of}
use Rattle.gorsepetal.specs.Calls.{confirm_answer, feed_answer, Proposed, Confirmed, Decided, Fed}
use Rattle.gorsepetal.specs.EventFiles.{handed, EventsRead}
use Rattle.claims.specs.Frames.{is_kept, IsKept}
use Rattle.claims.specs.Demand1.{Call, proposing, confirming, reading_back, deciding, feeding, reading_events, Logged, fresh_relay, next, after_calls}

-- A frame that feed is handed, if there is one, and keeps.
abbrev pub frames_fed : (s out : List ℕ) (fs gs : List (List ℕ)) → List (List ℕ)
frames_fed s out fs [] = fs
frames_fed s out fs (f ∷ gs) = cond (is_kept (given_back (feed_answer s f out))) (fs ++ (f ∷ [])) fs

-- The frames kept since the last confirmation answered 0, the oldest first: fs before a call to a relay with state s, and this after it.
abbrev pub frames_with : List ℕ → List (List ℕ) → Call → List (List ℕ)
frames_with s fs (proposing e) = fs
frames_with s fs (confirming e) = cond (eqb (given_back (confirm_answer s e)) 0) [] fs
frames_with s fs (reading_back out) = fs
frames_with s fs (deciding samples out) = fs
frames_with s fs (feeding f out) = frames_fed s out fs (f ∷ [])
frames_with s fs (reading_events r p out) = frames_fed s out fs (handed s r p)

-- And after all calls of a list.
abbrev pub frames_after : Logged → List (List ℕ) → List Call → List (List ℕ)
frames_after r fs [] = fs
frames_after r fs (c ∷ cs) = frames_after (next r c) (frames_with r.state fs c) cs

-- "the newest 16 frames, with the oldest as n=0", one after another: the window that decide would be lent.
abbrev pub one_after_another : List (List ℕ) → List ℕ
one_after_another fs = flatten (newest frames fs)

-- What is fed are bytes, as all that C lends is.
abbrev pub FedBytes : Call → Type 0
FedBytes (proposing e) = Unit {0}
FedBytes (confirming e) = Unit {0}
FedBytes (reading_back out) = Unit {0}
FedBytes (deciding samples out) = Unit {0}
FedBytes (feeding f out) = Every Byte f
FedBytes (reading_events r p out) = Every Byte r × Every Byte p

abbrev pub AllBytes : List Call → Type 0
AllBytes cs = Every FedBytes cs

-- What a frame that is kept is answered; fs are the frames kept, with this one. 10 while they are fewer than 16; from then on number, place and
-- buffer are those that decide gives for the newest 16.
pub record Heard (fs : List (List ℕ)) (s out : List ℕ) (n : ℕ) (out₁ : List ℕ) : Type 0 where
  pub early : length fs < frames → (n ≡ 10) × (out₁ ≡ out)
  pub decided : frames ≤ length fs → Decided s (one_after_another fs) out n out₁

abbrev pub FirmwareHears : Type 0
FirmwareHears =
    (cs : List Call) (f out : List ℕ) (n : ℕ) (s₁ out₁ : List ℕ) → AllBytes cs → Every Byte f → let s = (after_calls fresh_relay cs).state in
    Fed s f out n s₁ out₁ → IsKept n → Heard (frames_after fresh_relay [] cs ++ (f ∷ [])) s out n out₁

-- And so it is with a record of an event file (document 02, CR 5) that a piece makes whole, f being its frame.
abbrev pub HearsByEvents : Type 0
HearsByEvents =
    (cs : List Call) (r p out f : List ℕ) (n : ℕ) (s₁ r₁ out₁ : List ℕ) → AllBytes cs → Every Byte r → Every Byte p → let s = (after_calls fresh_relay cs).state in
    EventsRead s r p out n s₁ r₁ out₁ → handed s r p ≡ f ∷ [] → IsKept n → Heard (frames_after fresh_relay [] cs ++ (f ∷ [])) s out n out₁

-- The same by the calls' claims alone. (A piece of an event file is one of these calls: `ReadIsFed`, `ElseUnfed`.) A relay that has kept the frames fs since the last confirmation answered 0:
pub data HasKept : List (List ℕ) → List ℕ → Type 0 where
  fresh : HasKept [] fresh_state
  proposed : {fs : List (List ℕ)} {s e after : List ℕ} {n : ℕ} → HasKept fs s → Proposed s e n after → HasKept fs after
  confirmed : {fs : List (List ℕ)} {s e after : List ℕ} → HasKept fs s → Confirmed s e 0 after → HasKept [] after
  refused : {fs : List (List ℕ)} {s e after : List ℕ} {n : ℕ} → HasKept fs s → Confirmed s e n after → (n ≡ 0 → ⊥) → HasKept fs after
  kept : {fs : List (List ℕ)} {s f out after out₁ : List ℕ} {n : ℕ} → HasKept fs s → Every Byte f → Fed s f out n after out₁ → IsKept n → HasKept (fs ++ (f ∷ [])) after
  not_kept : {fs : List (List ℕ)} {s f out after out₁ : List ℕ} {n : ℕ} → HasKept fs s → Fed s f out n after out₁ → (IsKept n → ⊥) → HasKept fs after
  -- any other call: read-back and decide, which leave the state, and whatever leaves the window and the record in force
  other :
      {fs : List (List ℕ)} {s after : List ℕ} → HasKept fs s → length after ≡ state_length → window_of after ≡ window_of s
      → (settings_of after).force ≡ (settings_of s).force → HasKept fs after

abbrev pub HearsOverHistories : Type 0
HearsOverHistories =
    (fs : List (List ℕ)) (s f out : List ℕ) (n : ℕ) (s₁ out₁ : List ℕ) → HasKept fs s → Every Byte f → Fed s f out n s₁ out₁ → IsKept n
    → Heard (fs ++ (f ∷ [])) s out n out₁

-- "refusal 4 comes for as long as it is among the 16": a missing sample's place falls by a frame's numbers with each frame that is kept, until
-- it stood in the oldest frame.
abbrev pub PlaceFalls : Type 0
PlaceFalls =
    (fs : List (List ℕ)) (s f out : List ℕ) (k : ℕ) (s₁ out₁ g room : List ℕ) (n : ℕ) (s₂ room₁ : List ℕ) → HasKept fs s → Every Byte f
    → Fed s f out (256 * k + 4) s₁ out₁ → numbers_of_frame (settings_of s).force ≤ k → Fed s₁ g room n s₂ room₁ → IsKept n
    → n ≡ 256 * (k - numbers_of_frame (settings_of s).force) + 4
