-- Document 02, CR 1: what a frame is answered once settings are in force, and what it leaves. In these definitions r is the settings record in
-- force, w the window as it was, and f the frame's bytes.
use Rattle.std.specs.Prelude.{ℕ, ◌*◌, ◌≡◌, List, Bool, cond, eqb, leb, ℤ, length, take, Ok, Err}
use Rattle.answers.specs.declared.Refusal.TheVariants.{NoRoom, OtherFrameLength, TooFewFrames}
use Rattle.answers.specs.Answers.{Answer, if_done}
use Rattle.samples.specs.Window.{frames, channels, numbers_of, first_missing}
use Rattle.stream.specs.declared.Window.{Window}
use Rattle.stream.specs.Window.{newest_part, moved_on}
use Rattle.stream.specs.Stored.{window_at, kept}
use Rattle.settings.specs.Record.{record_length}
use Rattle.settings.specs.Fields.{ends}
use Rattle.decision.specs.Decision.{decision_length}
use Rattle.decision.specs.Decide.{of_found, written}

-- "3+3N numbers"
abbrev pub numbers_of_frame : List ℕ → ℕ
numbers_of_frame r = channels (ends r)

-- Refusal 9: "frame of another length". An odd byte over makes it one.
abbrev pub fits_frame : List ℕ → List ℕ → Bool
fits_frame r f = eqb (length f) (2 * numbers_of_frame r)

-- "Order 1, 9, 3, 10, 4. The first three keep nothing": here 9 and 3. Done where the frame is kept. Refusal 3: room below 32 bytes.
abbrev pub keeps : List ℕ → List ℕ → List ℕ → Answer
keeps r f out = cond (fits_frame r f) (cond (leb decision_length (length out)) (Ok tt) (Err NoRoom)) (Err OtherFrameLength)

-- "moved on by one frame"
abbrev pub with_frame : List ℕ → Window → List ℕ → Window
with_frame r w f = moved_on frames (numbers_of_frame r) w (numbers_of f)

-- "the newest 16 frames, with the oldest as n=0"
abbrev pub newest_frames : List ℕ → Window → List ℕ → List ℤ
newest_frames r w f = newest_part frames (numbers_of_frame r) (with_frame r w f).numbers

-- Refusal 10: "fewer than 16 frames yet (the frame is kept)". From 16 on the answer is the one "that document 01's call gives for these 16
-- frames": refusal 4, at the index of the first missing number in them, or done.
abbrev pub kept_answer : List ℕ → Window → List ℕ → Answer
kept_answer r w f = cond (leb frames (with_frame r w f).count) (of_found (first_missing (newest_frames r w f))) (Err TooFewFrames)

-- All of the order from 9 on.
abbrev pub frame_answer : List ℕ → Window → List ℕ → List ℕ → Answer
frame_answer r w f out = if_done (keeps r f out) (kept_answer r w f) (keeps r f out)

-- The decision on these 16 frames, at the front of the lent buffer, where the frame is answered 0.
abbrev pub frame_out : List ℕ → Window → List ℕ → List ℕ → List ℕ
frame_out r w f out = written (frame_answer r w f out) r (newest_frames r w f) out

-- A state s with its window from `at` on, in which a frame was kept.
abbrev pub with_kept : List ℕ → ℕ → List ℕ → List ℕ → List ℕ
with_kept r at s f = kept frames (numbers_of_frame r) at s (numbers_of f)

-- "The first three keep nothing."
abbrev pub frame_state : List ℕ → ℕ → List ℕ → List ℕ → List ℕ → List ℕ
frame_state r at s f out = if_done (keeps r f out) (with_kept r at s f) s

-- The record in force lies at the front of the state.
abbrev pub record_of : List ℕ → List ℕ
record_of s = take record_length s

-- What is promised of the answer a, of the state after and of the buffer after.
pub record Fed (at : ℕ) (s f out : List ℕ) (a : Answer) (s₁ out₁ : List ℕ) : Type 0 where
  pub answer : a ≡ frame_answer (record_of s) (window_at s at) f out
  pub state : s₁ ≡ frame_state (record_of s) at s f out
  pub buffer : out₁ ≡ frame_out (record_of s) (window_at s at) f out

-- The same of a frame that is kept: its length and the room were asked for.
pub record KeptFrame (at : ℕ) (s f out : List ℕ) (a : Answer) (s₁ out₁ : List ℕ) : Type 0 where
  pub answer : a ≡ kept_answer (record_of s) (window_at s at) f
  pub state : s₁ ≡ with_kept (record_of s) at s f
  pub buffer : out₁ ≡ written a (record_of s) (newest_frames (record_of s) (window_at s at) f) out
