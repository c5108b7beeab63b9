-- Document 02, CR 6: the slope at which it changes, and what the request does not move. s is the settings record in force, w the window's
-- numbers, d what the buffer holds after the call, and phases a, b, c are 0, 1, 2.
use Rattle.std.specs.Prelude.{ℕ, ◌+◌, ◌/◌, ◌≤◌, ◌<◌, ◌≡◌, ◌⊎◌, List, [], ◌∷◌, true, ℤ}
use Rattle.plane.specs.declared.Phases.{Phases}
use Rattle.whole.specs.Exactly.{Exactly}
use Rattle.settings.specs.Table.{slope_row}
use Rattle.settings.specs.Fields.{slope}
use Rattle.findings.specs.declared.Findings.{Findings}
use Rattle.findings.specs.DecisionRecord.{trip, phase_byte}
use Rattle.decision.specs.Decision.{findings}
use Rattle.decision_claims.specs.Bits.{is_set, AnyOf}
use Rattle.decision_claims.specs.Alike.{SameBut, record_with}
use Rattle.claims.specs.Decisions.{Decision}
use Rattle.decision_claims.specs.Demand2.{ChangesAt, TripsByDistance, byte}

-- "Prove that one such number exists for each window and that it is the one written": it, and no other.
abbrev pub OneChange : Type 0
OneChange =
    (s : List ℕ) (w : List ℤ) (out d : List ℕ) → Decision s w out d → (p : ℕ) → p < 3 → (c : ℕ) → Exactly (ChangesAt s w p c) (c ≡ byte d (5 + p))

-- Byte 1 tells the same story: the phase's bit is set exactly if the slope in force is at most c.
abbrev pub SameStory : Type 0
SameStory =
    (s : List ℕ) (w : List ℤ) (out d : List ℕ) → Decision s w out d → (p : ℕ) → p < 3 → Exactly (is_set p (byte d 1) ≡ true) (slope s ≤ byte d (5 + p))

-- "how far off can the slope be?" Let t be a record with another slope, and e the decision by it on the same window. What e says is read from
-- d, which was made by s.
pub record HowFarOff (s t : List ℕ) (w : List ℤ) (d e : List ℕ) : Type 0 where
  -- which phases operate
  pub phases : (p : ℕ) → p < 3 → Exactly (is_set p (byte e 1) ≡ true) (slope t ≤ byte d (5 + p))
  -- whether it trips: by a phase, or by distance, which the slope does not touch
  pub trips : Exactly (byte e 0 ≡ 1) (AnyOf ((slope t ≤ byte d 5) ∷ (slope t ≤ byte d 6) ∷ (slope t ≤ byte d 7) ∷ []) ⊎ TripsByDistance s w)
  -- and the quadrilaterals and the other bytes are the same
  pub quadrilaterals : byte d 1 / 8 ≡ byte e 1 / 8
  pub others : (k : ℕ) → 2 ≤ k → byte d k ≡ byte e k

abbrev pub AtAnotherSlope : Type 0
AtAnotherSlope =
    (s t : List ℕ) (w : List ℤ) (out d e : List ℕ) → SameBut slope_row s t → Decision s w out d → Decision t w out e → HowFarOff s t w d e

-- ---- what it does not move

-- Bytes 0 to 4 and 8 to 31 are those of the record as it was, in which 5 to 7 were zero.
abbrev pub none : Phases ℕ
none = record { a = 0; b = 0; c = 0 }

abbrev pub bytes_before : Findings → List ℕ
bytes_before f =
    record_with (trip f.operating f.quadrilaterals f.asserting f.direction f.unbalanced) (phase_byte f.operating f.quadrilaterals) none f

abbrev pub ChangeMovesThree : Type 0
ChangeMovesThree =
    (s : List ℕ) (w : List ℤ) (out d : List ℕ) → Decision s w out d
    → (k : ℕ) → k < 32 → (k < 5) ⊎ (8 ≤ k) → byte d k ≡ byte (bytes_before (findings s w)) k
