-- Document 02, CR 4: balanced faults, and what the request does not move. s is the settings record in force, w the window's numbers, and d
-- what the buffer holds after the call.
use Rattle.std.specs.Prelude.{ℕ, ◌≤◌, ◌<◌, ◌≡◌, ◌⊎◌, List, cond, ◌&&◌, ◌||◌, ℤ}
use Rattle.whole.specs.Exactly.{Exactly}
use Rattle.plane.specs.Plane.{zero}
use Rattle.settings.specs.Fields.{reach}
use Rattle.direction.specs.Sequence.{positive_sequence, negative_sequence}
use Rattle.direction.specs.Laws.{PickupReached}
use Rattle.findings.specs.declared.Findings.{Findings}
use Rattle.direction.specs.Direction.{is_forward}
use Rattle.findings.specs.DecisionRecord.{any, phase_byte}
use Rattle.decision.specs.Decision.{voltages, currents_of_end1, findings}
use Rattle.decision_claims.specs.Bits.{AnyOf, AllOf}
use Rattle.decision_claims.specs.Alike.{record_with}
use Rattle.claims.specs.Decisions.{Decision}
use Rattle.decision_claims.specs.Demand2.{phase_facts, phase_loop_facts, quadrilateral_facts, Balanced, byte}

-- ---- the new rule

-- Where |3I2|² is below its pickup squared, "Direction still reads 0", and the relay trips exactly when a phase operates or "AB, BC and CA all
-- assert in the first zone".
abbrev pub BalancedFault : Type 0
BalancedFault =
    (s : List ℕ) (w : List ℤ) (out d : List ℕ) → Decision s w out d → Balanced s w
    → (byte d 3 ≡ 0) × Exactly (byte d 0 ≡ 1) (AnyOf (phase_facts s w) ⊎ AllOf (phase_loop_facts s w (reach s)))

-- "If direction is none because T lies between the limits, nothing changes": no loop has a part in the trip.
abbrev pub BetweenLimits : Type 0
BetweenLimits =
    (s : List ℕ) (w : List ℤ) (out d : List ℕ) → Decision s w out d
    → PickupReached s (negative_sequence (currents_of_end1 s w)) → byte d 3 ≡ 0 → Exactly (byte d 0 ≡ 1) (AnyOf (phase_facts s w))

-- A limit of the rule, without polarising memory: where 3V1 is zero no loop asserts in either zone, and only a phase that operates trips, or a
-- quadrilateral, which is not polarised by a voltage (CR 7).
abbrev pub NoVoltage : Type 0
NoVoltage =
    (s : List ℕ) (w : List ℤ) (out d : List ℕ) → Decision s w out d → positive_sequence (voltages s w) ≡ zero
    → (byte d 2 ≡ 0) × (byte d 4 ≡ 0) × Exactly (byte d 0 ≡ 1) (AnyOf (phase_facts s w) ⊎ AnyOf (quadrilateral_facts s w))

-- ---- what it does not move

-- The decision without this rule: "1 if any phase operates, or direction is forward and any loop asserts; else 0", or where a quadrilateral
-- sees a fault; and the other bytes.
abbrev pub bytes_before : Findings → List ℕ
bytes_before f =
    record_with (cond (any f.operating || ((is_forward f.direction && any f.asserting) || any f.quadrilaterals)) 1 0)
    (phase_byte f.operating f.quadrilaterals) f.changes f

abbrev pub before : List ℕ → List ℤ → ℕ → ℕ
before s w k = byte (bytes_before (findings s w)) k

pub record ElseAsBefore : Type 0 where
  -- bytes 1 to 31 always
  pub other_bytes :
      (s : List ℕ) (w : List ℤ) (out d : List ℕ) → Decision s w out d → (k : ℕ) → 1 ≤ k → k < 32 → byte d k ≡ before s w k
  -- byte 0 where 3I2 reaches its pickup, or one of the three loops does not assert
  pub trip_stays :
      (s : List ℕ) (w : List ℤ) (out d : List ℕ) → Decision s w out d
      → PickupReached s (negative_sequence (currents_of_end1 s w)) ⊎ (AllOf (phase_loop_facts s w (reach s)) → ⊥) → byte d 0 ≡ before s w 0
  -- "also": what tripped before trips
  pub trips_still : (s : List ℕ) (w : List ℤ) (out d : List ℕ) → Decision s w out d → before s w 0 ≡ 1 → byte d 0 ≡ 1
