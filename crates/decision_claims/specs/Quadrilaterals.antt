-- Document 02, CR 7: the quadrilateral ground loops, and what the request does not move. s is the settings record in force, w the window's
-- numbers, and d what the buffer holds after the call.
use Rattle.std.specs.Prelude.{ℕ, zero, suc, ◌+◌, ◌*◌, ◌%◌, ◌≤◌, ◌<◌, ◌≡◌, List, true, cond, ◌&&◌, ◌||◌, ℤ, pos, nat_abs, ◌<ℤ◌}
use Rattle.whole.specs.Exactly.{Exactly}
use Rattle.plane.specs.Plane as plane
use Rattle.plane.specs.Plane.{plus, times, scaled}
use Rattle.settings.specs.Table.{resistive_reach_row, settings_table}
use Rattle.settings.specs.Fields.{reach, resistive_reach}
use Rattle.direction.specs.Direction.{is_forward}
use Rattle.distance.specs.declared.mho.Loop.{Loop}
use Rattle.distance.specs.declared.mho.SixLoops.{SixLoops}
use Rattle.distance.specs.Constants.{replica}
use Rattle.distance.specs.Mho.{residual}
use Rattle.quadrilateral.specs.Quadrilateral.{q_of}
use Rattle.findings.specs.declared.Findings.{Findings}
use Rattle.findings.specs.DecisionRecord.{any, balanced_fault}
use Rattle.decision.specs.Decision.{currents_of_end1, findings}
use Rattle.decision_claims.specs.Bits.{is_set}
use Rattle.decision_claims.specs.Alike.{SameBut, table_before_r, FromBefore, record_with}
use Rattle.claims.specs.Decisions.{Decision}
use Rattle.decision_claims.specs.Demand2.{six_loops, Watching, byte}

-- ---- the new rule

-- A bit of A, B or C is never set alone: R is not 0, residual current flows, "Direction must be forward", and it "sets trip".
pub record Resistive (s : List ℕ) (w : List ℤ) (d : List ℕ) : Type 0 where
  pub on : resistive_reach s ≡ 0 → ⊥
  pub residual_flows : residual (currents_of_end1 s w) ≡ plane.zero → ⊥
  pub forward : byte d 3 ≡ 1
  pub trips : byte d 0 ≡ 1

abbrev pub QuadrilateralHasReason : Type 0
QuadrilateralHasReason = (s : List ℕ) (w : List ℤ) (out d : List ℕ) → Decision s w out d → 8 ≤ byte d 1 → Resistive s w d

-- What a bit tells of a fault by its equation, V = m Z I + f Ir: of the loops AG, BG and CG, which are 0, 1 and 2, with m in thousandths and
-- f in millionths, where Z I leads Ir.
abbrev pub ground_loop_of : SixLoops → ℕ → Loop
ground_loop_of l zero = l.ag
ground_loop_of l (suc zero) = l.bg
ground_loop_of l (suc (suc p)) = l.cg

abbrev pub FaultTold : Type 0
FaultTold =
    (s : List ℕ) (w : List ℤ) (out d : List ℕ) → Decision s w out d → (p : ℕ) → p < 3 → (m f : ℤ)
    → let l = ground_loop_of (six_loops s w) p in let ir = residual (currents_of_end1 s w) in
    scaled (pos 1000000) l.v ≡ plus (scaled m (times (replica s) l.i)) (scaled f ir) → q_of (replica s) ir l <ℤ pos 0
    → Exactly (is_set (3 + p) (byte d 1) ≡ true) (Watching s w × ((m <ℤ pos (reach s)) × (nat_abs f ≤ 100000 * resistive_reach s)))

-- A larger R, with all else equal: each bit of byte 1 that was set is set, and what tripped trips.
abbrev pub LargerRKeeps : Type 0
LargerRKeeps =
    (s t : List ℕ) (w : List ℤ) (out d e : List ℕ) → SameBut resistive_reach_row s t → resistive_reach s ≤ resistive_reach t
    → Decision s w out d → Decision t w out e
    → ((k : ℕ) → is_set k (byte d 1) ≡ true → is_set k (byte e 1) ≡ true) × (byte d 0 ≡ 1 → byte e 0 ≡ 1)

-- ---- what it does not move

-- By two records that differ in R alone, bits 1, 2 and 4 of byte 1 are the same, and every byte from 2 on.
abbrev pub AtAnotherR : Type 0
AtAnotherR =
    (s t : List ℕ) (w : List ℤ) (out d e : List ℕ) → SameBut resistive_reach_row s t → Decision s w out d → Decision t w out e
    → (byte d 1 % 8 ≡ byte e 1 % 8) × ((k : ℕ) → 2 ≤ k → byte d k ≡ byte e k)

-- With R = 0 every byte is that of the record as it was: byte 0 by the three reasons before this one, and the phases alone in byte 1.
abbrev pub bytes_before : Findings → List ℕ
bytes_before f =
    record_with (cond (any f.operating || ((is_forward f.direction && any f.asserting) || balanced_fault f.asserting f.unbalanced)) 1 0)
    f.operating f.changes f

abbrev pub QuadrilateralsOff : Type 0
QuadrilateralsOff =
    (s : List ℕ) (w : List ℤ) (out d : List ℕ) → Decision s w out d → resistive_reach s ≡ 0
    → (k : ℕ) → k < 32 → byte d k ≡ byte (bytes_before (findings s w)) k

-- And records from before are those with R = 0: bytes 28 and 29 were spare.
abbrev pub RecordsBeforeR : Type 0
RecordsBeforeR = FromBefore resistive_reach_row settings_table table_before_r
