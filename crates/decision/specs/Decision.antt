-- Document 01, "Decision record": what is found in a window by a settings record, and so the decision on it. In these definitions s is a
-- settings record and w a window's numbers.
use Rattle.std.specs.Prelude.{ℕ, List, Bool, cond, eqb, ℤ, pos}
use Rattle.plane.specs.declared.Phasor.{Phasor}
use Rattle.plane.specs.declared.Phases.{Phases}
use Rattle.phasors.specs.Rate.{Rate, sixteen}
use Rattle.phasors.specs.Grid.{voltages_of, local_currents, current}
use Rattle.settings.specs.Fields.{ends, slope, pickup, reach, second_reach}
use Rattle.direction.specs.declared.Direction.{Direction}
use Rattle.direction.specs.Sequence.{negative_sequence}
use Rattle.distance.specs.Constants.{replica, compensation}
use Rattle.direction.specs.Direction.{reaches_pickup, direction_of}
use Rattle.distance.specs.declared.mho.SixLoops.{SixLoops}
use Rattle.distance.specs.Mho.{loops_of, loop_bits}
use Rattle.differential.specs.declared.Comparison.{Comparison}
use Rattle.differential.specs.Differential.{comparisons, operating_bits, slopes_of_change}
use Rattle.quadrilateral.specs.Quadrilateral.{quadrilaterals_of}
use Rattle.findings.specs.declared.Findings.{Findings}
use Rattle.findings.specs.DecisionRecord.{decision_bytes}

-- ---- what is found in a window

-- How a cycle is measured, by the record: here always with sixteen samples.
abbrev pub rate_of : List ℕ → Rate
rate_of s = sixteen

-- Va, Vb, Vc
abbrev pub voltages : List ℕ → List ℤ → Phases Phasor
voltages s w = voltages_of (rate_of s) w (ends s)

-- Ia, Ib, Ic: "Only end 1 is used"
abbrev pub currents_of_end1 : List ℕ → List ℤ → Phases Phasor
currents_of_end1 s w = local_currents (rate_of s) w (ends s)

-- s and U of each phase, over all ends
abbrev pub comparisons_of : List ℕ → List ℤ → Phases Comparison
comparisons_of s w = comparisons (current (rate_of s) w (ends s)) (ends s)

-- the six loops, from the voltages and the currents of end 1
abbrev pub loops_at : List ℕ → Phases Phasor → Phases Phasor → SixLoops
loops_at s v i = loops_of (compensation s) v i

-- the loops that assert at the reach r
abbrev pub asserting_bits : List ℕ → SixLoops → ℕ
asserting_bits s l = loop_bits (replica s) (pos (reach s)) l

-- and at the second reach: none where it is off (document 02, CR 2)
abbrev pub overreaching_bits : List ℕ → SixLoops → ℕ
overreaching_bits s l = cond (eqb (second_reach s) 0) 0 (loop_bits (replica s) (pos (second_reach s)) l)

-- 3I2 reaches its pickup
abbrev pub unbalanced_at : List ℕ → Phases Phasor → Bool
unbalanced_at s i = reaches_pickup s (negative_sequence i)

-- the direction, from 3V2 and 3I2
abbrev pub direction_at : List ℕ → Phases Phasor → Phases Phasor → Direction
direction_at s v i = direction_of s (negative_sequence v) (negative_sequence i)

-- the quadrilateral ground loops that see a fault ahead (document 02, CR 7)
abbrev pub quadrilaterals_at : List ℕ → Phases Phasor → Phases Phasor → ℕ
quadrilaterals_at s v i = quadrilaterals_of s i (loops_at s v i) (direction_at s v i)

unfoldable pub findings : List ℕ → List ℤ → Findings
findings s w =
    record {
      operating = operating_bits (slope s) (pickup s) (comparisons_of s w);
      quadrilaterals = quadrilaterals_at s (voltages s w) (currents_of_end1 s w);
      asserting = asserting_bits s (loops_at s (voltages s w) (currents_of_end1 s w));
      overreaching = overreaching_bits s (loops_at s (voltages s w) (currents_of_end1 s w));
      unbalanced = unbalanced_at s (currents_of_end1 s w);
      direction = direction_at s (voltages s w) (currents_of_end1 s w);
      changes = slopes_of_change (pickup s) (comparisons_of s w);
      comparisons = comparisons_of s w;
    }

-- ---- the decision

-- "32 bytes"
abbrev pub decision_length : ℕ
decision_length = 32

-- the decision on a window
abbrev pub decision : List ℕ → List ℤ → List ℕ
decision s w = decision_bytes (findings s w)
