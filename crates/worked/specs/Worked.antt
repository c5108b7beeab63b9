-- Whole decisions, from the samples to bytes 0 to 7: the paper mill's fault at both slopes, a fault on each of the six loops, one behind
-- the relay, three beyond the first zone, balanced faults (document 02, CR 4), faults at the slope at which they change (CR 6), and resistive
-- faults that the circles miss (CR 7). In the loops', the balanced and most of the resistive faults what flows in at end 1 flows out at end 2.
-- docs/HAND-CHECKS.md works the mill's, the AG, the first of the balanced and the first of the resistive faults out; the other loops' faults
-- are like these, turned by a third.
use Rattle.std.specs.Prelude.{ℕ, ◌+◌, ◌≡◌, List, [], ◌∷◌, ◌++◌, map, ℤ, pos, ◌*ℤ◌, take, replicate}
use Rattle.settings.specs.Record.{negated}
use Rattle.settings.specs.Table.{Rule, offset_of, slope_row, pickup_row, reach_row, forward_limit_row, negative_sequence_pickup_row, second_reach_row, resistive_reach_row}
use Rattle.settings.specs.Examples.{example_record, changed}
use Rattle.decision.specs.Decision.{decision}
use Rattle.worked.specs.HandChecks.{Complex}

-- A window of two ends in which each channel has a given phasor: 8 times its real part at n = 0, and minus 8 times its imaginary part at
-- n = 4 (hand checks P1 and P6).
abbrev pub window_of : List Complex → List ℤ
window_of ps = map (λ p. pos 8 *ℤ p.0) ps ++ replicate 27 (pos 0) ++ map (λ p. negated 8 *ℤ p.1) ps ++ replicate 99 (pos 0)

pub record Worked : Type 0 where
  pub settings : List ℕ
  -- Va, Vb, Vc, then Ia, Ib, Ic of end 1 and of end 2
  pub phasors : List Complex
  -- trip, phases and quadrilaterals, loops, direction, the loops in the second zone, and c of a, b, c
  pub bytes : List ℕ

abbrev pub none : Complex
none = (pos 0, pos 0)

-- the currents of both ends and no voltage, at a pickup and a slope
abbrev pub currents : List Complex → ℕ → ℕ → List ℕ → Worked
currents i pickup K bytes =
    record {
      settings = changed (changed example_record (offset_of pickup_row) pickup) (offset_of slope_row) K;
      phasors = none ∷ none ∷ none ∷ i;
      bytes = bytes;
    }

-- 100 counts in and 40 out, pickup 60, at a slope
abbrev pub mill : ℕ → List ℕ → Worked
mill = currents ((pos 100, pos 0) ∷ none ∷ none ∷ (negated 40, pos 0) ∷ none ∷ none ∷ []) 60

-- the voltages, and the currents of end 1, which flow out at end 2: no phase operates at any slope
abbrev pub through : List Complex → List Complex → List ℕ → Worked
through v i bytes =
    record { settings = example_record; phasors = v ++ i ++ map (λ p. (negated 1 *ℤ p.0, negated 1 *ℤ p.1)) i; bytes = bytes ++ 0 ∷ 0 ∷ 0 ∷ [] }

-- AG ahead, and farther away than the first reach
abbrev pub farther : List ℕ → Worked
farther bytes =
    through ((pos 1600, pos 0) ∷ (negated 1000, negated 1732) ∷ (negated 1000, pos 1732) ∷ []) ((pos 0, negated 1000) ∷ none ∷ none ∷ []) bytes

-- with another setting
abbrev pub with : Rule → ℕ → Worked → Worked
with row n x = record { settings = changed x.settings (offset_of row) n; phasors = x.phasors; bytes = x.bytes }

-- a second reach
abbrev pub zoned : ℕ → Worked → Worked
zoned r x = with second_reach_row r x

-- the voltages of a balanced fault halfway along Z, but Va, and its currents, with x counts more in phase a, so that 3I2 is (0,-x)
abbrev pub halfway : ℕ → ℕ → List ℕ → Worked
halfway va x bytes =
    through ((pos va, pos 0) ∷ (negated 250, negated 433) ∷ (negated 250, pos 433) ∷ [])
    ((pos 0, negated (1000 + x)) ∷ (negated 866, pos 500) ∷ (pos 866, pos 500) ∷ []) bytes

-- the same currents, balanced, with other voltages
abbrev pub at : List Complex → List ℕ → Worked
at v bytes = through v ((pos 0, negated 1000) ∷ (negated 866, pos 500) ∷ (pos 866, pos 500) ∷ []) bytes

abbrev pub directed : List Worked
directed =
    -- the paper mill: slope 15, and 50
    mill 15 (1 ∷ 1 ∷ 0 ∷ 0 ∷ 0 ∷ 42 ∷ 0 ∷ 0 ∷ [])
    ∷ mill 50 (0 ∷ 0 ∷ 0 ∷ 0 ∷ 0 ∷ 42 ∷ 0 ∷ 0 ∷ [])
    -- AG, ahead and behind
    ∷ through ((pos 1000, pos 0) ∷ (negated 1000, negated 1732) ∷ (negated 1000, pos 1732) ∷ []) ((pos 0, negated 1000) ∷ none ∷ none ∷ []) (1 ∷ 0 ∷ 1 ∷ 1 ∷ 0 ∷ [])
    ∷ through ((pos 1000, pos 0) ∷ (negated 1000, negated 1732) ∷ (negated 1000, pos 1732) ∷ []) ((pos 0, pos 1000) ∷ none ∷ none ∷ []) (0 ∷ 0 ∷ 0 ∷ 2 ∷ 0 ∷ [])
    -- BG and CG
    ∷ through ((pos 2000, pos 0) ∷ (negated 500, negated 866) ∷ (negated 1000, pos 1732) ∷ []) (none ∷ (negated 866, pos 500) ∷ none ∷ []) (1 ∷ 0 ∷ 2 ∷ 1 ∷ 0 ∷ [])
    ∷ through ((pos 2000, pos 0) ∷ (negated 1000, negated 1732) ∷ (negated 500, pos 866) ∷ []) (none ∷ none ∷ (pos 866, pos 500) ∷ []) (1 ∷ 0 ∷ 4 ∷ 1 ∷ 0 ∷ [])
    -- AB, BC and CA
    ∷ through ((pos 760, negated 716) ∷ (pos 240, negated 1016) ∷ (negated 1000, pos 1732) ∷ []) ((pos 250, negated 433) ∷ (negated 250, pos 433) ∷ none ∷ []) (1 ∷ 0 ∷ 8 ∷ 1 ∷ 0 ∷ [])
    ∷ through ((pos 2000, pos 0) ∷ (negated 1000, negated 300) ∷ (negated 1000, pos 300) ∷ []) (none ∷ (negated 500, pos 0) ∷ (pos 500, pos 0) ∷ []) (1 ∷ 0 ∷ 16 ∷ 1 ∷ 0 ∷ [])
    ∷ through ((pos 760, pos 716) ∷ (negated 1000, negated 1732) ∷ (pos 240, pos 1016) ∷ []) ((negated 250, negated 433) ∷ none ∷ (pos 250, pos 433) ∷ []) (1 ∷ 0 ∷ 32 ∷ 1 ∷ 0 ∷ [])
    -- the second zone off, one short of the fault, at it, and at its limit: forward, and no trip
    ∷ zoned 0 (farther (0 ∷ 0 ∷ 0 ∷ 1 ∷ 0 ∷ []))
    ∷ zoned 959 (farther (0 ∷ 0 ∷ 0 ∷ 1 ∷ 0 ∷ []))
    ∷ zoned 960 (farther (0 ∷ 0 ∷ 0 ∷ 1 ∷ 1 ∷ []))
    ∷ zoned 2000 (farther (0 ∷ 0 ∷ 0 ∷ 1 ∷ 1 ∷ []))
    -- BG and BC as far away
    ∷ zoned 1200 (through ((pos 2000, pos 0) ∷ (negated 800, negated 1386) ∷ (negated 1000, pos 1732) ∷ []) (none ∷ (negated 866, pos 500) ∷ none ∷ []) (0 ∷ 0 ∷ 0 ∷ 1 ∷ 2 ∷ []))
    ∷ zoned 1200 (through ((pos 2000, pos 0) ∷ (negated 1000, negated 480) ∷ (negated 1000, pos 480) ∷ []) (none ∷ (negated 500, pos 0) ∷ (pos 500, pos 0) ∷ []) (0 ∷ 0 ∷ 0 ∷ 1 ∷ 16 ∷ []))
    ∷ []

abbrev pub balanced : List Worked
balanced =
    -- ahead, in the first zone; exactly at its reach, and one short of it
    halfway 500 0 (1 ∷ 0 ∷ 63 ∷ 0 ∷ 0 ∷ [])
    ∷ with reach_row 500 (halfway 500 0 (1 ∷ 0 ∷ 63 ∷ 0 ∷ 0 ∷ []))
    ∷ with reach_row 499 (halfway 500 0 (0 ∷ 0 ∷ 0 ∷ 0 ∷ 0 ∷ []))
    -- in the second zone alone
    ∷ zoned 500 (with reach_row 499 (halfway 500 0 (0 ∷ 0 ∷ 0 ∷ 0 ∷ 63 ∷ [])))
    -- behind: m is below zero
    ∷ zoned 2000 (through ((pos 500, pos 0) ∷ (negated 250, negated 433) ∷ (negated 250, pos 433) ∷ []) ((pos 0, pos 1000) ∷ (pos 866, negated 500) ∷ (negated 866, negated 500) ∷ []) (0 ∷ 0 ∷ 0 ∷ 0 ∷ 0 ∷ []))
    -- 3I2 one below its pickup, 50: whatever 3V2 is
    ∷ halfway 480 49 (1 ∷ 0 ∷ 63 ∷ 0 ∷ 0 ∷ [])
    ∷ halfway 500 49 (1 ∷ 0 ∷ 63 ∷ 0 ∷ 0 ∷ [])
    ∷ halfway 520 49 (1 ∷ 0 ∷ 63 ∷ 0 ∷ 0 ∷ [])
    -- and at its pickup: forward, T between the limits, reverse
    ∷ halfway 480 50 (1 ∷ 0 ∷ 63 ∷ 1 ∷ 0 ∷ [])
    ∷ halfway 500 50 (0 ∷ 0 ∷ 63 ∷ 0 ∷ 0 ∷ [])
    ∷ halfway 520 50 (0 ∷ 0 ∷ 63 ∷ 2 ∷ 0 ∷ [])
    -- all loops assert, but AB; but BC; but CA
    ∷ at ((pos 818, pos 183) ∷ (negated 568, negated 617) ∷ (negated 150, pos 260) ∷ []) (0 ∷ 0 ∷ 55 ∷ 0 ∷ 0 ∷ [])
    ∷ at ((pos 300, pos 0) ∷ (negated 250, negated 800) ∷ (negated 250, pos 800) ∷ []) (0 ∷ 0 ∷ 47 ∷ 0 ∷ 0 ∷ [])
    ∷ at ((pos 818, negated 183) ∷ (negated 150, negated 260) ∷ (negated 568, pos 617) ∷ []) (0 ∷ 0 ∷ 31 ∷ 0 ∷ 0 ∷ [])
    -- no ground loop asserts: a zero sequence hides the fault from them
    ∷ through ((negated 1200, pos 0) ∷ (negated 1950, negated 433) ∷ (negated 1950, pos 433) ∷ []) ((pos 0, negated 640) ∷ (negated 866, pos 860) ∷ (pos 866, pos 860) ∷ []) (1 ∷ 0 ∷ 56 ∷ 0 ∷ 0 ∷ [])
    -- no voltage
    ∷ at (none ∷ none ∷ none ∷ []) (0 ∷ 0 ∷ 0 ∷ 0 ∷ 0 ∷ [])
    ∷ []

-- hand check P10 in phase b, equal at 50; and P11 in phase c
abbrev pub p10 : ℕ → ℕ → List ℕ → Worked
p10 = currents (none ∷ (pos 90, pos 0) ∷ none ∷ none ∷ (negated 30, pos 0) ∷ none ∷ [])

abbrev pub p11 : ℕ → ℕ → List ℕ → Worked
p11 = currents (none ∷ none ∷ (pos 1, pos 1) ∷ none ∷ none ∷ (pos 1, pos 1) ∷ [])

abbrev pub changing : List Worked
changing =
    -- the paper mill on both sides of its change
    mill 42 (1 ∷ 1 ∷ 0 ∷ 0 ∷ 0 ∷ 42 ∷ 0 ∷ 0 ∷ [])
    ∷ mill 43 (0 ∷ 0 ∷ 0 ∷ 0 ∷ 0 ∷ 42 ∷ 0 ∷ 0 ∷ [])
    -- equal does not operate
    ∷ p10 1 49 (1 ∷ 2 ∷ 0 ∷ 0 ∷ 0 ∷ 0 ∷ 49 ∷ 0 ∷ [])
    ∷ p10 1 50 (0 ∷ 0 ∷ 0 ∷ 0 ∷ 0 ∷ 0 ∷ 49 ∷ 0 ∷ [])
    -- the pickup is not reached
    ∷ p10 61 15 (0 ∷ 0 ∷ 0 ∷ 0 ∷ 0 ∷ 0 ∷ 0 ∷ 0 ∷ [])
    -- the most there is, on both sides of its change and at its largest pickup; and one more, which is not reached
    ∷ p11 1 99 (1 ∷ 4 ∷ 0 ∷ 0 ∷ 0 ∷ 0 ∷ 0 ∷ 99 ∷ [])
    ∷ p11 1 100 (0 ∷ 0 ∷ 0 ∷ 0 ∷ 0 ∷ 0 ∷ 0 ∷ 99 ∷ [])
    ∷ p11 2 1 (1 ∷ 4 ∷ 0 ∷ 0 ∷ 0 ∷ 0 ∷ 0 ∷ 99 ∷ [])
    ∷ p11 3 1 (0 ∷ 0 ∷ 0 ∷ 0 ∷ 0 ∷ 0 ∷ 0 ∷ 0 ∷ [])
    -- all three at once, at a slope between them
    ∷ currents ((pos 100, pos 0) ∷ (pos 90, pos 0) ∷ (pos 1, pos 1) ∷ (negated 40, pos 0) ∷ (negated 30, pos 0) ∷ (pos 1, pos 1) ∷ []) 1 45 (1 ∷ 6 ∷ 0 ∷ 0 ∷ 0 ∷ 42 ∷ 49 ∷ 99 ∷ [])
    ∷ []

-- a resistive reach
abbrev pub sided : ℕ → Worked → Worked
sided R x = with resistive_reach_row R x

-- a fault of phase a to ground by its voltage, with 600 counts of current: Z I is (1000000,0), so Va = (m, y) is one at m thousandths of Z, and
-- 10 |y| / 600 tenths of resistance
abbrev pub leaking : ℤ → ℤ → List ℕ → Worked
leaking m y bytes = through ((m, y) ∷ (negated 1000, negated 1732) ∷ (negated 1000, pos 1732) ∷ []) ((pos 0, negated 600) ∷ none ∷ none ∷ []) bytes

-- one of a and b, in which I of BG has the other sign than Ir, so that q of B is above zero
abbrev pub turned_round : ℤ → List ℕ → Worked
turned_round x bytes = through ((pos 600, negated 1500) ∷ (x, negated 600) ∷ (negated 1000, pos 1732) ∷ []) ((pos 0, negated 1400) ∷ (pos 0, pos 800) ∷ none ∷ []) bytes

abbrev pub resistive : List Worked
resistive =
    -- off, short of the right side, on it, and beyond it; from 29 on the sound phases see it too
    sided 0 (leaking (pos 600) (negated 1500) (0 ∷ 0 ∷ 0 ∷ 1 ∷ 0 ∷ []))
    ∷ sided 24 (leaking (pos 600) (negated 1500) (0 ∷ 0 ∷ 0 ∷ 1 ∷ 0 ∷ []))
    ∷ sided 25 (leaking (pos 600) (negated 1500) (1 ∷ 8 ∷ 0 ∷ 1 ∷ 0 ∷ []))
    ∷ sided 28 (leaking (pos 600) (negated 1500) (1 ∷ 8 ∷ 0 ∷ 1 ∷ 0 ∷ []))
    ∷ sided 29 (leaking (pos 600) (negated 1500) (1 ∷ 56 ∷ 0 ∷ 1 ∷ 0 ∷ []))
    ∷ sided 1000 (leaking (pos 600) (negated 1500) (1 ∷ 56 ∷ 0 ∷ 1 ∷ 0 ∷ []))
    -- the left side
    ∷ sided 24 (leaking (pos 600) (pos 1500) (0 ∷ 0 ∷ 0 ∷ 1 ∷ 0 ∷ []))
    ∷ sided 25 (leaking (pos 600) (pos 1500) (1 ∷ 8 ∷ 0 ∷ 1 ∷ 0 ∷ []))
    -- below the top and on it, by the fault and by r
    ∷ sided 25 (leaking (pos 849) (negated 1500) (1 ∷ 8 ∷ 0 ∷ 1 ∷ 0 ∷ []))
    ∷ sided 25 (leaking (pos 850) (negated 1500) (0 ∷ 0 ∷ 0 ∷ 1 ∷ 0 ∷ []))
    ∷ sided 25 (with reach_row 600 (leaking (pos 600) (negated 1500) (0 ∷ 0 ∷ 0 ∷ 1 ∷ 0 ∷ [])))
    ∷ sided 25 (with reach_row 601 (leaking (pos 600) (negated 1500) (1 ∷ 8 ∷ 0 ∷ 1 ∷ 0 ∷ [])))
    -- beyond the top, where the sound phases see it
    ∷ sided 28 (leaking (pos 900) (negated 1500) (0 ∷ 0 ∷ 0 ∷ 1 ∷ 0 ∷ []))
    ∷ sided 29 (leaking (pos 900) (negated 1500) (1 ∷ 48 ∷ 0 ∷ 1 ∷ 0 ∷ []))
    -- b and c to ground, beyond the top of every loop of theirs: at the least R the loop of a, which has no fault, sees it
    ∷ sided 1 (through ((pos 2000, pos 0) ∷ (negated 700, negated 800) ∷ (negated 700, pos 800) ∷ []) (none ∷ (negated 900, pos 300) ∷ (pos 900, pos 300) ∷ []) (1 ∷ 8 ∷ 0 ∷ 1 ∷ 0 ∷ []))
    -- behind
    ∷ sided 25 (through ((pos 600, negated 1500) ∷ (negated 1000, negated 1732) ∷ (negated 1000, pos 1732) ∷ []) ((pos 0, pos 600) ∷ none ∷ none ∷ []) (0 ∷ 0 ∷ 0 ∷ 2 ∷ 0 ∷ []))
    -- 3I2 at its pickup, and one below; T just below zf, and not
    ∷ sided 25 (with negative_sequence_pickup_row 600 (leaking (pos 600) (negated 1500) (1 ∷ 8 ∷ 0 ∷ 1 ∷ 0 ∷ [])))
    ∷ sided 25 (with negative_sequence_pickup_row 601 (leaking (pos 600) (negated 1500) (0 ∷ 0 ∷ 0 ∷ 0 ∷ 0 ∷ [])))
    ∷ sided 25 (with forward_limit_row 63203 (leaking (pos 600) (negated 1500) (1 ∷ 8 ∷ 0 ∷ 1 ∷ 0 ∷ [])))
    ∷ sided 25 (with forward_limit_row 63202 (leaking (pos 600) (negated 1500) (0 ∷ 0 ∷ 0 ∷ 0 ∷ 0 ∷ [])))
    -- solid, so that n is 0: off, and on
    ∷ sided 0 (leaking (pos 600) (pos 0) (1 ∷ 0 ∷ 1 ∷ 1 ∷ 0 ∷ []))
    ∷ sided 1 (leaking (pos 600) (pos 0) (1 ∷ 8 ∷ 1 ∷ 1 ∷ 0 ∷ []))
    ∷ sided 1 (leaking (pos 0) (pos 0) (1 ∷ 8 ∷ 1 ∷ 1 ∷ 0 ∷ []))
    -- B and C
    ∷ sided 25 (through ((pos 2000, pos 0) ∷ (negated 1599, pos 230) ∷ (negated 1000, pos 1732) ∷ []) (none ∷ (negated 520, pos 300) ∷ none ∷ []) (1 ∷ 16 ∷ 0 ∷ 1 ∷ 0 ∷ []))
    ∷ sided 24 (through ((pos 2000, pos 0) ∷ (negated 1599, pos 230) ∷ (negated 1000, pos 1732) ∷ []) (none ∷ (negated 520, pos 300) ∷ none ∷ []) (0 ∷ 0 ∷ 0 ∷ 1 ∷ 0 ∷ []))
    ∷ sided 25 (through ((pos 2000, pos 0) ∷ (negated 1000, negated 1732) ∷ (pos 999, pos 1270) ∷ []) (none ∷ none ∷ (pos 520, pos 300) ∷ []) (1 ∷ 32 ∷ 0 ∷ 1 ∷ 0 ∷ []))
    ∷ sided 24 (through ((pos 2000, pos 0) ∷ (negated 1000, negated 1732) ∷ (pos 999, pos 1270) ∷ []) (none ∷ none ∷ (pos 520, pos 300) ∷ []) (0 ∷ 0 ∷ 0 ∷ 1 ∷ 0 ∷ []))
    -- 3V1 is 0: no circle, and off and on
    ∷ sided 0 (through ((negated 200, pos 0) ∷ (pos 100, negated 173) ∷ (pos 100, pos 173) ∷ []) ((pos 0, negated 600) ∷ none ∷ none ∷ []) (0 ∷ 0 ∷ 0 ∷ 1 ∷ 0 ∷ []))
    ∷ sided 1 (through ((negated 200, pos 0) ∷ (pos 100, negated 173) ∷ (pos 100, pos 173) ∷ []) ((pos 0, negated 600) ∷ none ∷ none ∷ []) (1 ∷ 8 ∷ 0 ∷ 1 ∷ 0 ∷ []))
    -- q of B is 0, since its I is; and Ir is 0
    ∷ sided 1000 (through ((pos 600, negated 1500) ∷ (negated 1000, negated 1732) ∷ (negated 1000, pos 1732) ∷ []) ((pos 0, negated 1000) ∷ (pos 0, pos 400) ∷ none ∷ []) (1 ∷ 40 ∷ 1 ∷ 1 ∷ 0 ∷ []))
    ∷ sided 1000 (through ((pos 600, negated 1500) ∷ (negated 1000, negated 1732) ∷ (negated 1000, pos 1732) ∷ []) ((pos 0, negated 600) ∷ (pos 0, pos 600) ∷ none ∷ []) (0 ∷ 0 ∷ 0 ∷ 1 ∷ 0 ∷ []))
    -- phase a operates too; the second zone, which has no part in it
    ∷ sided 25 (record { settings = example_record; phasors = (pos 600, negated 1500) ∷ (negated 1000, negated 1732) ∷ (negated 1000, pos 1732) ∷ (pos 0, negated 600) ∷ none ∷ none ∷ (pos 0, negated 600) ∷ none ∷ none ∷ []; bytes = 1 ∷ 9 ∷ 0 ∷ 1 ∷ 0 ∷ 99 ∷ 0 ∷ 0 ∷ [] })
    ∷ sided 25 (zoned 2000 (leaking (pos 600) (negated 1500) (1 ∷ 8 ∷ 0 ∷ 1 ∷ 1 ∷ [])))
    -- q of B above zero: the line's other side, at the top, and one beyond it
    ∷ sided 10 (turned_round (negated 1000) (1 ∷ 16 ∷ 9 ∷ 1 ∷ 0 ∷ []))
    ∷ sided 10 (turned_round (negated 340) (1 ∷ 0 ∷ 9 ∷ 1 ∷ 0 ∷ []))
    ∷ sided 10 (turned_round (negated 341) (1 ∷ 16 ∷ 9 ∷ 1 ∷ 0 ∷ []))
    ∷ []

-- One claim over all of them.
abbrev pub worked : List Worked
worked = directed ++ balanced ++ changing ++ resistive

abbrev pub WorkedDecisions : Type 0
WorkedDecisions = map (λ x. take 8 (decision x.settings (window_of x.phasors))) worked ≡ map (λ x. x.bytes) worked
