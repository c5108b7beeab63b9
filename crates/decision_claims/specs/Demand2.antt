-- Demand 2 (document 01, "Decision record"; document 02, CR 2, "All demands cover both zones", CR 4, "The trip line in the decision
-- table is amended", CR 6, and CR 7, "any of them sets trip"): every quantity in a decision equals its definition. In all definitions s is
-- the settings record in force, w the window's numbers, d what the buffer holds after the call, and phases a, b, c are 0, 1, 2.
use Rattle.std.specs.Prelude.{ℕ, ◌+◌, ◌*◌, ◌≤◌, ◌<◌, ◌≡◌, ◌⊎◌, List, [], ◌∷◌, ◌++◌, ℤ, pos, drop, get_or}
use Rattle.whole.specs.Exactly.{Exactly}
use Rattle.whole.specs.Root.{floor_root}
use Rattle.decision_claims.specs.Bits.{BitsTell, AnyOf, AllOf}
use Rattle.plane.specs.declared.Phasor.{Phasor}
use Rattle.phasors.specs.Grid.{current}
use Rattle.settings.specs.Fields.{ends, slope, pickup, reach, second_reach, resistive_reach}
use Rattle.direction.specs.Sequence.{negative_sequence}
use Rattle.distance.specs.Constants.{replica}
use Rattle.distance.specs.declared.mho.Loop.{Loop}
use Rattle.distance.specs.declared.mho.SixLoops.{SixLoops}
use Rattle.distance.specs.Mho.{residual, ratio_of}
use Rattle.direction.specs.Laws.{PickupReached, BelowPickup, BelowForward, AboveReverse}
use Rattle.distance.specs.Laws.{WithinReach}
use Rattle.quadrilateral.specs.Laws.{Seen}
use Rattle.differential.specs.Differential.{square, restraint, comparison}
use Rattle.differential.specs.Laws.{OperatesBy, ExactlyUpTo}
use Rattle.decision.specs.Decision.{decision_length, rate_of, voltages, currents_of_end1, loops_at}
use Rattle.claims.specs.Decisions.{Decision}

-- ---- what document 01 says of a window

-- The phasors of a phase's ends
abbrev pub phase_currents : List ℕ → List ℤ → ℕ → ℕ → Phasor
phase_currents s w p = current (rate_of s) w (ends s) p

-- s and U of a phase
abbrev pub square_of : List ℕ → List ℤ → ℕ → ℕ
square_of s w p = square (phase_currents s w p) (ends s)

abbrev pub restraint_of : List ℕ → List ℤ → ℕ → ℕ
restraint_of s w p = restraint (phase_currents s w p) (ends s)

-- "The phase operates exactly when s >= pickup² and 40960000 s > (K U)²", at a slope K, with all else as in the record
abbrev pub OperatesAt : List ℕ → List ℤ → ℕ → ℕ → Type 0
OperatesAt s w p K = OperatesBy K (pickup s) (comparison (phase_currents s w p) (ends s))

-- at its own
abbrev pub Operates : List ℕ → List ℤ → ℕ → Type 0
Operates s w p = OperatesAt s w p (slope s)

abbrev pub phase_facts : List ℕ → List ℤ → List (Type 0)
phase_facts s w = Operates s w 0 ∷ Operates s w 1 ∷ Operates s w 2 ∷ []

-- "a number c from 0 to 99 ..: with all else equal the phase operates exactly for slopes 1 to c" (document 02, CR 6)
abbrev pub ChangesAt : List ℕ → List ℤ → ℕ → ℕ → Type 0
ChangesAt s w p c = (c ≤ 99) × ExactlyUpTo c (OperatesAt s w p)

-- "the loop asserts exactly when m > 0 and 1000000 n <= r m", at the reach r
abbrev pub Asserts : List ℕ → ℕ → Loop → Type 0
Asserts s r l = WithinReach (pos r) (ratio_of (replica s) l)

abbrev pub six_loops : List ℕ → List ℤ → SixLoops
six_loops s w = loops_at s (voltages s w) (currents_of_end1 s w)

-- AB, BC, CA, at the reach r
abbrev pub phase_loop_facts : List ℕ → List ℤ → ℕ → List (Type 0)
phase_loop_facts s w r = Asserts s r (six_loops s w).ab ∷ Asserts s r (six_loops s w).bc ∷ Asserts s r (six_loops s w).ca ∷ []

-- AG, BG, CG, and these
abbrev pub loop_facts : List ℕ → List ℤ → ℕ → List (Type 0)
loop_facts s w r =
    Asserts s r (six_loops s w).ag ∷ Asserts s r (six_loops s w).bg ∷ Asserts s r (six_loops s w).cg ∷ phase_loop_facts s w r

-- "forward if T < zf |3I2|²", where 3I2 reaches its pickup
abbrev pub DirectionForward : List ℕ → List ℤ → Type 0
DirectionForward s w = PickupReached s (negative_sequence (currents_of_end1 s w)) × BelowForward s (negative_sequence (voltages s w)) (negative_sequence (currents_of_end1 s w))

-- "reverse if T > zr |3I2|²"
abbrev pub DirectionReverse : List ℕ → List ℤ → Type 0
DirectionReverse s w = PickupReached s (negative_sequence (currents_of_end1 s w)) × AboveReverse s (negative_sequence (voltages s w)) (negative_sequence (currents_of_end1 s w))

-- "|3I2|² is below its pickup squared"
abbrev pub Balanced : List ℕ → List ℤ → Type 0
Balanced s w = BelowPickup s (negative_sequence (currents_of_end1 s w))

-- "0 is off" and "Direction must be forward" (document 02, CR 7)
abbrev pub Watching : List ℕ → List ℤ → Type 0
Watching s w = (resistive_reach s ≡ 0 → ⊥) × DirectionForward s w

-- and "Im[(rZI - V) Ir*] > 0", with the first reach; "q is not zero and ten times |n| is at most R times |q|"
abbrev pub SeesResistive : List ℕ → List ℤ → Loop → Type 0
SeesResistive s w l = Watching s w × Seen (replica s) (pos (reach s)) (resistive_reach s) (residual (currents_of_end1 s w)) l

-- of A, B and C
abbrev pub quadrilateral_facts : List ℕ → List ℤ → List (Type 0)
quadrilateral_facts s w =
    SeesResistive s w (six_loops s w).ag ∷ SeesResistive s w (six_loops s w).bg ∷ SeesResistive s w (six_loops s w).cg ∷ []

-- "direction is forward and any loop asserts", at the first reach: the second zone "does not trip"
abbrev pub TripsForward : List ℕ → List ℤ → Type 0
TripsForward s w = DirectionForward s w × AnyOf (loop_facts s w (reach s))

-- "if |3I2|² is below its pickup squared and AB, BC and CA all assert in the first zone" (document 02, CR 4)
abbrev pub TripsBalanced : List ℕ → List ℤ → Type 0
TripsBalanced s w = Balanced s w × AllOf (phase_loop_facts s w (reach s))

-- by the loops: one of these two, or a quadrilateral
abbrev pub TripsByDistance : List ℕ → List ℤ → Type 0
TripsByDistance s w = TripsForward s w ⊎ (TripsBalanced s w ⊎ AnyOf (quadrilateral_facts s w))

-- "any phase operates", or one of these
abbrev pub Trips : List ℕ → List ℤ → Type 0
Trips s w = AnyOf (phase_facts s w) ⊎ TripsByDistance s w

-- ---- and what the bytes of a decision tell of it

abbrev pub byte : List ℕ → ℕ → ℕ
byte d k = get_or d k 0

-- the 32-bit big-endian number at an offset
abbrev pub word_at : List ℕ → ℕ → ℕ
word_at d k = ((byte d k * 256 + byte d (k + 1)) * 256 + byte d (k + 2)) * 256 + byte d (k + 3)

pub record Tells (s : List ℕ) (w : List ℤ) (d : List ℕ) : Type 0 where
  -- byte 0: 1, else 0
  pub trip : Exactly (byte d 0 ≡ 1) (Trips s w)
  pub no_trip : Exactly (byte d 0 ≡ 0) (Trips s w → ⊥)
  -- byte 1: "phases a=1, b=2, c=4", and "Bits 8, 16 and 32 .. report A, B and C" (document 02, CR 7)
  pub phase_bits : BitsTell (byte d 1) 0 (phase_facts s w ++ quadrilateral_facts s w)
  pub three_and_three : byte d 1 < 64
  -- byte 2: "loops AG 1, BG 2, CG 4, AB 8, BC 16, CA 32"
  pub loop_bits : BitsTell (byte d 2) 0 (loop_facts s w (reach s))
  pub six_bits : byte d 2 < 64
  -- byte 3: "0 none, 1 forward, 2 reverse"
  pub forward : Exactly (byte d 3 ≡ 1) (DirectionForward s w)
  pub reverse : Exactly (byte d 3 ≡ 2) (DirectionReverse s w)
  pub none : Exactly (byte d 3 ≡ 0) ((DirectionForward s w → ⊥) × (DirectionReverse s w → ⊥))
  -- byte 4: the same loops at the second reach, and 0 where that is off (document 02, CR 2)
  pub second_zone_bits : (second_reach s ≡ 0 → ⊥) → BitsTell (byte d 4) 0 (loop_facts s w (second_reach s))
  pub second_six_bits : byte d 4 < 64
  pub second_zone_off : second_reach s ≡ 0 → byte d 4 ≡ 0
  -- 5 to 7: c of a, b, c
  pub changes : (p : ℕ) → p < 3 → ChangesAt s w p (byte d (5 + p))
  -- 8 to 19: "U of a, b, c"
  pub restraints : (p : ℕ) → p < 3 → word_at d (8 + 4 * p) ≡ restraint_of s w p
  -- 20 to 31: "floor of the root of 4096 s, for a, b, c"
  pub magnitudes : (p : ℕ) → p < 3 → word_at d (20 + 4 * p) ≡ floor_root (4096 * square_of s w p)

-- Every decision tells that, by the record in force, and left the later bytes.
abbrev pub Demand2 : Type 0
Demand2 =
    (s : List ℕ) (w : List ℤ) (out d : List ℕ) → Decision s w out d → Tells s w d × (drop decision_length d ≡ drop decision_length out)
