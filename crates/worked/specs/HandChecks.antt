-- Document 01, "Hand checks": "P marks the proved set, one table with a single claim over it." Here are the kinds of check, what each says in
-- document 01's definitions, the table, and the claim.
use Rattle.std.specs.Prelude.{ℕ, ◌≡◌, List, [], ◌∷◌, Bool, true, false, cond, eqb, ℤ, pos, length, get_or, Ok}
use Rattle.whole.specs.TwosComplement.{unsigned}
use Rattle.plane.specs.declared.Phasor.{Phasor}
use Rattle.phasors.specs.Rate.{cosine, cosines}
use Rattle.phasors.specs.Sums.{phasor_of}
use Rattle.settings.specs.Record.{negated}
use Rattle.settings.specs.Table.{offset_of, forward_limit_row, negative_sequence_pickup_row}
use Rattle.settings.specs.Check.{checked}
use Rattle.settings.specs.Fields.{forward_limit, negative_sequence_pickup}
use Rattle.settings.specs.Examples.{example_record, changed}
use Rattle.direction.specs.declared.Direction.{Direction}
use Rattle.direction.specs.declared.Direction.TheVariants.{None, Forward}
use Rattle.distance.specs.declared.mho.Loop.{Loop}
use Rattle.direction.specs.Sequence.{negative_sequence}
use Rattle.direction.specs.Direction.{angle}
use Rattle.direction.specs.Direction.{reaches_pickup, direction_of}
use Rattle.distance.specs.Mho.{ratio_of, asserts}
use Rattle.decision.specs.Decision.{rate_of}
use Rattle.differential.specs.Differential.{restraint, comparison, operates}

-- ---- the kinds of check

-- A complex number is written as document 01 writes it: (real, imaginary).
abbrev pub Complex : Type 0
Complex = ℤ × ℤ

pub data Check : Type 0 where
  -- the samples x[n] of a channel, and its phasor
  phasor_is : (x : ℕ → ℤ) (p : Complex) → Check
  -- Ia, Ib, Ic, and 3I2
  negative_sequence_is : (ia ib ic i2 : Complex) → Check
  -- the end phasors, K, the pickup, and whether the phase operates
  phase_operates : (ends : List Complex) (K pickup : ℕ) (b : Bool) → Check
  -- the end phasors, and U
  restraint_is : (ends : List Complex) (U : ℕ) → Check
  -- V, Vp, Z, I, the reach r, and whether the loop asserts
  loop_asserts : (v vp z i : Complex) (r : ℤ) (b : Bool) → Check
  -- V, Vp, Z, I: the loop asserts at no reach
  loop_never : (v vp z i : Complex) → Check
  -- D and zf of the settings, 3I2, 3V2, and the direction
  direction_is : (d : Complex) (zf : ℤ) (i2 v2 : Complex) (side : Direction) → Check
  -- the settings' pickup of 3I2, 3I2, and whether it passes
  pickup_passes : (pickup : ℕ) (i2 : Complex) (b : Bool) → Check

-- ---- what a check says

abbrev pub phasor : Complex → Phasor
phasor z = record { re = z.0; im = z.1 }

-- One sample x at n, the rest 0
abbrev pub only : ℤ → ℕ → ℕ → ℤ
only x n k = cond (eqb k n) x (pos 0)

-- The phasor of an end, the ends counted from 0
abbrev pub end_phasor : List Complex → ℕ → Phasor
end_phasor ends e = phasor (get_or ends e (pos 0, pos 0))

abbrev pub loop : Complex → Complex → Complex → Loop
loop v vp i = record { v = phasor v; i = phasor i; vp = phasor vp }

-- The settings record of document 01's "Window program" with another zf, and with another pickup of 3I2
abbrev pub with_limit : ℤ → List ℕ
with_limit zf = changed example_record (offset_of forward_limit_row) (unsigned zf)

abbrev pub with_pickup : ℕ → List ℕ
with_pickup pickup = changed example_record (offset_of negative_sequence_pickup_row) pickup

-- A check with settings also says that their record is a good one and that its fields are those of the check.
abbrev pub Holds : Check → Type 0
Holds (phasor_is x p) = phasor_of (rate_of example_record) x ≡ phasor p
Holds (negative_sequence_is ia ib ic i2) = negative_sequence (record { a = phasor ia; b = phasor ib; c = phasor ic }) ≡ phasor i2
Holds (phase_operates ends K pickup b) = operates K pickup (comparison (end_phasor ends) (length ends)) ≡ b
Holds (restraint_is ends U) = restraint (end_phasor ends) (length ends) ≡ U
Holds (loop_asserts v vp z i r b) = asserts r (ratio_of (phasor z) (loop v vp i)) ≡ b
Holds (loop_never v vp z i) = (r : ℤ) → asserts r (ratio_of (phasor z) (loop v vp i)) ≡ false
Holds (direction_is d zf i2 v2 side) =
    (direction_of (with_limit zf) (phasor v2) (phasor i2) ≡ side) × (checked (with_limit zf) ≡ Ok tt)
    × (angle (with_limit zf) ≡ phasor d) × (forward_limit (with_limit zf) ≡ zf)
Holds (pickup_passes pickup i2 b) =
    (reaches_pickup (with_pickup pickup) (phasor i2) ≡ b) × (checked (with_pickup pickup) ≡ Ok tt) × (negative_sequence_pickup (with_pickup pickup) ≡ pickup)

abbrev pub AllHold : List Check → Type 0
AllHold [] = Unit {0}
AllHold (c ∷ cs) = Holds c × AllHold cs

-- ---- the table

abbrev pub hand_checks : List Check
hand_checks =
    -- P1 to P6, one by one: a sample at n, the rest 0
    phasor_is (only (pos 8) 0) (pos 1, pos 0)
    ∷ phasor_is (only (pos 4) 0) (pos 1, pos 0)
    ∷ phasor_is (only (pos 3) 0) (pos 0, pos 0)
    ∷ phasor_is (only (negated 4) 0) (pos 0, pos 0)
    ∷ phasor_is (only (negated 5) 0) (negated 1, pos 0)
    ∷ phasor_is (only (pos 8) 4) (pos 0, negated 1)
    -- P7: only Ib
    ∷ negative_sequence_is (pos 0, pos 0) (pos 0, pos 1000) (pos 0, pos 0) (pos 866, negated 500)
    -- P8: end phasors 100 and -40, pickup 1. P9: the same at 50
    ∷ phase_operates ((pos 100, pos 0) ∷ (negated 40, pos 0) ∷ []) 15 1 true
    ∷ phase_operates ((pos 100, pos 0) ∷ (negated 40, pos 0) ∷ []) 50 1 false
    -- P10: 90 and -30: equal at 50
    ∷ phase_operates ((pos 90, pos 0) ∷ (negated 30, pos 0) ∷ []) 50 1 false
    ∷ phase_operates ((pos 90, pos 0) ∷ (negated 30, pos 0) ∷ []) 49 1 true
    -- P11: (1,1) twice: U, slopes 99 and 100, pickups 2 and 3
    ∷ restraint_is ((pos 1, pos 1) ∷ (pos 1, pos 1) ∷ []) 182
    ∷ phase_operates ((pos 1, pos 1) ∷ (pos 1, pos 1) ∷ []) 99 1 true
    ∷ phase_operates ((pos 1, pos 1) ∷ (pos 1, pos 1) ∷ []) 100 1 false
    ∷ phase_operates ((pos 1, pos 1) ∷ (pos 1, pos 1) ∷ []) 99 2 true
    ∷ phase_operates ((pos 1, pos 1) ∷ (pos 1, pos 1) ∷ []) 99 3 false
    -- P12: reaches 500 and 499
    ∷ loop_asserts (pos 500, pos 0) (pos 1000, pos 0) (pos 0, pos 1000) (pos 0, negated 1000) (pos 500) true
    ∷ loop_asserts (pos 500, pos 0) (pos 1000, pos 0) (pos 0, pos 1000) (pos 0, negated 1000) (pos 499) false
    -- P13: I = (0,1000)
    ∷ loop_never (pos 500, pos 0) (pos 1000, pos 0) (pos 0, pos 1000) (pos 0, pos 1000)
    -- P14: zf = -499 and -500; pickups 100 and 101
    ∷ direction_is (pos 0, pos 1000) (negated 499) (pos 100, pos 0) (pos 0, negated 50) Forward
    ∷ direction_is (pos 0, pos 1000) (negated 500) (pos 100, pos 0) (pos 0, negated 50) None
    ∷ pickup_passes 100 (pos 100, pos 0) true
    ∷ pickup_passes 101 (pos 100, pos 0) false
    -- no mark: x[n] = C[n]
    ∷ phasor_is (cosine cosines) (pos 16384, pos 0)
    ∷ []

-- The single claim.
abbrev pub HandChecks : Type 0
HandChecks = AllHold hand_checks
