-- What a reader will look for in the quadrilateral, as statements. proofs/Laws.antt proves each.
use Rattle.std.specs.Prelude.{ℕ, ◌*◌, ◌≤◌, ◌≡◌, true, false, ℤ, pos, nat_abs, ◌<ℤ◌}
use Rattle.whole.specs.Exactly.{Exactly}
use Rattle.plane.specs.declared.Phasor.{Phasor}
use Rattle.plane.specs.Plane.{zero, plus, times, scaled}
use Rattle.distance.specs.declared.mho.Loop.{Loop}
use Rattle.quadrilateral.specs.Quadrilateral.{reactance, n_of, q_of, sees}

-- "Im[(rZI - V) Ir*] > 0", "q is not zero and ten times |n| is at most R times |q|"
pub record Seen (z : Phasor) (r : ℤ) (R : ℕ) (ir : Phasor) (l : Loop) : Type 0 where
  pub top : pos 0 <ℤ reactance r (times z l.i) l.v ir
  pub not_zero : q_of z ir l ≡ pos 0 → ⊥
  pub sides : 10 * nat_abs (n_of z l) ≤ R * nat_abs (q_of z ir l)

-- Demand 2 of a quadrilateral, at any reach and any resistive reach
abbrev pub QuadrilateralRule : Type 0
QuadrilateralRule = (z : Phasor) (r : ℤ) (R : ℕ) (ir : Phasor) (l : Loop) → Exactly (sees z r R ir l ≡ true) (Seen z r R ir l)

-- Without residual current none sees a fault.
abbrev pub NoResidual : Type 0
NoResidual = (z : Phasor) (r : ℤ) (R : ℕ) (l : Loop) → sees z r R zero l ≡ false

-- One that sees a fault sees it at every larger R.
abbrev pub LargerResistiveReach : Type 0
LargerResistiveReach = (z : Phasor) (r : ℤ) (R R₂ : ℕ) (ir : Phasor) (l : Loop) → R ≤ R₂ → sees z r R ir l ≡ true → sees z r R₂ ir l ≡ true

-- What the four sides are for. Let a fault lie at m thousandths of the replica, and let Ir flow through its resistance, f millionths of a
-- voltage count for a current count: V = m Z I + f Ir, source document 002's Equation 2. Where Z I leads Ir, as it does on an inductive line,
-- the top asks m alone and the sides f alone, whatever load flows: the fault is seen exactly where m is below r and |f| is at most R tenths.
abbrev pub FaultEquation : Type 0
FaultEquation =
    (z : Phasor) (r : ℤ) (R : ℕ) (ir : Phasor) (l : Loop) (m f : ℤ)
    → scaled (pos 1000000) l.v ≡ plus (scaled m (times z l.i)) (scaled f ir) → q_of z ir l <ℤ pos 0
    → Exactly (sees z r R ir l ≡ true) ((m <ℤ r) × (nat_abs f ≤ 100000 * R))
