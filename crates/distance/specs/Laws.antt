-- What a reader will look for in the mho rule, as statements. proofs/Laws.antt proves each.
use Rattle.std.specs.Prelude.{◌≡◌, true, false, ℤ, pos, ◌*ℤ◌, ◌≤ℤ◌, ◌<ℤ◌}
use Rattle.whole.specs.Exactly.{Exactly}
use Rattle.plane.specs.declared.Phasor.{Phasor}
use Rattle.plane.specs.declared.Phases.{Phases}
use Rattle.plane.specs.Plane as plane
use Rattle.direction.specs.Sequence.{positive_sequence}
use Rattle.distance.specs.declared.mho.Loop.{Loop}
use Rattle.distance.specs.declared.mho.Ratio.{Ratio}
use Rattle.distance.specs.Mho.{loops_of, ratio_of, asserts, loop_bits}

-- The denominator is positive and the reach, n over m, is at most the setting: "m > 0 and 1000000 n <= r m"
abbrev pub WithinReach : ℤ → Ratio → Type 0
WithinReach r q = (pos 0 <ℤ q.m) × ((pos 1000000 *ℤ q.n) ≤ℤ (r *ℤ q.m))

-- Demand 2 of a loop, at any reach
abbrev pub MhoRule : Type 0
MhoRule = (r : ℤ) (q : Ratio) → Exactly (asserts r q ≡ true) (WithinReach r q)

-- A loop that asserts at a reach asserts at every larger one.
abbrev pub LargerReach : Type 0
LargerReach = (r r₂ : ℤ) (q : Ratio) → r ≤ℤ r₂ → asserts r q ≡ true → asserts r₂ q ≡ true

-- "Vp=0: no loop asserts."
abbrev pub NoPolarising : Type 0
NoPolarising = (z : Phasor) (r : ℤ) (l : Loop) → l.vp ≡ plane.zero → asserts r (ratio_of z l) ≡ false

-- Nor does one of the six where 3V1 = 0.
abbrev pub NoPositive : Type 0
NoPositive = (z k : Phasor) (r : ℤ) (v i : Phases Phasor) → positive_sequence v ≡ plane.zero → loop_bits z r (loops_of k v i) ≡ 0
