-- What a reader will look for in the direction, as statements. proofs/Laws.antt proves each.
use Rattle.std.specs.Prelude.{◌≡◌, List, ℕ, pos, ◌*ℤ◌, ◌≤ℤ◌, ◌<ℤ◌}
use Rattle.whole.specs.Exactly.{Exactly}
use Rattle.settings.specs.Fields.{forward_limit, reverse_limit, negative_sequence_pickup}
use Rattle.plane.specs.declared.Phasor.{Phasor}
use Rattle.plane.specs.Plane as plane
use Rattle.direction.specs.declared.Direction.TheVariants.{None, Forward, Reverse}
use Rattle.direction.specs.Direction.{angle, torque, direction_of}

-- 3I2 reaches its pickup
abbrev pub PickupReached : List ℕ → Phasor → Type 0
PickupReached s i2 = (pos (negative_sequence_pickup s) *ℤ pos (negative_sequence_pickup s)) ≤ℤ plane.squared i2

-- and does not: |3I2|² is below the square of its pickup
abbrev pub BelowPickup : List ℕ → Phasor → Type 0
BelowPickup s i2 = plane.squared i2 <ℤ (pos (negative_sequence_pickup s) *ℤ pos (negative_sequence_pickup s))

-- "Direction is none if |3I2|² is below the square of its pickup", whatever 3V2 is
abbrev pub NoneBelowPickup : Type 0
NoneBelowPickup = (s : List ℕ) (v2 i2 : Phasor) → BelowPickup s i2 → direction_of s v2 i2 ≡ None

-- T < zf |3I2|²
abbrev pub BelowForward : List ℕ → Phasor → Phasor → Type 0
BelowForward s v2 i2 = torque (angle s) v2 i2 <ℤ (forward_limit s *ℤ plane.squared i2)

-- T > zr |3I2|²
abbrev pub AboveReverse : List ℕ → Phasor → Phasor → Type 0
AboveReverse s v2 i2 = (reverse_limit s *ℤ plane.squared i2) <ℤ torque (angle s) v2 i2

-- With zf < zr it is never both.
abbrev pub NeverBoth : Type 0
NeverBoth = (s : List ℕ) (v2 i2 : Phasor) → forward_limit s <ℤ reverse_limit s → BelowForward s v2 i2 → AboveReverse s v2 i2 → ⊥

-- So each direction has its own condition, whichever is tested first.
abbrev pub ForwardRule : Type 0
ForwardRule = (s : List ℕ) (v2 i2 : Phasor) → Exactly (direction_of s v2 i2 ≡ Forward) (PickupReached s i2 × BelowForward s v2 i2)

abbrev pub ReverseRule : Type 0
ReverseRule =
    (s : List ℕ) (v2 i2 : Phasor) → forward_limit s <ℤ reverse_limit s →
    Exactly (direction_of s v2 i2 ≡ Reverse) (PickupReached s i2 × AboveReverse s v2 i2)
