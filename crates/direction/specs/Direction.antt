-- Document 01, "Sequence quantities and direction" (source document 002, the negative-sequence element): which way the fault is.
use Rattle.std.specs.Prelude.{ℕ, List, Bool, true, false, cond, ℤ, pos, ◌*ℤ◌}
use Rattle.std.specs.Int.Signed.{lt_z, le_z}
use Rattle.settings.specs.Fields.{angle_real, angle_imaginary, forward_limit, reverse_limit, negative_sequence_pickup}
use Rattle.plane.specs.declared.Phasor.{Phasor}
use Rattle.plane.specs.Plane.{times, dot, squared}
use Rattle.direction.specs.declared.Direction.{Direction}
use Rattle.direction.specs.declared.Direction.TheVariants.{None, Forward, Reverse}

-- In these names v2 is 3V2 and i2 is 3I2.

-- D, the line angle
abbrev pub angle : List ℕ → Phasor
angle s = record { re = pos (angle_real s); im = pos (angle_imaginary s) }

-- 3I2 reaches its pickup: |3I2|² is not "below the square of its pickup"
unfoldable pub reaches_pickup : List ℕ → Phasor → Bool
reaches_pickup s i2 = le_z (pos (negative_sequence_pickup s) *ℤ pos (negative_sequence_pickup s)) (squared i2)

-- "T = Re[3V2 (D 3I2)*]"
unfoldable pub torque : Phasor → Phasor → Phasor → ℤ
torque d v2 i2 = dot v2 (times d i2)

-- "forward if T < zf |3I2|², reverse if T > zr |3I2|², else none", for T and for |3I2|². "The paper's calculated Z2 is negative for a
-- forward fault."
unfoldable pub side_of : ℤ → ℤ → ℤ → ℤ → Direction
side_of zf zr t square = cond (lt_z t (zf *ℤ square)) Forward (cond (lt_z (zr *ℤ square) t) Reverse None)

-- The direction by a settings record, from 3V2 and 3I2
unfoldable pub direction_of : List ℕ → Phasor → Phasor → Direction
direction_of s v2 i2 =
    cond (reaches_pickup s i2) (side_of (forward_limit s) (reverse_limit s) (torque (angle s) v2 i2) (squared i2)) None

-- "direction is forward"
abbrev pub is_forward : Direction → Bool
is_forward None = false
is_forward Forward = true
is_forward Reverse = false

-- Document 01, "Decision record": "0 none, 1 forward, 2 reverse"
abbrev pub direction_number : Direction → ℕ
direction_number None = 0
direction_number Forward = 1
direction_number Reverse = 2
