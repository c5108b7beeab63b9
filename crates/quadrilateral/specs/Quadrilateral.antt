-- Document 02, CR 7: "Quadrilateral ground loops" (source document 002, "Creating Quadrilateral Ground Distance Characteristics"), "V and I as
-- in the mho loops". In these definitions z is Z, r the first reach, R the resistive reach, zi is Z I of a loop and v its V, and ir is
-- "Ir = Ia+Ib+Ic".
use Rattle.std.specs.Prelude.{ℕ, ◌*◌, List, [], ◌∷◌, Bool, not, cond, ◌&&◌, eqb, leb, ℤ, pos, nat_abs}
use Rattle.std.specs.Int.Signed.{lt_z}
use Rattle.whole.specs.Bits.{bits}
use Rattle.plane.specs.declared.Phasor.{Phasor}
use Rattle.plane.specs.declared.Phases.{Phases}
use Rattle.plane.specs.Plane.{minus, times, scaled, cross}
use Rattle.settings.specs.Fields.{reach, resistive_reach}
use Rattle.direction.specs.declared.Direction.{Direction}
use Rattle.direction.specs.Direction.{is_forward}
use Rattle.distance.specs.declared.mho.Loop.{Loop}
use Rattle.distance.specs.declared.mho.SixLoops.{SixLoops}
use Rattle.distance.specs.Constants.{replica}
use Rattle.distance.specs.Mho.{residual}

-- ---- the top and the sides of a ground loop

-- "Im[(rZI - V) Ir*]": r and Z are in thousandths, so V counts 1000000 times
unfoldable pub reactance : ℤ → Phasor → Phasor → Phasor → ℤ
reactance r zi v ir = cross (minus (scaled r zi) (scaled (pos 1000000) v)) ir

-- the top: "Im[(rZI - V) Ir*] > 0"
unfoldable pub below_top : ℤ → Phasor → Phasor → Phasor → Bool
below_top r zi v ir = lt_z (pos 0) (reactance r zi v ir)

-- "n = Im[V (ZI)*]" and "q = Im[Ir (ZI)*]"
abbrev pub n_of : Phasor → Loop → ℤ
n_of z l = cross l.v (times z l.i)

abbrev pub q_of : Phasor → Phasor → Loop → ℤ
q_of z ir l = cross ir (times z l.i)

-- The sides, from |n| and |q|: "q is not zero and ten times |n| is at most R times |q|, R in tenths"
unfoldable pub between_sides : ℕ → ℕ → ℕ → Bool
between_sides R n q = not (eqb q 0) && leb (10 * n) (R * q)

-- A loop sees a fault below its top and between its sides.
unfoldable pub sees : Phasor → ℤ → ℕ → Phasor → Loop → Bool
sees z r R ir l = below_top r (times z l.i) l.v ir && between_sides R (nat_abs (n_of z l)) (nat_abs (q_of z ir l))

-- ---- the three loops

-- which of them see a fault: A 1, B 2, C 4
unfoldable pub seeing : Phasor → ℤ → ℕ → Phasor → SixLoops → ℕ
seeing z r R ir l = bits (sees z r R ir l.ag ∷ sees z r R ir l.bg ∷ sees z r R ir l.cg ∷ [])

-- and by a settings record, with end 1's currents: "0 is off" and "Direction must be forward"
unfoldable pub quadrilaterals_of : List ℕ → Phases Phasor → SixLoops → Direction → ℕ
quadrilaterals_of s i l d =
    cond (not (eqb (resistive_reach s) 0) && is_forward d) (seeing (replica s) (pos (reach s)) (resistive_reach s) (residual i) l) 0
