-- How the restraint grows, end by end, how much an end adds at most, and how large the differential gets.
use mathlib.Core.Path.{◌≡◌}
use Prim.Native.Nat.{ℕ, ◌+◌, ◌*◌, ◌≤◌}
use native.Mathlib.Omega.{arith}
use Rattle.whole.proofs.Roots.{sq_le, floor_root_is, root_up_is}
use Rattle.whole.proofs.Sums.{sum_next}
use Rattle.plane.specs.declared.Phasor.{Phasor}
use Rattle.plane.specs.Plane.{squared_magnitude}
use Rattle.plane.specs.Sizes.{Inside, phasor_size}
use Rattle.plane.proofs.Laws.{squared_magnitude_most}
use Rattle.differential.specs.declared.Comparison.{Comparison}
use Rattle.differential.specs.Differential.{end_restraint, restraint, magnitude}
use Rattle.differential.specs.Sizes.{Sized, end_most, restraint_most}

pub end_most_lem : {i : Phasor} → Inside phasor_size i → end_restraint i ≤ end_most
unfolding end_restraint
end_most_lem {i} h = (root_up_is (4096 * squared_magnitude i)).least end_most (omega (arith, squared_magnitude_most h))

pub restraint_next : (i : ℕ → Phasor) (n : ℕ) → restraint i (n + 1) ≡ restraint i n + end_restraint (i n)
unfolding restraint
restraint_next i n = sum_next (λ e. end_restraint (i e)) n

-- the differential is no larger than the restraint can be
pub magnitude_most : {x : Comparison} → Sized x → magnitude x ≤ restraint_most
unfolding magnitude
magnitude_most {x} h = sq_le _ restraint_most (omega (arith, (floor_root_is (4096 * x.square)).low, h.square_size))
