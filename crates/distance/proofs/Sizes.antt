-- How large each quantity of the loops is, from the ranges of a good settings record and of phasors within 42000 of zero. So nothing exceeds
-- 64 bits: a reach of 2000 times m, the largest of all, stays below 9007199254740992000.
use mathlib.Core.Path.{◌≡◌}
use lib.IntN.{ℤ, pos, ◌*ℤ◌}
use Rattle.whole.specs.Sizes.{Within}
use Rattle.whole.proofs.Size.{lit, rd}
use Rattle.whole.proofs.Machine.{Read}
use Rattle.plane.specs.declared.Phasor.{Phasor}
use Rattle.plane.specs.declared.Phases.{Phases}
use Rattle.plane.specs.Plane.{plus, minus, minus_j}
use Rattle.plane.specs.Sizes.{Inside, AllInside, phasor_size}
use Rattle.plane.proofs.Bounds.{inside_plus, inside_minus, inside_minus_j, inside_factor, inside_rounded, inside_wider}
use Rattle.plane.proofs.Steps.{product}
use Rattle.settings.specs.Table.{most_reach}
use Rattle.distance.specs.Sizes.{Compensates, LoopInside, residual_size, k_product_size, numerator_size, denominator_size}
use Rattle.direction.specs.Sizes.{polarising_size}
use Rattle.distance.specs.Mho.{residual, k_product}

-- Ia+Ib+Ic
pub residual_inside : {i : Phases Phasor} → AllInside phasor_size i → Inside residual_size (residual i)
unfolding residual
residual_inside i = inside_plus (inside_plus i.inside_a i.inside_b) i.inside_c

-- the k product
pub k_product_inside : {k : Phasor} {i : Phases Phasor} → Compensates k → AllInside phasor_size i → Inside k_product_size (k_product k i)
unfolding k_product
k_product_inside k i = inside_wider (inside_rounded 1000 tt (inside_factor k.real k.imag (residual_inside i))) tt

-- the loops
pub ground_loop_inside :
    {v i k p : Phasor} → Inside phasor_size v → Inside phasor_size i → Inside k_product_size k → Inside polarising_size p
    → LoopInside (record { v = v; i = plus i k; vp = p })
ground_loop_inside v i k p = record { voltage = inside_wider v tt; current = inside_plus i k; polarising = p }

pub phase_loop_inside :
    {vx vy ix iy p : Phasor} → Inside phasor_size vx → Inside phasor_size vy → Inside phasor_size ix → Inside phasor_size iy
    → Inside polarising_size p → LoopInside (record { v = minus vx vy; i = minus ix iy; vp = minus_j p })
phase_loop_inside vx vy ix iy p =
    record { voltage = inside_minus vx vy; current = inside_wider (inside_minus ix iy) tt; polarising = inside_minus_j p }

-- what the machine reads of n, m and a reach, and its two products
pub reach_read : {r : ℤ} → Within most_reach r → Read r ≡ r
reach_read h = rd h tt

pub numerator_read : {n : ℤ} → Within numerator_size n → Read n ≡ n
numerator_read h = rd h tt

pub denominator_read : {m : ℤ} → Within denominator_size m → Read m ≡ m
denominator_read h = rd h tt

pub scaled_read : {n : ℤ} → Within numerator_size n → Read (pos 1000000 *ℤ Read n) ≡ pos 1000000 *ℤ n
scaled_read h = (product (lit (pos 1000000)) h tt tt tt).1

pub reached_read : {r m : ℤ} → Within most_reach r → Within denominator_size m → Read (Read r *ℤ Read m) ≡ r *ℤ m
reached_read r m = (product r m tt tt tt).1

pub ruleset reaches = (reach_read, numerator_read, denominator_read, scaled_read, reached_read)
