-- How large each quantity of a quadrilateral is, from those of a loop. So nothing exceeds 64 bits.
use Prim.Native.Nat.{◌≤◌}
use lib.IntN.{nat_abs}
use Rattle.whole.specs.Sizes.{Within}
use Rattle.whole.proofs.Size.{wider}
use Rattle.plane.specs.declared.Phasor.{Phasor}
use Rattle.plane.specs.Plane.{times, cross}
use Rattle.plane.specs.Sizes.{Inside}
use Rattle.plane.proofs.Bounds.{inside_times, inside_wider, within_cross}
use Rattle.settings.specs.Table.{most_replica}
use Rattle.distance.specs.Sizes.{loop_voltage_size, loop_current_size, residual_size}
use Rattle.distance.proofs.Sizes.{reach_read}
use Rattle.quadrilateral.specs.Sizes.{drop_size, side_size}

-- Z I
pub drop_inside : {z i : Phasor} → Inside most_replica z → Inside loop_current_size i → Inside drop_size (times z i)
drop_inside z i = inside_times z i

-- V is no larger than a residual current may be
pub voltage_inside : {v : Phasor} → Inside loop_voltage_size v → Inside residual_size v
voltage_inside v = inside_wider v tt

-- |n| and |q|
pub side_within : {p zi : Phasor} → Inside residual_size p → Inside drop_size zi → nat_abs (cross p zi) ≤ side_size
side_within p zi = let h : Within side_size _ = wider (within_cross p zi) tt in h.size

pub ruleset sizes = (drop_inside, voltage_inside, reach_read)
