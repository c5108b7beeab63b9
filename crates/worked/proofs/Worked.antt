-- The worked decisions, by computation.
use mathlib.Core.Path.{refl}
use Rattle.whole.specs.Round.{round_by}
use Rattle.whole.specs.Root.{floor_root, root_up}
use Rattle.whole.specs.Sum.{sum_of}
use Rattle.plane.specs.Plane.{plus, minus, times, scaled, rounded, minus_j, dot, cross, squared_magnitude}
use Rattle.phasors.specs.Sums.{with_sample, sum_to, phasor_of}
use Rattle.phasors.specs.Grid.{total}
use Rattle.direction.specs.Sequence.{turned, sequence}
use Rattle.direction.specs.Direction.{reaches_pickup, torque, side_of, direction_of}
use Rattle.distance.specs.Mho.{residual, k_product, ground_loop, phase_loop, loops_of, mho, asserts, loop_bits}
use Rattle.quadrilateral.specs.Quadrilateral.{reactance, below_top, between_sides, sees, seeing, quadrilaterals_of}
use Rattle.differential.specs.Differential.{square, end_restraint, restraint, operates, operating_bits, counted_up}
use Rattle.decision.specs.Decision.{findings}
use Rattle.worked.specs.Worked.{WorkedDecisions}

pub worked_decisions : WorkedDecisions
unfolding
    findings operating_bits counted_up operates square restraint end_restraint root_up floor_root sum_of total plus minus times scaled dot squared_magnitude rounded round_by minus_j
    phasor_of sum_to with_sample sequence turned residual k_product ground_loop phase_loop loops_of loop_bits asserts mho reaches_pickup torque side_of direction_of
    cross reactance below_top between_sides sees seeing quadrilaterals_of
worked_decisions = refl
