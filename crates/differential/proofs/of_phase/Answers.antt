-- The sums have one end more after each turn.
use Rattle.std.proofs.Common.{ℕ, ◌<◌, ◌≤◌, List, refl, arith, rules, zero-le}
use Rattle.whole.specs.Sum.{sum_of}
use Rattle.plane.specs.declared.Phasor.{Phasor}
use Rattle.plane.specs.Sizes.{Inside, phasor_size}
use Rattle.plane.proofs.Bounds.{inside_wider}
use Rattle.phasors.specs.Grid.{cell, total}
use Rattle.phasors.specs.Sizes.{GridInside}
use Rattle.differential.specs.Differential.{restraint}
use Rattle.differential.proofs.Phase.{one_more, restrained_more, no_larger, sum_inside, compared}
use Rattle.differential.proofs.of_phase.Goals as goal

-- the currents of one phase
row : (g : List (List Phasor)) (p ends : ℕ) → (p < 3) × (ends ≤ 6) × GridInside g ends → (ends ≤ 6) × ((e : ℕ) → e < ends → Inside phasor_size (cell g p e))
row g p ends h = (h.1, λ e l. h.2 p e h.0 l)

pub loop-e-init : goal.loop-e-init
unfolding total restraint sum_of
loop-e-init c = record { sum_is = refl; restraint_is = refl; restraint_size = zero-le }

pub add-sum-requires : goal.add-sum-requires
add-sum-requires c =
    let h = row c.args.grid.now c.args.p c.args.ends c.requires in
    let sum = sum_inside (cell c.args.grid.now c.args.p) c.args.ends h c.loop-e.invariant.sum_is (omega arith) in
    (inside_wider sum tt, no_larger (cell c.args.grid.now c.args.p) c.loop-e.e refl (h.1 c.loop-e.e c.loop-e-test.true))

pub loop-e-preserved : goal.loop-e-preserved
loop-e-preserved c =
    record {
      sum_is = search (rules, one_more (cell c.args.grid.now c.args.p) c.loop-e.e);
      restraint_is = search (rules, restrained_more (cell c.args.grid.now c.args.p) c.loop-e.e);
      restraint_size = omega arith;
    }

pub squared_magnitude-square-requires : goal.squared_magnitude-square-requires
squared_magnitude-square-requires c =
    let h = row c.args.grid.now c.args.p c.args.ends c.requires in
    inside_wider (sum_inside (cell c.args.grid.now c.args.p) c.args.ends h c.loop-e.invariant.sum_is (omega arith)) tt

pub returns : goal.returns
returns c =
    let h = row c.args.grid.now c.args.p c.args.ends c.requires in
    compared (cell c.args.grid.now c.args.p) c.args.ends h {n = c.loop-e.e} {sum = c.loop-e.sum} (search rules) (search rules) (search rules) (omega arith)
    (search rules)
