-- `decision::findings_in` meets its contract: the grid is filled from the window, so what is taken from it is what the definitions take from the
-- window.
use Rattle.std.proofs.Common.{arith, ℕ, ◌<◌, List}
use mathlib.Core.Path.{ap, ap₂, ◌∙◌}
use lib.IntN.{ℤ}
use Rattle.phasors.specs.Grid.{voltages_of, local_currents, current}
use Rattle.phasors.proofs.Totals.{filled_local}
use Rattle.differential.specs.Differential.{comparisons, operating_bits, slopes_of_change}
use Rattle.differential.proofs.Filled.{filled_comparisons}
use Rattle.quadrilateral.specs.Quadrilateral.{quadrilaterals_of}
use Rattle.decision.specs.Decision.{rate_of, loops_at, asserting_bits, overreaching_bits, unbalanced_at, direction_at, findings}
use Rattle.decision.proofs.findings_in.Goals as goal

pub returns : goal.returns
unfolding findings
returns c =
    let some : 0 < c.ends-ends.result = omega (arith, c.ends-ends.ensures, c.args.s.good.ends_range.least) in
    let s : List ℕ = c.args.s.bytes.now in
    let w : List ℤ = c.args.window.now in
    let filled = c.currents-grid.ensures.0 in
    let ends = c.ends-ends.ensures in
    let voltages = c.voltages-v.ensures.0 ∙ ap (voltages_of (rate_of s) w) ends in
    let currents = c.local-i.ensures ∙ (filled_local filled c.currents-grid.ensures.1 some).0 ∙ ap (local_currents (rate_of s) w) ends in
    let compared = c.of_phases-comparisons.ensures.0 ∙ filled_comparisons filled ∙ ap (λ k. comparisons (current (rate_of s) w k) k) ends in
    let phases = c.operating_bits-operating.ensures.0 ∙ ap (operating_bits _ _) compared in
    let changes = c.slopes_of_change-changes.ensures ∙ ap (slopes_of_change _) compared in
    let loops = c.loops-loops.ensures.0 ∙ ap₂ (loops_at s) voltages currents in
    let near = c.zones-asserting.ensures.0 ∙ ap (asserting_bits s) loops in
    let further = c.zones-asserting.ensures.1 ∙ ap (overreaching_bits s) loops in
    let unbalanced = c.bearing-unbalanced.ensures.0 ∙ ap (unbalanced_at s) currents in
    let direction = c.bearing-unbalanced.ensures.1 ∙ ap₂ (direction_at s) voltages currents in
    let seeing = c.of_fault-quadrilaterals.ensures.0 ∙ (λ k. quadrilaterals_of s (currents k) (loops k) (direction k)) in (
      λ k. record { operating = phases k; quadrilaterals = seeing k; asserting = near k; overreaching = further k; unbalanced = unbalanced k; direction = direction k; changes = changes k; comparisons = compared k },
      record { three_phases = c.operating_bits-operating.ensures.1; three_quadrilaterals = c.of_fault-quadrilaterals.ensures.1; compared = c.of_phases-comparisons.ensures.1 },
    )
