-- Both sums over the ends passed. The differential is within 42000 for each of them, which bounds s.
use Rattle.std.proofs.Common.{◌≡◌, ◌*◌, ◌≤◌}
use Rattle.phasors.specs.Grid.{cell, total}
use Rattle.differential.specs.Differential.{restraint}
use Rattle.differential.specs.Sizes.{end_most}
use Rattle.differential.proofs.of_phase.Given as goal

abbrev pub invariant-loop-e : goal.invariant-loop-e
invariant-loop-e l = record {
  sum_is : l.sum ≡ total (cell l.grid l.p) l.e;
  restraint_is : l.restraint ≡ restraint (cell l.grid l.p) l.e;
  restraint_size : l.restraint ≤ end_most * l.e;
}
