-- The sums over the samples passed, none of which adds more than 2 ^ 30.
use Rattle.std.proofs.Common.{◌*◌, ◌^◌}
use Rattle.plane.specs.Sizes.{Inside}
use Rattle.phasors.specs.Sums.{sample}
use Rattle.phasors.specs.Sizes.{Summed}
use Rattle.phasors.proofs.sums.Given as goal

abbrev pub invariant-loop-n : goal.invariant-loop-n
invariant-loop-n l = record {
  summed : Summed l.coefficients l.shift (sample l.window l.channels l.channel) l.n l.sums;
  inside : Inside (2 ^ 30 * l.n) l.sums;
}
