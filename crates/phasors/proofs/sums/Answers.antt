-- No sum has a sample before the first turn, and one more after each.
use Rattle.std.proofs.Common.{rules, SFits, w16, pos}
use Rattle.std.proofs.Math.Facts.{to_z-of_z}
use Rattle.whole.proofs.Size.{lit}
use Rattle.plane.proofs.Bounds.{inside_along}
use Rattle.phasors.specs.Rate.{cosine, sine}
use Rattle.phasors.specs.Sums.{sample}
use Rattle.phasors.proofs.Weights.{fitted, summed_none, summed_next, inside_next}
use Rattle.phasors.proofs.sums.Goals as goal

pub loop-n-init : goal.loop-n-init
loop-n-init c = record { summed = summed_none _ _ _; inside = record { real = lit (pos 0); imag = lit (pos 0) } }

pub loop-n-preserved : goal.loop-n-preserved
loop-n-preserved c =
    let n = c.loop-n.n in
    let x = sample c.args.window.now c.args.channels c.args.channel in
    let fx : SFits w16 (x n) = search rules in
    let fc : SFits w16 (cosine c.args.coefficients.now n) = search rules in
    let fs : SFits w16 (sine c.args.coefficients.now c.args.shift n) = search rules in
    let e = simp (to_z-of_z fx, to_z-of_z fc, to_z-of_z fs) at c.with_sample-sums.ensures in
    record {
      summed = rw e (summed_next _ _ x n c.loop-n.invariant.summed (fitted fx));
      inside = inside_along e (inside_next n c.loop-n.invariant.inside (fitted fx) (fitted fc) (fitted fs));
    }
