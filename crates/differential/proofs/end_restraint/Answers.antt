-- 4096 times a squared magnitude fits.
use Rattle.std.proofs.Common.{arith}
use Rattle.plane.proofs.Laws.{squared_magnitude_most}
use Rattle.differential.proofs.end_restraint.Goals as goal

pub overflow_mul-squared_magnitude : goal.overflow_mul-squared_magnitude
overflow_mul-squared_magnitude c = omega (arith, c.squared_magnitude.ensures, squared_magnitude_most c.requires)
