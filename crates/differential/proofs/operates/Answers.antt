-- The square of K U fits.
use Rattle.std.proofs.Common.{arith}
use native.Mathlib.Nat.{mul-le-mul}
use Rattle.differential.proofs.operates.Goals as goal

pub overflow_mul-result : goal.overflow_mul-result
overflow_mul-result c = let h = mul-le-mul c.requires.0 c.requires.2.restraint_size in omega (arith, mul-le-mul h h)
