-- A difference of two products.
use lib.IntN.{◌-ℤ◌}
use Rattle.std.proofs.Common.{rules}
use Rattle.plane.specs.declared.Phasor.{Phasor}
use Rattle.plane.specs.Plane.{cross}
use Rattle.plane.specs.Sizes.{Multiply}
use Rattle.plane.proofs.Steps.{Products, difference, products}
use Rattle.plane.proofs.cross.Goals as goal

steps : {p q : Phasor} → Multiply p q → Products ◌-ℤ◌ p.im q.re p.re q.im
steps h = products difference h.p_inside.imag h.q_inside.real h.p_inside.real h.q_inside.imag h.p_fits h.q_fits h.both_fit

pub overflow_mul-result : goal.overflow_mul-result
overflow_mul-result c = search (rules, steps c.requires)

pub overflow_mul-result-2 : goal.overflow_mul-result-2
overflow_mul-result-2 c = search (rules, steps c.requires)

pub overflow_sub-result : goal.overflow_sub-result
overflow_sub-result c = search (rules, steps c.requires)

pub returns : goal.returns
unfolding cross
returns c = search (rules, steps c.requires)
