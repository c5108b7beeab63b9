-- A sum of two products.
use lib.IntN.{◌+ℤ◌}
use Rattle.std.proofs.Common.{rules}
use Rattle.plane.specs.declared.Phasor.{Phasor}
use Rattle.plane.specs.Plane.{dot}
use Rattle.plane.specs.Sizes.{Multiply}
use Rattle.plane.proofs.Steps.{Products, sum, products}
use Rattle.plane.proofs.dot.Goals as goal

steps : {p q : Phasor} → Multiply p q → Products ◌+ℤ◌ p.re q.re p.im q.im
steps h = products sum h.p_inside.real h.q_inside.real h.p_inside.imag h.q_inside.imag h.p_fits h.q_fits h.both_fit

pub overflow_mul-result : goal.overflow_mul-result
overflow_mul-result c = search (rules, steps c.requires)

pub overflow_mul-result-2 : goal.overflow_mul-result-2
overflow_mul-result-2 c = search (rules, steps c.requires)

pub overflow_add-result : goal.overflow_add-result
overflow_add-result c = search (rules, steps c.requires)

pub returns : goal.returns
unfolding dot
returns c = search (rules, steps c.requires)
