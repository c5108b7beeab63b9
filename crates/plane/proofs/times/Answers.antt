-- A difference and a sum of two products.
use lib.IntN.{◌+ℤ◌, ◌-ℤ◌}
use Rattle.std.proofs.Common.{rules}
use Rattle.plane.specs.declared.Phasor.{Phasor}
use Rattle.plane.specs.Plane.{times}
use Rattle.plane.specs.Sizes.{Multiply}
use Rattle.plane.proofs.Made.{pair}
use Rattle.plane.proofs.Steps.{Products, sum, difference, products}
use Rattle.plane.proofs.times.Goals as goal

module _ {p q : Phasor} (h : Multiply p q) where
  real : Products ◌-ℤ◌ p.re q.re p.im q.im
  real = products difference h.p_inside.real h.q_inside.real h.p_inside.imag h.q_inside.imag h.p_fits h.q_fits h.both_fit

  imag : Products ◌+ℤ◌ p.re q.im p.im q.re
  imag = products sum h.p_inside.real h.q_inside.imag h.p_inside.imag h.q_inside.real h.p_fits h.q_fits h.both_fit

pub overflow_mul-re : goal.overflow_mul-re
overflow_mul-re c = search (rules, real c.requires)

pub overflow_mul-re-2 : goal.overflow_mul-re-2
overflow_mul-re-2 c = search (rules, real c.requires)

pub overflow_sub-re : goal.overflow_sub-re
overflow_sub-re c = search (rules, real c.requires)

pub overflow_mul-im : goal.overflow_mul-im
overflow_mul-im c = search (rules, imag c.requires)

pub overflow_mul-im-2 : goal.overflow_mul-im-2
overflow_mul-im-2 c = search (rules, imag c.requires)

pub overflow_add-im : goal.overflow_add-im
overflow_add-im c = search (rules, imag c.requires)

pub returns : goal.returns
unfolding times
returns c = pair (real c.requires).is (imag c.requires).is
