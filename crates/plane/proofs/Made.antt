-- Two equal complex numbers, by their parts.
use mathlib.Core.Path.{◌≡◌}
use Rattle.plane.specs.declared.Phasor.{Phasor}

pub pair : {p q : Phasor} → p.re ≡ q.re → p.im ≡ q.im → p ≡ q
pair e f = λ i. record { re = e i; im = f i }
