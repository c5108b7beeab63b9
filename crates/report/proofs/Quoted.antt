-- The quoted lines, by computation.
use mathlib.Core.Path.{refl}
use Rattle.report.specs.Printed.{decimal_from, decimal, printed}
use Rattle.report.specs.Quoted.{Quoted}

pub quoted : Quoted
unfolding decimal_from decimal printed
quoted = record { decided = refl; refused = refl; differs = refl; last = refl }
