-- The paper mill's slope: s = 3600 and U = 8960, so 40960000 s lies between (42 U)² and (43 U)².
use mathlib.Core.Path.{◌≡◌, refl, sym}
use mathlib.Core.Bool.{true}
use Prim.Native.Nat.{ℕ, ◌≤◌}
use native.Mathlib.Nat.{mul-le-mul}
use native.Mathlib.Omega.{arith, by_contra}
use Rattle.whole.specs.Exactly.{Exactly}
use Rattle.whole.specs.Root.{floor_root, root_up}
use Rattle.whole.specs.Sum.{sum_of}
use Rattle.plane.specs.Plane.{plus, dot, squared_magnitude}
use Rattle.phasors.specs.Grid.{total}
use Rattle.differential.specs.Differential.{square, end_restraint, restraint, comparison, operates}
use Rattle.differential.specs.PaperMill.{ends, PaperMill}
use Rattle.differential.proofs.Rule.{operates_rule}
use Rattle.differential.proofs.SlopeOfChange.{one_slope_of_change}

comparison_is : comparison ends 2 ≡ record { square = 3600; restraint = 8960 }
unfolding floor_root root_up sum_of plus dot squared_magnitude total square end_restraint restraint
comparison_is = refl

up_to_42 : (K : ℕ) → Exactly (operates K 1 (comparison ends 2) ≡ true) (K ≤ 42)
up_to_42 K =
    let rule = operates_rule K 1 (record { square = 3600; restraint = 8960 }) in
    rw comparison_is (
      (λ e. by_contra K 42 (λ more. let above : 43 ≤ K = omega arith in omega (arith, (rule.0 e).1, mul-le-mul above above))),
      (λ most. rule.1 (omega arith, omega (arith, mul-le-mul most most))),
    )

pub paper_mill : PaperMill
paper_mill = (up_to_42, sym ((one_slope_of_change 1 42 (comparison ends 2)).0 (omega arith, λ K least most. up_to_42 K)))
