-- The statements of specs/Laws.antt, proved; what "operates" means is in Rule.antt.
use mathlib.Core.Path.{◌≡◌, refl, ap, ◌∙◌, subst}
use mathlib.Core.Bool.{Bool, true, false}
use mathlib.Core.List.{[], ◌∷◌}
use Prim.Native.Nat.{ℕ, zero, suc, ◌*◌, ◌≤◌}
use native.Mathlib.Nat.{mul-le-mul, le_refl}
use native.Mathlib.Omega.{arith}
use lib.Dec.{lt→ltb}
use lib.IntN.{pos}
use Rattle.whole.specs.Root.{floor_root}
use Rattle.whole.specs.Sum.{sum_of}
use Rattle.whole.proofs.Certificate.{quo, le!, g_le, g_eq, ◌⊞◌}
use Rattle.whole.proofs.Order.{le_ℕ}
use Rattle.whole.proofs.Roots.{sq_le, floor_root_is, root_up_is}
use Rattle.plane.specs.declared.Phasor.{Phasor}
use Rattle.plane.specs.Plane.{scaled, dot, squared_magnitude}
use Rattle.plane.specs.Sizes.{Long}
use Rattle.plane.proofs.Laws.{squared_magnitude_is, squared_magnitude_zero}
use Rattle.phasors.specs.Grid.{total, current}
use Rattle.phasors.proofs.Totals.{long_total, total_scaled}
use Rattle.phasors.proofs.Zero.{phasor_zero, total_zero}
use Rattle.differential.specs.Differential.{square, end_restraint, restraint, comparison}
use Rattle.differential.specs.Laws.{SmallerSlope, NoneAt100, NeverTooSmall, ZeroWindow}
use Rattle.differential.proofs.Rule.{operates_rule}
use Rattle.differential.proofs.OneEnd.{end_long}

pub unless : (b : Bool) → (b ≡ true → ⊥) → b ≡ false
unless true f = absurd (f refl)
unless false f = refl

pub smaller_slope : SmallerSlope
smaller_slope smaller K pickup x less e =
    let h = (operates_rule K pickup x).0 e in
    let fewer : smaller * x.restraint ≤ K * x.restraint = mul-le-mul less (le_refl x.restraint) in
    (operates_rule smaller pickup x).1 (h.0, omega (arith, h.1, mul-le-mul fewer fewer))

-- ---- the sum restraint

-- each end is at most as long as what it adds to the restraint, so the differential is at most as long as U
differential_long : (i : ℕ → Phasor) (n : ℕ) → 4096 * square i n ≤ restraint i n * restraint i n
unfolding square restraint scaled dot
differential_long i n =
    let S = total i n in
    let U = sum_of (λ e. end_restraint (i e)) n in
    let long : Long (scaled (pos 64) S) U =
    subst (λ (p : Phasor). Long p U) (total_scaled (pos 64) i n) (long_total (λ e. scaled (pos 64) (i e)) (λ e. end_restraint (i e)) n (λ e. end_long (i e))) in
    le_ℕ (le! (S.re ∷ S.im ∷ pos U ∷ pos (squared_magnitude S) ∷ []) (g_le long.square ⊞ g_eq (squared_magnitude_is S) (pos 4096)) (search quo depth 40) tt)

pub none_at_100 : NoneAt100
none_at_100 i n pickup =
    unless _ (λ e. omega (arith, ((operates_rule 100 pickup (comparison i n)).0 e).1, differential_long i n))

end_never_too_small : (i : Phasor) (m : ℕ) → floor_root (4096 * (m * m * squared_magnitude i)) ≤ m * end_restraint i
unfolding end_restraint
end_never_too_small i m =
    let q = squared_magnitude i in
    let up = mul-le-mul (le_refl (m * m)) (root_up_is (4096 * q)).enough in
    sq_le _ _ (omega (arith, (floor_root_is (4096 * (m * m * q))).low, up))

pub never_too_small : NeverTooSmall
unfolding restraint sum_of
never_too_small i zero m = omega arith
never_too_small i (suc n) m = omega (arith, never_too_small i n m, end_never_too_small (i n) m)

-- ---- a window of zeros

pub zero_window : ZeroWindow
unfolding square
zero_window rate above w ends p K pickup still =
    let t = lt→ltb 0 rate.divisor above in
    let none = total_zero (current rate w ends p) ends (λ e. phasor_zero rate _ (λ k. still _) t) in
    let s : square (current rate w ends p) ends ≡ 0 = ap squared_magnitude none ∙ squared_magnitude_zero in
    unless _ (λ e. omega (arith, s, ((operates_rule K pickup (comparison (current rate w ends p) ends)).0 e).1))
