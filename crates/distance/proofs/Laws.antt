-- The statements of specs/Laws.antt, proved; and that the k product's rounding is document 01's.
use mathlib.Core.Path.{◌≡◌, refl}
use mathlib.Core.Bool.{true}
use mathlib.Core.List.{[], ◌∷◌}
use Rattle.std.proofs.Common.{arith}
use Rattle.std.proofs.lemmas.Int.{ints}
use lib.IntN.{ℤ, pos, ◌*ℤ◌}
use lib.Signed.{◌≤ℤ◌, ◌<ℤ◌}
use Rattle.whole.specs.Exactly.{Exactly}
use Rattle.whole.specs.Round.{Rounded}
use Rattle.whole.proofs.Certificate.{quo, le!, g_le, g_lt, g_num, ◌⊞◌, ◌⊠◌}
use Rattle.whole.proofs.Order.{≤_trans}
use Rattle.plane.specs.declared.Phasor.{Phasor}
use Rattle.plane.specs.declared.Phases.{Phases}
use Rattle.plane.specs.Plane.{zero, times}
use Rattle.plane.proofs.Laws.{dot_zero, rounded_is, minus_j_zero}
use Rattle.direction.specs.Sequence.{a, a²}
use Rattle.direction.proofs.Laws.{turned_zero}
use Rattle.distance.specs.Mho.{mho, asserts, residual, k_product, ground_loop, phase_loop, loops_of, loop_bits}
use Rattle.distance.specs.Laws.{MhoRule, LargerReach, NoPolarising, NoPositive}

-- what the rule's answer tells, over n and m
mho_means : (r n m : ℤ) → Exactly (mho r n m ≡ true) ((pos 0 <ℤ m) × ((pos 1000000 *ℤ n) ≤ℤ (r *ℤ m)))
unfolding mho
mho_means r n m = (λ e. grind (arith, ints), λ h. grind (arith, ints))

pub mho_rule : MhoRule
unfolding asserts
mho_rule r q = mho_means r q.n q.m

pub larger_reach : LargerReach
larger_reach r r₂ q h e =
    let reached = (mho_rule r q).0 e in
    let m = q.m in
    let further : (r *ℤ m) ≤ℤ (r₂ *ℤ m) = le! (r ∷ r₂ ∷ m ∷ []) (g_le h ⊠ (g_lt reached.0 ⊞ g_num 1)) (search quo depth 40) tt in
    (mho_rule r₂ q).1 (reached.0, ≤_trans reached.1 further)

pub no_polarising : NoPolarising
unfolding asserts mho
no_polarising z r l e = rw (e, dot_zero (times z l.i))

pub no_positive : NoPositive
unfolding loop_bits loops_of ground_loop phase_loop
no_positive z k r v i e =
    let off = no_polarising z r in
    let kp = k_product k i in
    rw (e, turned_zero a, turned_zero a²)
    (rw (
      off (ground_loop v.a i.a kp zero) refl,
      off (ground_loop v.b i.b kp zero) refl,
      off (ground_loop v.c i.c kp zero) refl,
      off (phase_loop v.a v.b i.a i.b zero) minus_j_zero,
      off (phase_loop v.b v.c i.b i.c zero) minus_j_zero,
      off (phase_loop v.c v.a i.c i.a zero) minus_j_zero,
    ))

-- what is rounded is document 01's one whole number
pub k_product_is :
    (k : Phasor) (i : Phases Phasor) → let product = times k (residual i) in
    Rounded 1000 product.re (k_product k i).re × Rounded 1000 product.im (k_product k i).im
unfolding k_product
k_product_is k i = rounded_is 1000 tt refl _
