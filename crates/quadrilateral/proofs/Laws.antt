-- The statements of specs/Laws.antt, proved.
use Prim.Native.Nat.{ℕ, ◌*◌, ◌≤◌}
use mathlib.Core.Path.{◌≡◌, sym, ap, ◌∙◌}
use mathlib.Core.Bool.{not, true≢false, ◌&&◌, and-eq-true_iff}
use mathlib.Core.List.{[], ◌∷◌}
use native.Mathlib.Nat.{mul-le-mul, mul-le-mul_right, le_of_mul-le-mul_right, mul_assoc, le_refl}
use native.Mathlib.Omega.{arith}
use borrow.Author.Tests.{leb-true, le-leb, ne_eqb}
use Rattle.std.proofs.lemmas.Int.{ints, by_lt_z}
use lib.Dec.{eqb, leb}
use lib.IntN.{ℤ, pos, negsuc, nat_abs, ◌-ℤ◌, ◌*ℤ◌}
use lib.Signed.{◌<ℤ◌, lt_z}
use Rattle.whole.specs.Exactly.{Exactly}
use Rattle.whole.proofs.Certificate.{quo, ring!, lt!, false!, g_le, g_lt, g_eq, ◌⊞◌, ◌⊠◌}
use Rattle.whole.proofs.Size.{abs_mul}
use Rattle.whole.proofs.Machine.{lt_true, true_lt}
use Rattle.plane.specs.declared.Phasor.{Phasor}
use Rattle.plane.specs.Plane.{plus, minus, times, scaled, cross}
use Rattle.plane.proofs.Laws.{cross_zero}
use Rattle.quadrilateral.specs.Quadrilateral.{reactance, below_top, n_of, q_of, between_sides, sees}
use Rattle.quadrilateral.specs.Laws.{QuadrilateralRule, NoResidual, LargerResistiveReach, FaultEquation}

-- a number of size 0 is 0
no_size : (z : ℤ) → nat_abs z ≡ 0 → z ≡ pos 0
no_size z e = omega (arith, ints)

pub quadrilateral_rule : QuadrilateralRule
unfolding sees below_top between_sides
quadrilateral_rule z r R ir l = (
  λ e.
      let q = nat_abs (q_of z ir l) in
      let tests = (and-eq-true_iff (lt_z (pos 0) (reactance r (times z l.i) l.v ir)) (not (eqb q 0) && leb (10 * nat_abs (n_of z l)) (R * q))).0 e in
      let sides = (and-eq-true_iff (not (eqb q 0)) (leb (10 * nat_abs (n_of z l)) (R * q))).0 tests.1 in
      record {
        top = lt_true tests.0;
        not_zero = λ o. true≢false (sym sides.0 ∙ rw o);
        sides = leb-true (10 * nat_abs (n_of z l)) (R * q) sides.1;
      },
  λ h.
      let q = nat_abs (q_of z ir l) in
      rw (true_lt h.top, ne_eqb q 0 (λ o. h.not_zero (no_size (q_of z ir l) o)), le-leb (10 * nat_abs (n_of z l)) (R * q) h.sides),
)

pub no_residual : NoResidual
unfolding sees below_top reactance
no_residual z r R l = rw (cross_zero (minus (scaled r (times z l.i)) (scaled (pos 1000000) l.v)))

pub larger_resistive_reach : LargerResistiveReach
larger_resistive_reach z r R R₂ ir l m e =
    let h = (quadrilateral_rule z r R ir l).0 e in
    (quadrilateral_rule z r R₂ ir l).1 (record { top = h.top; not_zero = h.not_zero; sides = omega (arith, h.sides, mul-le-mul m (le_refl (nat_abs (q_of z ir l)))) })

-- ---- a fault by its equation

module _ (r m f : ℤ) (zi v ir : Phasor) (e : scaled (pos 1000000) v ≡ plus (scaled m zi) (scaled f ir)) where
  abbrev q : ℤ
  q = cross ir zi

  -- the top asks for the distance alone
  reactance_is : reactance r zi v ir ≡ (m -ℤ r) *ℤ q
  unfolding reactance cross minus plus scaled
  reactance_is =
      ap (λ (p : Phasor). cross (minus (scaled r zi) p) ir) e
      ∙ ring! (r ∷ m ∷ f ∷ zi.re ∷ zi.im ∷ ir.re ∷ ir.im ∷ []) (search quo depth 40) tt

  -- and the sides for the resistance alone
  n_is : pos 1000000 *ℤ cross v zi ≡ f *ℤ q
  unfolding cross plus scaled
  n_is =
      ring! (v.re ∷ v.im ∷ zi.re ∷ zi.im ∷ []) (search quo depth 40) tt
      ∙ ap (λ (p : Phasor). cross p zi) e ∙ ring! (m ∷ f ∷ zi.re ∷ zi.im ∷ ir.re ∷ ir.im ∷ []) (search quo depth 40) tt

  sizes_are : 1000000 * nat_abs (cross v zi) ≡ nat_abs f * nat_abs q
  sizes_are = sym (abs_mul (pos 1000000) (cross v zi)) ∙ ap nat_abs n_is ∙ abs_mul f q

-- with q below zero: the top
ahead_of_line : (m r q : ℤ) → q <ℤ pos 0 → Exactly (pos 0 <ℤ ((m -ℤ r) *ℤ q)) (m <ℤ r)
ahead_of_line m r q b = (
  λ t. by_lt_z m r (λ h. h) (λ least. absurd (false! (m ∷ r ∷ q ∷ []) (g_lt t ⊞ g_le least ⊠ g_lt b ⊞ g_le least) (search quo depth 40) tt)),
  λ h. lt! (m ∷ r ∷ q ∷ []) (g_lt h ⊠ g_lt b ⊞ g_lt h ⊞ g_lt b) (search quo depth 40) tt,
)

-- and the sides, over |n|, |f| and |q|
within_sides : (R n f q : ℕ) → 1000000 * n ≡ f * q → (q ≡ 0 → ⊥) → Exactly (10 * n ≤ R * q) (f ≤ 100000 * R)
within_sides R n f q e some = (
  λ h. le_of_mul-le-mul_right {m = f} {n = 100000 * R} {k = q} (rw (mul_assoc 100000 R q) (omega (arith, h, e))) (omega (arith, some)),
  λ h. omega (arith, e, rw (mul_assoc 100000 R q) at (mul-le-mul_right q h)),
)

pub fault_equation : FaultEquation
fault_equation z r R ir l m f e b =
    let zi = times z l.i in
    let rule = quadrilateral_rule z r R ir l in
    let line = ahead_of_line m r (q_of z ir l) b in
    let top = reactance_is r m f zi l.v ir e in
    let some : q_of z ir l ≡ pos 0 → ⊥ = λ o. false! (q_of z ir l ∷ []) (g_lt b ⊞ g_eq o (negsuc 0)) (search quo depth 40) tt in
    let sides = within_sides R (nat_abs (n_of z l)) (nat_abs f) (nat_abs (q_of z ir l)) (sizes_are r m f zi l.v ir e) (λ o. some (no_size (q_of z ir l) o)) in (
      λ s. (line.0 (rw top at (rule.0 s).top), sides.0 (rule.0 s).sides),
      λ h. rule.1 (record { top = rw top (line.1 h.0); not_zero = some; sides = sides.1 h.1 }),
    )
