-- One magnitude: how far the rounded-up root of a rounded phasor can be from the magnitude of the unrounded sums. Everything here is in
-- sixty-fourths of a count, times the divisor d. Rounding leaves a phasor in a square of side d about the sums, whose corner is at most c
-- from its middle: the triangle inequality moves a magnitude by at most that, and the root adds less than d.
use mathlib.Core.Path.{◌≡◌, refl, sym}
use mathlib.Core.List.{[], ◌∷◌}
use Prim.Native.Nat.{ℕ, zero, suc, ◌+◌, ◌*◌, ◌/◌, ◌≤◌, ◌<◌}
use native.Mathlib.Omega.{arith, by_contra}
use lib.IntN.{ℤ, pos, ◌-ℤ◌, ◌*ℤ◌}
use lib.Signed.{◌≤ℤ◌, ◌<ℤ◌}
use Rattle.whole.proofs.Certificate.{quo, le!, g_le, g_lt, g_num, g_sq, ◌⊞◌, ◌⊠◌}
use Rattle.whole.proofs.Order.{le_ℤ, lt_ℤ, le_ℕ}
use Rattle.plane.proofs.Triangle.{len_add, len_neg, len_scale, len_root}
use Rattle.whole.specs.Round.{Near}
use Rattle.whole.specs.Root.{root_up}
use Rattle.whole.proofs.Roots.{floor_root_is, root_up_is}
use Rattle.plane.specs.declared.Phasor.{Phasor}
use Rattle.plane.specs.Plane.{NearTo, minus, scaled, dot, squared, squared_magnitude}
use Rattle.plane.specs.Sizes.{Long}
use Rattle.plane.proofs.Laws.{squared_magnitude_is}
use Rattle.differential.specs.Differential.{end_restraint}
use Rattle.differential.specs.Demand3.{exact_magnitude}

-- ---- what the roots mean, over the parts

end_reaches : (i : Phasor) → (pos 4096 *ℤ squared i) ≤ℤ (pos (end_restraint i) *ℤ pos (end_restraint i))
unfolding end_restraint
end_reaches i = rw (sym (squared_magnitude_is i)) (le_ℤ (root_up_is (4096 * squared_magnitude i)).enough)

-- 64 times a phasor is at most as long as what it adds to the restraint
pub end_long : (i : Phasor) → Long (scaled (pos 64) i) (end_restraint i)
unfolding scaled dot
end_long i = record {
  nonneg = g_num (end_restraint i);
  square = le! (i.re ∷ i.im ∷ pos (end_restraint i) ∷ []) (g_le (end_reaches i)) (search quo depth 40) tt;
}

-- the number below a root rounded up has a square below its number
root_least : (n v : ℕ) → root_up n ≡ suc v → v * v < n
root_least n v e = by_contra (suc (v * v)) n (λ k. omega (arith, (root_up_is n).least v (omega arith), e))

end_least : (i : Phasor) (v : ℕ) → end_restraint i ≡ suc v → (pos v *ℤ pos v) <ℤ (pos 4096 *ℤ squared i)
unfolding end_restraint
end_least i v e = rw (sym (squared_magnitude_is i)) (lt_ℤ (root_least (4096 * squared_magnitude i) v e))

module _ (m : ℕ) (x : Phasor) where
  pub exact_low : (pos (exact_magnitude m x) *ℤ pos (exact_magnitude m x)) ≤ℤ (pos m *ℤ pos m *ℤ squared x)
  unfolding exact_magnitude
  exact_low = rw (sym (squared_magnitude_is x)) (le_ℤ (floor_root_is (m * m * squared_magnitude x)).low)

  -- m x is at most one longer than the root rounded down
  pub exact_high : Long (scaled (pos m) x) (exact_magnitude m x + 1)
  unfolding exact_magnitude scaled dot
  exact_high =
      let r = exact_magnitude m x in
      let h : (pos m *ℤ pos m *ℤ squared x) <ℤ (pos (r + 1) *ℤ pos (r + 1)) = rw (sym (squared_magnitude_is x)) (lt_ℤ (floor_root_is (m * m * squared_magnitude x)).high) in
      record { nonneg = g_num (r + 1); square = le! (pos m ∷ x.re ∷ x.im ∷ pos r ∷ []) (g_lt h ⊞ g_num 1) (search quo depth 40) tt }

-- ---- the fact about one end

-- c is at least 64 times the corner of the square that rounding by d leaves, which is the root of 2 times half of d
pub record Corner (d c : ℕ) : Type 0 where
  pub reaches : 8192 * (d / 2 * (d / 2)) ≤ c * c

-- how far d i is from x, in sixty-fourths
abbrev pub deviation : ℕ → Phasor → Phasor → Phasor
deviation d x i = scaled (pos 64) (minus x (scaled (pos d) i))

-- rounding moves a number by at most half of d
error_sq : {d : ℕ} {A y : ℤ} → Near d A y → ((A -ℤ pos d *ℤ y) *ℤ (A -ℤ pos d *ℤ y)) ≤ℤ (pos (d / 2) *ℤ pos (d / 2))
error_sq {d} {A} {y} n =
    le! (pos d ∷ pos (d / 2) ∷ A ∷ y ∷ []) (g_le n.low ⊠ g_le n.high) (search quo depth 40) tt

module _ {d c : ℕ} (corner : Corner d c) {x i : Phasor} (near : NearTo d x i) where
  pub deviates : Long (deviation d x i) c
  unfolding scaled minus dot
  deviates = record {
    nonneg = g_num c;
    square =
        le! (pos d ∷ pos (d / 2) ∷ pos c ∷ x.re ∷ x.im ∷ i.re ∷ i.im ∷ [])
        (g_num 4096 ⊠ (g_le (error_sq near.real) ⊞ g_le (error_sq near.imag)) ⊞ g_le (le_ℤ corner.reaches)) (search quo depth 40) tt;
  }

  -- the exact magnitude is at most the corner above what the end adds to the restraint
  pub end_below : (m : ℕ) → 64 * exact_magnitude m x ≤ m * (d * end_restraint i + c)
  unfolding scaled minus dot
  end_below m =
      let l = exact_magnitude m x in
      let both = len_scale (pos m) (g_num m) (len_add (len_scale (pos d) (g_num d) (end_long i)) deviates) in
      le_ℕ
      (len_root (pos (64 * l)) both
      (le! (pos m ∷ pos d ∷ x.re ∷ x.im ∷ i.re ∷ i.im ∷ pos l ∷ []) (g_num 4096 ⊠ g_le (exact_low m x)) (search quo depth 40) tt))

  -- what the end adds to the restraint is at most the corner and one sixty-fourth above the exact magnitude
  pub end_above : (m : ℕ) → m * (d * end_restraint i) ≤ 64 * (exact_magnitude m x + 1) + m * (c + d)
  unfolding scaled minus dot
  end_above m = by_root (end_restraint i) (end_least i)
    where
      by_root :
          (u : ℕ) → ((v : ℕ) → u ≡ suc v → (pos v *ℤ pos v) <ℤ (pos 4096 *ℤ squared i)) →
          m * (d * u) ≤ 64 * (exact_magnitude m x + 1) + m * (c + d)
      by_root zero least = omega arith
      by_root (suc v) least =
          let l = exact_magnitude m x in
          let back = len_add (len_scale (pos 64) (g_num 64) (exact_high m x)) (len_neg (len_scale (pos m) (g_num m) deviates)) in
          let below : m * (d * v) ≤ 64 * (l + 1) + m * c =
          le_ℕ
          (len_root (pos (m * (d * v))) back
          (le! (pos m ∷ pos d ∷ x.re ∷ x.im ∷ i.re ∷ i.im ∷ pos v ∷ pos l ∷ [])
          (g_sq (pos m *ℤ pos d) ⊠ (g_lt (least v refl) ⊞ g_num 1)) (search quo depth 40) tt)) in
          omega arith
