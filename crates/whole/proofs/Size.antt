-- How large a whole number is, and how `Within` goes through sums, differences and products.
-- The bounds are numerals and compute, so that `fit (add (mul p q) (mul r s)) tt` shows that a sum of products fits an i64.
use mathlib.Core.Path.{◌≡◌, refl}
use Prim.Native.Nat.{ℕ, zero, suc, ◌+◌, ◌*◌, ◌-◌, ◌^◌, ◌≤◌}
use native.Mathlib.Nat.{mul-le-mul}
use native.Mathlib.Omega.{arith}
use lib.Dec.{T, leb, ltb, leb→le, ltb→lt}
use lib.IntN.{ℤ, pos, negsuc, neg_ℤ, nat_abs, ◌+ℤ◌, ◌-ℤ◌, ◌*ℤ◌}
use lib.Signed.{◌≤ℤ◌, mag}
use mir.Syntax.{w64}
use mir.Val.{SFits, to_z, of_z}
use mir.Facts.{to_z-of_z}
use Rattle.whole.specs.Sizes.{Within}
use Rattle.whole.proofs.Difference.{up, down, Diff, d_atom, d_neg, d_add, diff, of_le}

-- ---- the absolute value

-- what `nat_abs` and `mag` come to: of a number, and of the opposite of a natural number
pub sizes : (z : ℤ) → (nat_abs z ≡ up z + down z) × (mag z ≤ nat_abs z)
sizes (pos n) = omega arith
sizes (negsuc n) = omega arith

pub neg_sizes : (n : ℕ) → (nat_abs (neg_ℤ (pos n)) ≡ n) × (mag (neg_ℤ (pos n)) ≤ n - 1)
neg_sizes zero = omega arith
neg_sizes (suc n) = omega arith

-- a difference of two natural numbers is no larger than both together
abs_most : {x : ℤ} (d : Diff x) → nat_abs x ≤ d.plus + d.minus
abs_most {x = pos n} d = omega (arith, d.is)
abs_most {x = negsuc n} d = omega (arith, d.is)

pub abs_mul : (x y : ℤ) → nat_abs (x *ℤ y) ≡ nat_abs x * nat_abs y
abs_mul (pos m) (pos n) = refl
abs_mul (pos m) (negsuc n) = (neg_sizes (m * suc n)).0
abs_mul (negsuc m) (pos n) = (neg_sizes (suc m * n)).0
abs_mul (negsuc m) (negsuc n) = refl

-- a number between -b and b is within b of zero
pub abs_of : {b : ℕ} {z : ℤ} → neg_ℤ (pos b) ≤ℤ z → z ≤ℤ pos b → Within b z
abs_of {z = pos n} h k = omega (arith, of_le k (search diff))
abs_of {z = negsuc n} h k = omega (arith, of_le h (search diff))

-- ---- bounds

-- a number is within its own size: `lit (pos 1000)`
pub lit : (z : ℤ) → Within (nat_abs z) z
lit z = omega arith

pub neg : {a : ℕ} {x : ℤ} → Within a x → Within a (neg_ℤ x)
neg {x = x} p = omega (arith, abs_most (d_neg (d_atom x)), sizes x)

pub add : {a b : ℕ} {x y : ℤ} → Within a x → Within b y → Within (a + b) (x +ℤ y)
add {x = x} {y = y} p q = omega (arith, abs_most (d_add (d_atom x) (d_atom y)), sizes x, sizes y)

pub sub : {a b : ℕ} {x y : ℤ} → Within a x → Within b y → Within (a + b) (x -ℤ y)
sub p q = add p (neg q)

pub mul : {a b : ℕ} {x y : ℤ} → Within a x → Within b y → Within (a * b) (x *ℤ y)
mul {x = x} {y = y} p q = record { size = rw (abs_mul x y) (mul-le-mul p.size q.size) }

-- a wider bound: `wider p tt`
pub wider : {a b : ℕ} {x : ℤ} → Within a x → T (leb a b) → Within b x
wider p t = omega (arith, leb→le)

-- the bound of an equal number
pub along : {b : ℕ} {x y : ℤ} → x ≡ y → Within b y → Within b x
along e p = rw e p

-- ---- an i64

-- it fits: `fit p tt`
pub fit : {b : ℕ} {z : ℤ} → Within b z → T (ltb b (2 ^ 63)) → SFits w64 z
fit {z = z} p t = omega (arith, sizes z, ltb→lt)

-- what the machine reads back of its bits: `rd p tt`, for `simp`
pub rd : {b : ℕ} {z : ℤ} → Within b z → T (ltb b (2 ^ 63)) → to_z w64 (of_z w64 z) ≡ z
rd p t = to_z-of_z (fit p t)
