-- A whole number as the difference of two natural numbers, so that `omega` can speak of it.
-- `search diff` reads an expression so, given one `let da = d_atom a in` for each unknown;
-- `d_le`, `d_lt` and `d_eq` then prove a goal over ℤ by `omega`, and `of_le`, `of_lt` and `of_eq` hand it the facts.
use mathlib.Core.Path.{◌≡◌, refl, ap}
use mathlib.Core.Logic.{◌↔◌}
use mathlib.Core.Bool.{true, false, not, cond}
use Prim.Native.Nat.{ℕ, zero, suc, ◌+◌, ◌*◌, ◌-◌, ◌≤◌, ◌<◌}
use native.Mathlib.Omega.{arith}
use lib.Dec.{T, ltb, ltb→lt, nltb→le, leb→le, le→leb}
use lib.IntN.{ℤ, pos, negsuc, neg_ℤ, sub_ℕ, ◌+ℤ◌, ◌*ℤ◌}
use lib.Signed.{◌≤ℤ◌, ◌<ℤ◌}

-- how far a number lies above zero, and how far below
abbrev pub up : ℤ → ℕ
up (pos n) = n
up (negsuc n) = 0

abbrev pub down : ℤ → ℕ
down (pos n) = 0
down (negsuc n) = suc n

-- z is p - m
abbrev pub Is : ℤ → ℕ → ℕ → Type 0
Is z p m = up z + m ≡ p + down z

-- ---- negation, sum and product of differences

pub neg_is : (x : ℤ) → Is (neg_ℤ x) (down x) (up x)
neg_is (pos zero) = refl
neg_is (pos (suc n)) = omega arith
neg_is (negsuc n) = omega arith

sub_is : (a b : ℕ) → Is (sub_ℕ a b) a b
sub_is a b =
    elim (ltb a b) as (λ c. (T c → a < b) → (T (not c) → b ≤ a) → Is (cond c (negsuc (b - suc a)) (pos (a - b))) a b)
    [ true ↦ λ f g. omega (arith, f tt) | false ↦ λ f g. omega (arith, g tt) ] (ltb→lt a b) (nltb→le a b)

pub add_is : (x y : ℤ) → Is (x +ℤ y) (up x + up y) (down x + down y)
add_is (pos a) (pos b) = omega arith
add_is (pos a) (negsuc b) = omega (arith, sub_is a (suc b))
add_is (negsuc a) (pos b) = omega (arith, sub_is b (suc a))
add_is (negsuc a) (negsuc b) = omega arith

pub mul_is : (x y : ℤ) → Is (x *ℤ y) (up x * up y + down x * down y) (up x * down y + down x * up y)
mul_is (pos a) (pos b) = omega arith
mul_is (pos a) (negsuc b) = omega (arith, neg_is (pos (a * suc b)))
mul_is (negsuc a) (pos b) = omega (arith, neg_is (pos (suc a * b)))
mul_is (negsuc a) (negsuc b) = omega arith

-- ---- an expression read as a difference

pub record Diff (z : ℤ) : Type 0 where
  pub plus : ℕ
  pub minus : ℕ
  pub is : Is z plus minus

-- an unknown
abbrev pub d_atom : (z : ℤ) → Diff z
d_atom z = record { plus = up z; minus = down z; is = refl }

abbrev pub d_pos : (n : ℕ) → Diff (pos n)
d_pos n = record { plus = n; minus = 0; is = refl }

abbrev pub d_negsuc : (n : ℕ) → Diff (negsuc n)
d_negsuc n = record { plus = 0; minus = suc n; is = refl }

abbrev pub d_neg : {a : ℤ} → Diff a → Diff (neg_ℤ a)
d_neg {a} x = record { plus = x.minus; minus = x.plus; is = omega (arith, neg_is a) }

abbrev pub d_add : {a b : ℤ} → Diff a → Diff b → Diff (a +ℤ b)
d_add {a} {b} x y = record { plus = x.plus + y.plus; minus = x.minus + y.minus; is = omega (arith, add_is a b) }

abbrev pub d_mul : {a b : ℤ} → Diff a → Diff b → Diff (a *ℤ b)
d_mul {a} {b} x y =
    record {
      plus = x.plus * y.plus + x.minus * y.minus;
      minus = x.plus * y.minus + x.minus * y.plus;
      is = omega (arith, mul_is a b, ap (λ t. t * y.plus) x.is, ap (λ t. t * y.minus) x.is, ap (λ t. up a * t) y.is, ap (λ t. down a * t) y.is);
    }

-- both sides of an equation or of an order: p - m stands to q - n as p + n to q + m
pub record Sides (a b : ℤ) : Type 0 where
  pub lower : ℕ
  pub upper : ℕ
  pub is : up a + down b + upper ≡ up b + down a + lower

abbrev pub d_sides : {a b : ℤ} → Diff a → Diff b → Sides a b
d_sides x y = record { lower = x.plus + y.minus; upper = y.plus + x.minus; is = omega arith }

pub ruleset diff = (d_pos, d_negsuc, d_neg, d_add, d_mul, d_sides)

-- ---- goals and facts between whole numbers, as ones between natural numbers

orders : (x y : ℤ) → ((x ≤ℤ y) ↔ (up x + down y ≤ up y + down x)) × ((x <ℤ y) ↔ (up x + down y < up y + down x))
orders (pos a) (pos b) = omega (arith, leb→le, le→leb)
orders (pos a) (negsuc b) = omega (arith, leb→le, le→leb)
orders (negsuc a) (pos b) = omega (arith, leb→le, le→leb)
orders (negsuc a) (negsuc b) = omega (arith, leb→le, le→leb)

eq_in : (x y : ℤ) → up x + down y ≡ up y + down x → x ≡ y
eq_in (pos a) (pos b) e = ap pos (omega arith)
eq_in (pos a) (negsuc b) e = absurd (omega arith)
eq_in (negsuc a) (pos b) e = absurd (omega arith)
eq_in (negsuc a) (negsuc b) e = ap negsuc (omega arith)

pub d_le : {a b : ℤ} (k : Sides a b) → k.lower ≤ k.upper → a ≤ℤ b
d_le {a} {b} k h = (orders a b).0.1 (omega arith)

pub d_lt : {a b : ℤ} (k : Sides a b) → k.lower < k.upper → a <ℤ b
d_lt {a} {b} k h = (orders a b).1.1 (omega arith)

pub d_eq : {a b : ℤ} (k : Sides a b) → k.lower ≡ k.upper → a ≡ b
d_eq {a} {b} k h = eq_in a b (omega arith)

pub of_le : {a b : ℤ} → a ≤ℤ b → (k : Sides a b) → k.lower ≤ k.upper
of_le {a} {b} h k = omega (arith, (orders a b).0.0 h)

pub of_lt : {a b : ℤ} → a <ℤ b → (k : Sides a b) → k.lower < k.upper
of_lt {a} {b} h k = omega (arith, (orders a b).1.0 h)

pub of_eq : {a b : ℤ} → a ≡ b → (k : Sides a b) → k.lower ≡ k.upper
of_eq e k = omega (arith, ap up e, ap down e)
