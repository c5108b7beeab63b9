-- What the machine works out of numbers in range: every step fits, and is the number itself. One operation; and a sum or a difference of two
-- products.
use mathlib.Core.Path.{◌≡◌}
use Prim.Native.Nat.{ℕ, ◌+◌, ◌*◌, ◌^◌}
use native.Mathlib.Omega.{arith}
use lib.Dec.{T, ltb, ltb→lt, lt→ltb}
use lib.IntN.{ℤ, ◌+ℤ◌, ◌-ℤ◌, ◌*ℤ◌}
use mir.Syntax.{w64}
use mir.Val.{SFits}
use Rattle.whole.specs.Sizes.{Within}
use Rattle.whole.proofs.Size.{add, sub, mul, fit, rd}
use Rattle.whole.proofs.Machine.{Read}
use Rattle.plane.specs.declared.Phasor.{Phasor}
use Rattle.plane.specs.Sizes.{Inside, Multiply}

-- an operation on u and v, which the machine has as x and y
pub step :
    (op : ℤ → ℤ → ℤ) {n : ℕ} {x y u v : ℤ} → x ≡ u → y ≡ v → Within n (op u v) → T (ltb n (2 ^ 63)) →
    SFits w64 (op x y) × (Read (op x y) ≡ op u v)
step op e f p t = rw (e, f) (fit p t, rd p t)

pub product :
    {a b : ℕ} {x y : ℤ} → Within a x → Within b y → T (ltb a (2 ^ 63)) → T (ltb b (2 ^ 63)) → T (ltb (a * b) (2 ^ 63)) →
    SFits w64 (Read x *ℤ Read y) × (Read (Read x *ℤ Read y) ≡ x *ℤ y)
product p q ta tb t = step ◌*ℤ◌ (rd p ta) (rd q tb) (mul p q) t

-- a sum or a difference is no larger than both numbers together
pub record Bounded (op : ℤ → ℤ → ℤ) : Type 0 where
  pub bound : {a b : ℕ} {x y : ℤ} → Within a x → Within b y → Within (a + b) (op x y)

pub sum : Bounded ◌+ℤ◌
sum = record { bound = add }

pub difference : Bounded ◌-ℤ◌
difference = record { bound = sub }

-- x y and z w, and then their sum or difference
pub record Products (op : ℤ → ℤ → ℤ) (x y z w : ℤ) : Type 0 where
  pub first : SFits w64 (Read x *ℤ Read y)
  pub second : SFits w64 (Read z *ℤ Read w)
  pub both : SFits w64 (op (Read (Read x *ℤ Read y)) (Read (Read z *ℤ Read w)))
  pub is : Read (op (Read (Read x *ℤ Read y)) (Read (Read z *ℤ Read w))) ≡ op (x *ℤ y) (z *ℤ w)

pub products :
    {op : ℤ → ℤ → ℤ} {a b : ℕ} {x y z w : ℤ} → Bounded op → Within a x → Within b y → Within a z → Within b w →
    T (ltb a (2 ^ 63)) → T (ltb b (2 ^ 63)) → T (ltb (a * b + a * b) (2 ^ 63)) → Products op x y z w
products {op} {a} {b} o p q r s ta tb t =
    let once : T (ltb (a * b) (2 ^ 63)) = lt→ltb (a * b) (2 ^ 63) (omega (arith, ltb→lt (a * b + a * b) (2 ^ 63) t)) in
    let first = product p q ta tb once in let second = product r s ta tb once in
    let both = step op first.1 second.1 (o.bound (mul p q) (mul r s)) t in
    record { first = first.0; second = second.0; both = both.0; is = both.1 }

-- two factors within bounds of which the products fit
pub multiply :
    {a b : ℕ} {p q : Phasor} → Inside a p → Inside b q → T (ltb a (2 ^ 63)) → T (ltb b (2 ^ 63)) → T (ltb (a * b + a * b) (2 ^ 63)) → Multiply p q
multiply {a} {b} h k ta tb t = record { p_most = a; q_most = b; p_inside = h; q_inside = k; p_fits = ta; q_fits = tb; both_fit = t }
