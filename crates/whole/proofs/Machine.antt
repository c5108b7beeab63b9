-- What operations on i64 give, as facts about the numbers.
use mathlib.Core.Path.{◌≡◌}
use mathlib.Core.Bool.{true, false}
use Prim.Native.Nat.{◌^◌, ◌<◌}
use lib.IntN.{ℤ}
use lib.Dec.{not_T}
use lib.Signed.{◌≤ℤ◌, ◌<ℤ◌, le_z, lt_z, lt_z_no, le_z_yes, lt_z_yes, mag}
use borrow.Author.Tests.{not-true}
use denote.Floats.{is_true}
use mir.Syntax.{w64}
use mir.Val.{to_z, of_z}
use mir.Facts.{to_z-of_z}

-- what the machine reads back of a number's bits
abbrev pub Read : ℤ → ℤ
Read z = to_z w64 (of_z w64 z)

-- of a call's result: `back c.f.result c.f.ok`, for `simp`
pub back : (z : ℤ) → mag z < 2 ^ 63 → Read z ≡ z
back z h = to_z-of_z {w = w64} (record { sfits = h })

-- ---- tests: what a branch knows of x < y and of x <= y

pub lt_true : {x y : ℤ} → lt_z x y ≡ true → x <ℤ y
lt_true e = lt_z_yes (rw e tt)

pub lt_false : {x y : ℤ} → lt_z x y ≡ false → y ≤ℤ x
lt_false e = lt_z_no (rw e tt)

pub le_true : {x y : ℤ} → le_z x y ≡ true → x ≤ℤ y
le_true e = le_z_yes (rw e tt)

-- and back: what is known of the numbers decides the test
pub true_lt : {x y : ℤ} → x <ℤ y → lt_z x y ≡ true
true_lt h = is_true _ h.lt

pub false_lt : {x y : ℤ} → (x <ℤ y → ⊥) → lt_z x y ≡ false
false_lt {x} {y} h = not-true (lt_z x y) (is_true _ (not_T (lt_z x y) (λ t. h (lt_z_yes t))))

pub true_le : {x y : ℤ} → x ≤ℤ y → le_z x y ≡ true
true_le h = is_true _ h.le
