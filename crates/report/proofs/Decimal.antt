-- The decimal text of a number is the standard library's, which `itoa` writes.
use Prim.Native.Nat.{ℕ, zero, suc, ◌+◌, ◌/◌, ◌%◌, ◌^◌, ◌≤◌, ◌<◌}
use mathlib.Core.Path.{◌≡◌, refl}
use mathlib.Core.List.{List, [], ◌∷◌, ◌++◌}
use native.Mathlib.Omega.{arith}
use borrow.Author.Tests.{lt-ltb, le-ltb}
use Rattle.std.specs.Fmt as std
use Rattle.std.proofs.lemmas.Fmt.{decimal_by_steps}
use Rattle.report.specs.Printed.{decimal, decimal_from}

one_digit : (n : ℕ) → n < 10 → (most : ℕ) → n ≤ most → decimal_from most n ≡ (48 + n) ∷ []
unfolding decimal_from
one_digit n h zero le = refl
one_digit n h (suc f) le = rw (lt-ltb n 10 h)

more_digits :
    (n : ℕ) (ds : List ℕ) → 10 ≤ n → ((most : ℕ) → n / 10 ≤ most → decimal_from most (n / 10) ≡ ds) →
    (most : ℕ) → n ≤ most → decimal_from most n ≡ ds ++ ((48 + n % 10) ∷ [])
unfolding decimal_from
more_digits n ds h rest zero le = absurd (omega arith)
more_digits n ds h rest (suc f) le = rw (le-ltb n 10 h, rest f (omega arith))

pub decimal_text : (n : ℕ) → n < 2 ^ 64 → decimal n ≡ std.decimal n
unfolding decimal
decimal_text n h =
    decimal_by_steps (λ m ds. (most : ℕ) → m ≤ most → decimal_from most m ≡ ds) one_digit more_digits n h n (omega arith)
