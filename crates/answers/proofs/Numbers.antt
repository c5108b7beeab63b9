-- `Ok` is the one answer whose number is 0; every number is below 256, so that the number and the place can be told apart.
use Prim.Native.Nat.{◌<◌}
use mathlib.Core.Path.{◌≡◌}
use mathlib.Core.Bool.{Bool, true, false}
use native.Mathlib.Omega.{arith}
use lib.Dec.{eqb}
use Rattle.std.proofs.lemmas.Bool.Decides.{nat_tests}
use Rattle.std.specs.Prelude.{Ok}
use Rattle.answers.specs.Answers.{Answer, number, given_back, is_done}

pub done_is : (a : Answer) → is_done a ≡ true → a ≡ Ok tt
done_is a t = grind (arith, nat_tests)

-- done is to have the number 0
pub done_number : (a : Answer) → is_done a ≡ eqb (number a) 0
done_number a = grind (arith, nat_tests)

pub zero_is : (a : Answer) → given_back a ≡ 0 → a ≡ Ok tt
zero_is a z = grind (arith, nat_tests)

-- So a call is answered 0 exactly where it is done.
pub done_zero : (a : Answer) → is_done a ≡ true → given_back a ≡ 0
done_zero a t = grind (arith, nat_tests)

pub refused_not_zero : (a : Answer) → is_done a ≡ false → given_back a ≡ 0 → ⊥
refused_not_zero a t z = grind (arith, nat_tests)

-- a test that cannot hold
pub else_false : (b : Bool) → (b ≡ true → ⊥) → b ≡ false
else_false b f = grind (arith, nat_tests)

pub not_zero_refused : (a : Answer) → (given_back a ≡ 0 → ⊥) → is_done a ≡ false
not_zero_refused a f = grind (arith, nat_tests)

pub number_small : (a : Answer) → number a < 256
number_small a = grind arith
