-- What good ends and a good file are.
use Prim.Native.Nat.{ℕ, ◌≤◌}
use mathlib.Core.Path.{◌≡◌, refl}
use mathlib.Core.Bool.{Bool, true, false, ◌&&◌, false≢true}
use native.Mathlib.Omega.{arith}
use Rattle.std.proofs.lemmas.Bool.Decides.{nat_tests}
use Rattle.records.specs.Record.{good_ends, good_file}

pub both : (a b : Bool) → (a && b) ≡ true → (a ≡ true) × (b ≡ true)
both true b t = (refl, t)
both false b t = absurd (false≢true t)

-- what good ends are
pub good_ends_lem : (ends : ℕ) → good_ends ends ≡ true → (2 ≤ ends) × (ends ≤ 6)
good_ends_lem ends t = grind (arith, nat_tests)

pub good_file_lem : (ends status : ℕ) → good_file ends status ≡ true → (2 ≤ ends) × (ends ≤ 6) × (status ≤ 96)
good_file_lem ends status t = grind (arith, nat_tests)
