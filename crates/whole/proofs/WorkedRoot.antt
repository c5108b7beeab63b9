-- The root of 8192, call by call, as docs/HAND-CHECKS.md works it out: what each call is asked, what each answers, how many there are, and
-- the root rounded up.
use mathlib.Core.Path.{◌≡◌, refl}
use mathlib.Core.List.{List, [], ◌∷◌, map}
use Prim.Native.Nat.{ℕ, zero, suc, ◌/◌}
use Rattle.whole.specs.Root.{floor_root, root_up}
use Rattle.whole.proofs.Calls.{calls}

-- a number, a quarter of it, a quarter of that, and so on: so many of them
abbrev quarters : ℕ → ℕ → List ℕ
quarters zero n = []
quarters (suc k) n = n ∷ quarters k (n / 4)

pub record CallByCall : Type 0 where
  pub how_many : calls 8192 ≡ 8
  pub asked : quarters 8 8192 ≡ 8192 ∷ 2048 ∷ 512 ∷ 128 ∷ 32 ∷ 8 ∷ 2 ∷ 0 ∷ []
  pub answered : map floor_root (quarters 8 8192) ≡ 90 ∷ 45 ∷ 22 ∷ 11 ∷ 5 ∷ 2 ∷ 1 ∷ 0 ∷ []
  pub rounded_up : root_up 8192 ≡ 91

pub call_by_call : CallByCall
unfolding calls floor_root root_up
call_by_call = record { how_many = refl; asked = refl; answered = refl; rounded_up = refl }
