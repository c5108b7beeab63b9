-- `whole::root_up` meets its contract: the root rounded down, and one more unless its square is x itself.
use mathlib.Core.Path.{◌≡◌}
use Prim.Native.Nat.{ℕ, ◌+◌, ◌*◌, ◌^◌, ◌≤◌, ◌<◌}
use native.Mathlib.Omega.{arith}
use borrow.Author.Rules.{rules}
use Rattle.whole.specs.Root.{IsRootUp, floor_root}
use Rattle.whole.proofs.Roots.{sq_lt, floor_root_means, floor_root_below, root_up_is, root_up_unique}
use Rattle.whole.proofs.root_up.Statement.{statement}
use Rattle.whole.proofs.root_up.Tie as tie

module _ {x r : ℕ} (e : r ≡ floor_root x) where
  one_more : r * r < x → IsRootUp x (r + 1)
  one_more h = record { enough = omega (arith, floor_root_means e); least = λ v k. omega (arith, sq_lt r v (omega arith)) }

  exact : x ≤ r * r → IsRootUp x r
  exact h = record { enough = h; least = λ v k. omega (arith, sq_lt r (v + 1) (omega (arith, floor_root_means e))) }

pub root_up_spec : {M : Type 1} → statement M
root_up_spec =
    tie.close
    (tie.spec
    (λ c κs. search rules) (λ c. omega (arith, (floor_root_means c.floor_root-r.ensures).low))
    (λ c. omega (arith, floor_root_below c.before.floor_root-r.ensures (2 ^ 32) (omega arith)))
    (λ c. root_up_unique (one_more c.before.floor_root-r.ensures c.if-r-x.true) (root_up_is _))
    (λ c. root_up_unique (exact c.before.floor_root-r.ensures c.if-r-x.false) (root_up_is _)))
