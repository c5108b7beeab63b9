-- `whole::floor_root` meets its contract: the root of a quarter, doubled, is the root or one too small. It calls itself, so the need at
-- that call is that a measure falls. The measure is how many calls are left, at most 33 for any 64-bit number.
use mathlib.Core.Path.{◌≡◌}
use Prim.Native.Nat.{ℕ, ◌+◌, ◌-◌, ◌*◌, ◌/◌, ◌^◌, ◌≤◌, ◌<◌}
use native.Mathlib.Nat.{mul-le-mul}
use native.Mathlib.Omega.{arith}
use mir.Syntax.{w64}
use mir.Val.{Fits}
use borrow.Fn.Kinds.{In}
use borrow.Fn.PlainCycle.{Measures, is, falls, and}
use Rattle.whole.specs.Root.{floor_root}
use Rattle.whole.proofs.Roots.{floor_root_means, floor_root_below, floor_root_only}
use Rattle.whole.proofs.Calls.{calls, calls_next}
use Rattle.whole.proofs.floor_root.Reads as floor-root
use Rattle.whole.proofs.floor_root.Kinds as kinds
use Rattle.whole.proofs.+floor_root.Lts-floor_root as lts
use Rattle.whole.proofs.+floor_root.{statement}
use Rattle.whole.proofs.+floor_root.Tie.{close}

abbrev μ_floor_root : Measures 0 kinds.ps ℕ
μ_floor_root κs a = calls a.0

-- what is asked at the entry, where the measure is t, and of what is handed on, whose measure is below t
abbrev at : ℕ → In 0 kinds.ps
at t = and 0 kinds.ps (is 0 kinds.ps μ_floor_root t) floor-root.Pre

abbrev below : ℕ → In 0 kinds.ps
below t = and 0 kinds.ps (falls 0 kinds.ps ◌<◌ μ_floor_root t) floor-root.Pre

-- q is what comes back from the call: its double fits 64 bits, and so does the square of one more
small : {x q : ℕ} → Fits w64 x → q ≡ floor_root (x / 4) → 2 * q + 1 ≤ 2 ^ 32 - 1
small f e = omega (arith, floor_root_below e (2 ^ 31) (omega arith))

pub +floor_root_spec : {M : Type 1} → statement M
+floor_root_spec =
    close
    μ_floor_root
    λ t. lts.spec
    (below t, floor-root.Post) (at t) floor-root.Post
    (λ c κs. omega (arith, calls_next c.before.args.x (omega arith)))
    (λ c. omega (arith, small c.before.before.ranges.x c.floor_root-r.ensures))
    (λ c. omega (arith, small c.before.before.ranges.x c.floor_root-r.ensures))
    (λ c. omega (arith, small c.before.before.ranges.x c.floor_root-r.ensures))
    (λ c. let h = small c.before.before.ranges.x c.floor_root-r.ensures in omega (arith, mul-le-mul h h))
    (λ c. omega (arith, small c.before.before.before.ranges.x c.before.floor_root-r.ensures))
    (λ c. floor_root_only (omega arith))
    (λ c. floor_root_only (omega (arith, floor_root_means c.before.floor_root-r.ensures)))
    (λ c. floor_root_only (omega (arith, floor_root_means c.before.floor_root-r.ensures)))
