-- Two's complement of 16 bits: how a number from 32768 on reads, that the same bits come back, and that std reads it so too.
use Prim.Native.Nat.{ℕ, ◌-◌, ◌<◌, ◌≤◌}
use mathlib.Core.Path.{◌≡◌, refl}
use mathlib.Core.Bool.{true, false, cond}
use native.Mathlib.Omega.{arith}
use borrow.Author.Tests.{ltb-false}
use lib.Dec.{ltb}
use lib.IntN.{ℤ, pos, negsuc, ◌-ℤ◌}
use mir.Syntax.{w16}
use Rattle.std.specs.Int.{cast_signed, cast_unsigned}
use Rattle.whole.specs.TwosComplement.{signed, unsigned}
use Rattle.whole.proofs.Difference.{diff, d_eq}

pub from_32768 : (v : ℕ) → 32768 ≤ v → v < 65536 → pos v -ℤ pos 65536 ≡ negsuc (65535 - v)
from_32768 v h k = d_eq (search diff) (omega arith)

pub unsigned_signed : (v : ℕ) → v < 65536 → unsigned (signed v) ≡ v
unsigned_signed v k =
    elim (ltb v 32768) as (λ b. ltb v 32768 ≡ b → unsigned (cond b (pos v) (pos v -ℤ pos 65536)) ≡ v)
    [ true ↦ λ t. refl | false ↦ λ t. let h = ltb-false v 32768 t in rw (from_32768 v h k) (omega arith) ] refl

-- what std's casts give
pub cast_signed_is : (v : ℕ) → v < 65536 → cast_signed w16 v ≡ signed v
cast_signed_is v k = grind (arith, from_32768 v)

pub cast_unsigned_is : (x : ℤ) → cast_unsigned w16 x ≡ unsigned x
cast_unsigned_is (pos n) = refl
cast_unsigned_is (negsuc n) = omega arith
