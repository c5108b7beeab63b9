-- Laws of `Written`: when it holds, and that it leaves one result.
use Prim.Native.Nat.{ℕ, ◌+◌, ◌≤◌}
use mathlib.Core.Path.{◌≡◌, sym}
use mathlib.Core.List.{List}
use native.Mathlib.Omega.{arith}
use lib.ListN.{length, length-append}
use lib.Seq.{length-take-le}
use Rattle.lent.specs.Lent.{over}
use Rattle.report.specs.Written.{Written, OneWritten}

-- where there is room, what is written lies inside
pub written : {out text after : List ℕ} {at end : ℕ} → at + length text ≤ length out → end ≡ at + length text → after ≡ over out at text → Written out at text end after
written {out} {text} {after} {at} {end} room e b =
    let l : end ≤ length after = rw b (simp (length-append, length-take-le at out (omega arith)) (omega arith)) in
    record { ends = e; buffer = b; inside = (l, sym (length-take-le end after l)) }

pub one_written : OneWritten
one_written out at text end end' after after' a b = (omega arith, cc)
