-- What the loop of `report::put_line` keeps is `SoFar`; each turn of it is a law.
use Rattle.std.specs.Slice.Iter.{iter_rest}
use Rattle.report.specs.Printed.{printed}
use Rattle.report.proofs.Turns.{SoFar}
use Rattle.report.proofs.put_line.Given as goal

abbrev pub invariant-loop-byte : goal.invariant-loop-byte
invariant-loop-byte l = SoFar l.fn.out (printed l.fn.words l.fn.numbers) l.out l.words (iter_rest l.left) l.at l.byte-index
