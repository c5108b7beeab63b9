-- The channels passed so far are written, with their bytes exchanged.
use Rattle.std.proofs.Common.{◌≡◌, ◌*◌, take}
use Rattle.lent.specs.Lent.{over}
use Rattle.records.specs.Record.{swapped}
use Rattle.records.proofs.turn.Given as goal

abbrev pub invariant-loop-i : goal.invariant-loop-i
invariant-loop-i l = l.dst ≡ over l.initial.dst l.at (swapped (take (2 * l.i) l.src))
