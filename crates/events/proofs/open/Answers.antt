use Rattle.std.proofs.Common.{rules}
use Rattle.events.proofs.Calls.{small_status}
use Rattle.events.proofs.open.Goals as goal

pub overflow_cast-reader-2 : goal.overflow_cast-reader-2
overflow_cast-reader-2 c = search (rules, small_status)
