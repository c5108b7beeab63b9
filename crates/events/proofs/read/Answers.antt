use Rattle.std.proofs.Common.{rules}
use Rattle.events.proofs.Calls.{took_wanted}
use Rattle.events.proofs.read.Goals as goal

pub returns : goal.returns
returns c = search (rules, took_wanted, c.in_ok-reading.ensures)
