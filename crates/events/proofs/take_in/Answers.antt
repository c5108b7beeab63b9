use Rattle.std.proofs.Common.{rules}
use Rattle.events.proofs.TakeIn.{took}
use Rattle.events.proofs.take_in.Goals as goal

pub returns : goal.returns
returns c = search (rules, took)
