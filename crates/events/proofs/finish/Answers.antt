use Rattle.std.proofs.Common.{rules}
use Rattle.events.proofs.Finishing.{finish_is}
use Rattle.events.proofs.finish.Goals as goal

pub returns : goal.returns
returns c = search (rules, finish_is)
