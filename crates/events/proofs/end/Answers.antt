use Rattle.std.proofs.Common.{arith}
use Rattle.events.proofs.Calls.{cut_at_end}
use Rattle.events.proofs.end.Goals as goal

pub returns : goal.returns
returns c = cut_at_end c.args.reader.now c.in-Some.reader.now c.in-Some.ensures.cases c.in_ok-reading.ensures (omega arith)
