use Rattle.decision.proofs.Cases.{decided_front}
use Rattle.decision.proofs.decide.Goals as goal

pub returns : goal.returns
returns c = decided_front c.requires c.decide_by.ensures
