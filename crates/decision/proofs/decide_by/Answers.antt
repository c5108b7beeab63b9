use Rattle.decision.proofs.Cases.{decide_0}
use Rattle.decision.proofs.decide_by.Goals as goal

pub returns : goal.returns
returns c = search decide_0
