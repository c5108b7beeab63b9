-- `entry::propose`: one law for each way out.
use Rattle.std.proofs.Common.{rules}
use Rattle.entry.proofs.Cases.{proposed_done, proposed_refused}
use Rattle.entry.proofs.propose.Goals as goal

pub returns-then-is_ok : goal.returns-then-is_ok
returns-then-is_ok c = proposed_done (search rules) (search rules) (cc) (search rules)

pub returns-else-is_ok : goal.returns-else-is_ok
returns-else-is_ok c = proposed_refused (search rules) (search rules) (cc) (search rules)
