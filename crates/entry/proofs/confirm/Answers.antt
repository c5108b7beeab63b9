-- `entry::confirm`: one law for each way out.
use Rattle.std.proofs.Common.{rules}
use Rattle.entry.proofs.Cases.{confirmed_done, confirmed_refused}
use Rattle.entry.proofs.confirm.Goals as goal
use Rattle.entry.proofs.confirm.Goals.{then-is_ok, else-is_ok}

pub returns : goal.returns
returns c =
    elim
    c.if-is_ok.branch [
      | then-is_ok w ↦ confirmed_done (search rules) (search rules) c.clear.ensures (cc) (cc)
      | else-is_ok w ↦ confirmed_refused (search rules) (search rules) c.clear.ensures (cc) (cc)
    ]
