-- Rounding and the roots: each is what it means, and nothing else is.
use Rattle.whole.proofs.Rounding.{round_is, round_unique}
use Rattle.whole.proofs.Roots.{floor_root_is, floor_root_unique, root_up_is, root_up_unique}
use Rattle.claims.specs.Underneath.{RoundedOnce, RootsOnce}

pub rounded_once : RoundedOnce
rounded_once d above even A y = (λ r. round_unique r (round_is d above even A), λ e. rw e (round_is d above even A))

pub roots_once : RootsOnce
roots_once n r =
    ((λ h. floor_root_unique h (floor_root_is n), λ e. rw e (floor_root_is n)), (λ h. root_up_unique h (root_up_is n), λ e. rw e (root_up_is n)))
