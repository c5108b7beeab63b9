-- c lies between, and the width falls.
use Rattle.differential.proofs.SlopeOfChange.{Between}
use Rattle.differential.proofs.change.slope_of_change.Given as goal

abbrev pub invariant-loop-width : goal.invariant-loop-width
invariant-loop-width l = Between l.pickup l.x l.least l.width

abbrev pub decreases-loop-width : goal.decreases-loop-width
decreases-loop-width l = l.width
