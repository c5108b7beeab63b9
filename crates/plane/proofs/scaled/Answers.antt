-- Each product is read as the number that it is.
use Rattle.plane.specs.Plane.{scaled}
use Rattle.plane.proofs.Made.{pair}
use Rattle.plane.proofs.Steps.{product}
use Rattle.plane.proofs.scaled.Goals as goal

pub returns : goal.returns
unfolding scaled
returns c = let h = c.requires in pair (product h.0 h.1.real tt tt tt).1 (product h.0 h.1.imag tt tt tt).1
