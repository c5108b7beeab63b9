-- The pickup's square and |3I2|² are read as they are.
use Rattle.whole.proofs.Size.{rd}
use Rattle.plane.proofs.Bounds.{within_dot}
use Rattle.plane.proofs.Steps.{product}
use Rattle.settings.proofs.Sizes.{pickup_within}
use Rattle.direction.specs.Direction.{reaches_pickup}
use Rattle.direction.proofs.reaches_pickup.Goals as goal

pub returns : goal.returns
unfolding reaches_pickup
returns c =
    let p = pickup_within c.args.s.good in
    let h = c.requires in
    rw (c.square.ensures, c.negative_sequence_pickup-pickup.ensures) (simp ((product p p tt tt tt).1, rd (within_dot h h) tt))
