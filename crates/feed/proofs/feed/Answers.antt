-- `feed::feed` meets its contract: one law for each way out.
use mathlib.Core.Path.{refl}
use Rattle.std.proofs.Common.{arith}
use Rattle.feed.proofs.Cases.{feed_9, feed_on}
use Rattle.feed.proofs.feed.Goals as goal

pub returns-then-frame-frame_length : goal.returns-then-frame-frame_length
returns-then-frame-frame_length c = feed_9 c.frame_length.ensures.0 c.record.ensures c.if-frame-frame_length.true refl refl refl

pub returns : goal.returns
returns c = feed_on c.frame_length.ensures.0 c.record.ensures c.if-frame-frame_length.false (omega arith) c.kept.ensures
