-- `feed::kept` meets its contract: the frame is kept behind the record in force, by which the newest frames are decided on.
use mathlib.Core.Path.{ap, ◌∙◌}
use native.Mathlib.Nat.{sub-zero}
use Rattle.std.proofs.Common.{arith}
use Rattle.samples.specs.Window.{numbers_of}
use Rattle.feed.specs.Feed.{numbers_of_frame}
use Rattle.feed.proofs.Cases.{kept_on, record_holds}
use Rattle.feed.proofs.kept.Goals as goal

pub invariant_of-decide : goal.invariant_of-decide
invariant_of-decide c =
    let p = c.requires in
    record { good = (record_holds _ _ c.frame_length-channels.result (numbers_of c.args.frame.now) _ p.1 p.2 c.keep_bytes-window.ensures.1 p.0).0 }

pub returns : goal.returns
returns c =
    let p = c.requires in
    let counted = c.frame_length-channels.ensures in
    kept_on _ _ _ _ _ _ (counted.0 ∙ ap numbers_of_frame c.record.ensures) counted.1 p.3 c.keep_bytes-window.ensures.0 c.keep_bytes-window.ensures.1
    p.1 p.2 (omega arith) p.4 (sub-zero _) c.decide.ensures
