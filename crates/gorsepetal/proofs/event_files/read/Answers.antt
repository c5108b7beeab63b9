-- `gorsepetal::event_files::read` meets its contract: one law for each thing that a piece comes to.
use Rattle.std.proofs.Common.{rules}
use Rattle.gorsepetal.proofs.EventCases.{stopped, taken, fed}
use Rattle.gorsepetal.proofs.event_files.read.Goals as goal

pub returns-in-Err-clause-answer : goal.returns-in-Err-clause-answer
returns-in-Err-clause-answer c = (stopped c.args.state.now c.args.reader.now c.args.bytes.now c.args.out.now _ (search rules) c.in-Some.ensures.cases _ _ c.read.ensures _ c.in-Err.is).answer

pub returns-in-Err-clause-state : goal.returns-in-Err-clause-state
returns-in-Err-clause-state c = (stopped c.args.state.now c.args.reader.now c.args.bytes.now c.args.out.now _ (search rules) c.in-Some.ensures.cases _ _ c.read.ensures _ c.in-Err.is).state

pub returns-in-Err-clause-buffer : goal.returns-in-Err-clause-buffer
returns-in-Err-clause-buffer c = (stopped c.args.state.now c.args.reader.now c.args.bytes.now c.args.out.now _ (search rules) c.in-Some.ensures.cases _ _ c.read.ensures _ c.in-Err.is).buffer

pub returns-in-Ok-Taken-clause-answer : goal.returns-in-Ok-Taken-clause-answer
returns-in-Ok-Taken-clause-answer c = (taken c.args.state.now c.args.reader.now c.args.bytes.now c.args.out.now _ (search rules) c.in-Some.ensures.cases _ _ c.read.ensures (search rules)).answer

pub returns-in-Ok-Taken-clause-state : goal.returns-in-Ok-Taken-clause-state
returns-in-Ok-Taken-clause-state c = (taken c.args.state.now c.args.reader.now c.args.bytes.now c.args.out.now _ (search rules) c.in-Some.ensures.cases _ _ c.read.ensures (search rules)).state

pub returns-in-Ok-Taken-clause-buffer : goal.returns-in-Ok-Taken-clause-buffer
returns-in-Ok-Taken-clause-buffer c = (taken c.args.state.now c.args.reader.now c.args.bytes.now c.args.out.now _ (search rules) c.in-Some.ensures.cases _ _ c.read.ensures (search rules)).buffer

pub returns-in-Ok-Whole-clause-answer : goal.returns-in-Ok-Whole-clause-answer
returns-in-Ok-Whole-clause-answer c =
    (fed c.args.state.now c.args.reader.now c.args.bytes.now c.args.out.now _ (search rules) c.in-Some.ensures.cases _ _ c.read.ensures (search rules) c.feed_held.ensures.answer c.feed_held.ensures.state c.feed_held.ensures.buffer).answer

pub returns-in-Ok-Whole-clause-state : goal.returns-in-Ok-Whole-clause-state
returns-in-Ok-Whole-clause-state c =
    (fed c.args.state.now c.args.reader.now c.args.bytes.now c.args.out.now _ (search rules) c.in-Some.ensures.cases _ _ c.read.ensures (search rules) c.feed_held.ensures.answer c.feed_held.ensures.state c.feed_held.ensures.buffer).state

pub returns-in-Ok-Whole-clause-buffer : goal.returns-in-Ok-Whole-clause-buffer
returns-in-Ok-Whole-clause-buffer c =
    (fed c.args.state.now c.args.reader.now c.args.bytes.now c.args.out.now _ (search rules) c.in-Some.ensures.cases _ _ c.read.ensures (search rules) c.feed_held.ensures.answer c.feed_held.ensures.state c.feed_held.ensures.buffer).buffer
