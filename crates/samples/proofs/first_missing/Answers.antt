-- `samples::first_missing` meets its contract: the search goes on behind a number that is not missing.
use Rattle.std.proofs.Common.{rules, ◌*◌}
use Rattle.samples.proofs.Missing.{goes_on}
use Rattle.samples.proofs.first_missing.Goals as goal

pub loop-c-preserved : goal.loop-c-preserved
loop-c-preserved c = (
  c.loop-c.invariant.0,
  goes_on (c.in-Some.f * c.div_ceil-channels.result) c.loop-c.c c.in-Some.frame.now c.next.new.self.iter.rest.now _ c.loop-c-test.true
      (search rules) c.loop-c.invariant.1,
)
