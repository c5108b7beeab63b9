-- `lent::first_difference`: one law for each way through a turn.
use Rattle.std.proofs.Common.{refl, arith, sym, ◌∙◌}
use Rattle.lent.specs.Lent.{first_difference}
use Rattle.lent.proofs.Differences.{same_turn, differ_turn, same_end}
use Rattle.lent.proofs.first_difference.Goals as goal

pub loop-i-init : goal.loop-i-init
unfolding first_difference
loop-i-init c = refl

pub returns-then-a-i-clause-first : goal.returns-then-a-i-clause-first
returns-then-a-i-clause-first c =
    sym (differ_turn c.args.a.now c.args.b.now c.loop-i.i (omega arith) (omega arith) c.if-a-i.true) ∙ c.loop-i.invariant

pub loop-i-preserved : goal.loop-i-preserved
loop-i-preserved c =
    sym (same_turn c.args.a.now c.args.b.now c.loop-i.i (omega arith) (omega arith) c.if-a-i.false) ∙ c.loop-i.invariant

pub returns-clause-first : goal.returns-clause-first
returns-clause-first c = sym (same_end c.args.a.now c.args.b.now c.loop-i.i (omega arith)) ∙ c.loop-i.invariant
