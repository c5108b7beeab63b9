-- `gorsepetal::gorsepetal_decide` meets its contract: the numbers taken out of the bytes decide as the bytes do.
use mathlib.Core.Path.{ap, ◌∙◌}
use native.Mathlib.Nat.{sub-zero}
use Rattle.std.proofs.Common.{rules, take}
use Rattle.gorsepetal.proofs.Numbers.{decide_bytes}
use Rattle.gorsepetal.proofs.gorsepetal_decide.Goals as goal

pub returns : goal.returns
returns c =
    let k = c.count-n.ensures in
    let taken = ap (λ n. take n c.numbers.new.samples) (sub-zero _ ∙ k.0) ∙ c.numbers.ensures in
    (decide_bytes _ _ _ _ taken (rw (← k.0) k.1) _ _ _ c.given_back.ensures c.decide.ensures.0, search rules, search rules)
