-- `samples::numbers` meets its contract: one turn gives the number of one pair more.
use Rattle.std.proofs.Common.{◌≡◌, ◌∙◌, arith, rules, ◌/◌, ◌<◌, ℕ, List, [], length, to_z, of_z, w16}
use Rattle.std.proofs.lemmas.List.{get_or-take}
use Rattle.samples.specs.Window.{numbers_of}
use Rattle.samples.proofs.Bytes.{numbers_length, number_of_pair, filled}
use Rattle.samples.proofs.numbers.Goals as goal

pub loop-i-preserved : goal.loop-i-preserved
loop-i-preserved c =
    let b : List ℕ = c.args.bytes.now in
    let i : ℕ = c.loop-i.i in
    let here : i < c.count.result = search (rules, c.loop-i-test.true) in
    let stored : to_z w16 (of_z w16 c.from_be_bytes.result) ≡ c.from_be_bytes.result = search rules in
    let read = rw (get_or-take c.count.result c.as_chunks.result.0.now i [] here, c.as_chunks.ensures.front) at c.from_be_bytes.ensures in
    let number = read ∙ number_of_pair (length b / 2) b i (λ k. (c.type_inv.bytes k).fits) (omega arith) (omega arith) in
    rw (stored, number) (filled c.loop-i.samples (numbers_of b) i (omega arith) (omega (arith, numbers_length b)) c.loop-i.invariant)
