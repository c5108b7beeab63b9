use Rattle.std.proofs.Common.{arith, ap, ◌∙◌, ℕ, ◌*◌, ◌+◌, ◌/◌, length, get_or, List, []}
use Rattle.lent.specs.Lent.{over}
use Rattle.lent.proofs.Over.{over_none}
use Rattle.records.specs.Record.{swapped}
use Rattle.records.proofs.Swapped.{turned, pair_byte, swapped_pairs}
use Rattle.records.proofs.turn.Goals as goal

pub loop-i-init : goal.loop-i-init
unfolding swapped
loop-i-init c = over_none c.args.dst.now c.args.at

pub loop-i-preserved : goal.loop-i-preserved
loop-i-preserved c =
    let l = c.loop-i in
    let s = c.args.src.now in
    let e = c.as_chunks.ensures in
    let n : ℕ = length s / 2 in
    let low = ap (λ (p : List (List ℕ)). get_or (get_or p l.i []) 0 0) e.front ∙ pair_byte n s l.i 0 (2 * l.i) (omega arith) (omega arith) (omega arith) in
    let high = ap (λ (p : List (List ℕ)). get_or (get_or p l.i []) 1 0) e.front ∙ pair_byte n s l.i 1 (2 * l.i + 1) (omega arith) (omega arith) (omega arith) in
    turned c.args.dst.now l.dst s c.args.at l.i (omega arith) (omega arith) l.auto.dst l.invariant high low

pub returns : goal.returns
returns c = c.loop-i.invariant ∙ ap (over c.args.dst.now c.args.at) (swapped_pairs c.loop-i.i c.args.src.now (omega arith) (omega arith))
