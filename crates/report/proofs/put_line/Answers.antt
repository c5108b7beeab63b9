-- `report::put_line` meets its contract: each way through a turn is a law of `SoFar`, and behind the last word the line is written.
use Rattle.std.proofs.Common.{◌≡◌, ℕ, ◌+◌, ◌<◌, List, length, get_or, set, Option, None, Bor, rules, inl, inr, Iter}
use Rattle.std.specs.Slice.Iter.{iter_rest, iter_steps}
use Rattle.report.proofs.Turns.{SoFar, number_turn, word_turn, all_written}
use Rattle.report.proofs.put_line.Goals as goal
use Rattle.report.proofs.put_line.Goals.{then-byte-eq35+in-Some, else-byte-eq35, else-byte-eq35-via-else-byte-eq35, else-byte-eq35-via-then-byte-eq35+in-None-1}

-- where no number is left
none_left :
    {lent line out words : List ℕ} {at i : ℕ} {r : Option (Bor ℕ)} (left left' : Iter ℕ) →
    SoFar lent line out words (iter_rest left) at i → i < length words → iter_steps left r left' → r ≡ None →
    SoFar lent line (set out at (get_or words i 0)) words (iter_rest left') (at + 1) (i + 1)
none_left left left' so w s e = let (n, same) = rw e at s in rw same (word_turn so w (inr n))

pub loop-byte-preserved : goal.loop-byte-preserved
loop-byte-preserved c =
    let so = c.loop-byte.invariant in
    let i = c.loop-byte-test.true in
    elim c.if-byte-eq35.branch [
      | then-byte-eq35+in-Some w ↦
          rw (w.out-is, w.at-is, w.left-is)
          (number_turn so i w.if-byte-eq35.true w.in-Some.ensures.steps w.put_number-at.ensures w.put_number-at.auto.out)
      | else-byte-eq35 w ↦
          elim w.else-byte-eq35.branch [
            | else-byte-eq35-via-else-byte-eq35 v ↦
                rw (w.out-is, w.at-is, w.left-is, v.left-is) (word_turn so i (inl v.if-byte-eq35.false))
            | else-byte-eq35-via-then-byte-eq35+in-None-1 v ↦
                rw (w.out-is, w.at-is, w.left-is, v.left-is) (none_left _ _ so i v.next.ensures.steps (search rules))
          ]
    ]

pub returns : goal.returns
returns c = all_written c.loop-byte.invariant c.loop-byte-test.false
