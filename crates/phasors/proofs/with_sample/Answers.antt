-- A product of two samples is at most 2 ^ 30 in size, so the sums fit.
use Rattle.std.proofs.Common.{rules}
use Rattle.phasors.proofs.Weights.{product_added, product_taken_off}
use Rattle.phasors.specs.Sums.{with_sample}
use Rattle.phasors.proofs.with_sample.Goals as goal

pub overflow_add-re : goal.overflow_add-re
overflow_add-re c = search (rules, product_added)

pub overflow_sub-im : goal.overflow_sub-im
overflow_sub-im c = search (rules, product_taken_off)

pub returns : goal.returns
unfolding with_sample
returns c = search (rules, product_added, product_taken_off)
