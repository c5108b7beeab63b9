-- `samples::numbers`: before i stand the first of the bytes' numbers.
use Rattle.std.proofs.Common.{◌≡◌, take}
use Rattle.samples.specs.Window.{numbers_of}
use Rattle.samples.proofs.numbers.Given as goal

abbrev pub invariant-loop-i : goal.invariant-loop-i
invariant-loop-i l = take l.i l.samples ≡ take l.i (numbers_of l.bytes)
