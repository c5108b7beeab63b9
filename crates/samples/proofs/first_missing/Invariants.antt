-- `samples::first_missing`: what is left of the window, searched from the place of its first number on, gives what the whole window gives.
use Rattle.std.proofs.Common.{◌≡◌, ◌+◌, ◌*◌, drop, ◌++◌}
use Rattle.std.specs.Prelude.{None}
use Rattle.samples.specs.Window.{missing_from, first_missing}
use Rattle.samples.proofs.first_missing.Given as goal

abbrev pub invariant-search : goal.invariant-search
invariant-search l =
    (l.found ≡ None) × (l.f-iterator.iter.size ≡ l.channels)
    × (missing_from (l.f-iterator.count * l.channels) l.f-iterator.iter.rest.now ≡ first_missing l.window)

abbrev pub invariant-loop-c : goal.invariant-loop-c
invariant-loop-c l = (l.found ≡ None)
    × (missing_from (l.f * l.channels + l.c) (drop l.c l.frame ++ l.f-iterator.iter.rest.now) ≡ first_missing l.window)
