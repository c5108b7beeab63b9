-- n and m are in the range of the rule.
use mathlib.Core.Path.{refl}
use Rattle.whole.proofs.Size.{wider, rd}
use Rattle.plane.proofs.Bounds.{inside_times, within_dot}
use Rattle.plane.proofs.Steps.{multiply}
use Rattle.distance.proofs.mho.ratio_of.Goals as goal

pub dot-requires-2 : goal.dot-requires-2
dot-requires-2 c = let h = c.requires in rw c.times.ensures (multiply (inside_times h.0 h.1.current) h.1.polarising tt tt tt)

pub returns : goal.returns
returns c =
    let h = c.requires in
    let n = within_dot h.1.voltage h.1.polarising in
    let m = within_dot (inside_times h.0 h.1.current) h.1.polarising in
    rw (c.dot.ensures, c.dot-2.ensures, c.times.ensures, rd n tt, rd m tt)
    (refl, record { numerator = wider n tt; denominator = wider m tt })
