-- The band is used: the named window operates, and its exact currents are far from the slope.
use mathlib.Core.Path.{◌≡◌, refl, ap, ◌∙◌}
use mathlib.Core.Bool.{true}
use native.Mathlib.Omega.{arith}
use Rattle.whole.specs.Root.{floor_root, root_up}
use Rattle.whole.specs.Round.{round_by}
use Rattle.whole.specs.Sum.{sum_of}
use Rattle.plane.specs.Plane.{plus, rounded, dot, squared_magnitude}
use Rattle.phasors.specs.Sums.{with_sample, sum_to, phasor_of}
use Rattle.phasors.specs.Grid.{total}
use Rattle.differential.specs.Differential.{square, end_restraint, restraint, comparison, operates}
use Rattle.differential.specs.Demand3.{exact_magnitude, L}
use Rattle.differential.specs.Named.{phasors, NamedWindow, BandIsUsed, OneCountIsFalse}

comparison_is : comparison phasors 6 ≡ record { square = 32; restraint = 363 }
unfolding floor_root root_up round_by sum_of plus rounded dot squared_magnitude with_sample sum_to phasor_of total square end_restraint restraint
comparison_is = refl

-- 40960000 · 32 = 1310720000 is above (99 · 363)² = 1291467969
at_slope_99 : operates 99 1 (record { square = 32; restraint = 363 }) ≡ true
unfolding operates
at_slope_99 = refl

pub named_window : NamedWindow
unfolding floor_root sum_of plus dot squared_magnitude with_sample sum_to total exact_magnitude L
named_window = record {
  six_ends = refl;
  comparison_is = comparison_is;
  operating = ap (operates 99 1) comparison_is ∙ at_slope_99;
  restrained = refl;
  differing = refl;
}

pub band_is_used : BandIsUsed
band_is_used b small half =
    let w = named_window in
    omega (arith, w.restrained, w.differing, half w.operating 1 (omega arith))

pub one_count_is_false : OneCountIsFalse
one_count_is_false = band_is_used 131072 (omega arith)
