-- The hand checks, each by computation.
use mathlib.Core.Path.{refl}
use Rattle.whole.specs.Root.{floor_root, root_up}
use Rattle.whole.specs.Round.{round_by}
use Rattle.whole.specs.Sum.{sum_of}
use Rattle.whole.proofs.Rows.{◌&◌}
use Rattle.plane.specs.Plane.{plus, times, scaled, rounded, dot, squared_magnitude}
use Rattle.phasors.specs.Sums.{with_sample, sum_to, phasor_of}
use Rattle.phasors.specs.Grid.{total}
use Rattle.settings.specs.Table.{settings_table}
use Rattle.settings.specs.Check.{checked_by}
use Rattle.direction.specs.Sequence.{sequence}
use Rattle.direction.specs.Direction.{reaches_pickup, torque, side_of, direction_of}
use Rattle.distance.specs.Mho.{mho, asserts}
use Rattle.differential.specs.Differential.{square, end_restraint, restraint, operates}
use Rattle.worked.specs.HandChecks.{HandChecks}

pub hand_checks_lem : HandChecks
unfolding round_by rounded with_sample sum_to phasor_of plus times scaled sequence
    floor_root root_up sum_of dot squared_magnitude total square end_restraint restraint operates mho asserts
    settings_table checked_by reaches_pickup torque side_of direction_of
hand_checks_lem =
    -- P1 to P6
    refl & refl & refl & refl & refl & refl
    -- P7
    & refl
    -- P8 to P11
    & refl & refl & refl & refl & refl & refl & refl & refl & refl
    -- P12, P13
    & refl & refl & (λ r. refl)
    -- P14
    & (refl, refl, refl, refl) & (refl, refl, refl, refl) & (refl, refl, refl) & (refl, refl, refl)
    -- x[n] = C[n]
    & refl
    & tt
