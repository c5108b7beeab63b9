-- What a reader will look for in the percentage differential, as statements. proofs/ proves each.
use Rattle.std.specs.Prelude.{◌≡◌, true, false, List, ℕ, ◌*◌, ◌≤◌, ◌<◌, ℤ, pos, get_or}
use Rattle.whole.specs.Exactly.{Exactly}
use Rattle.whole.specs.Root.{floor_root}
use Rattle.whole.specs.Sum.{sum_of}
use Rattle.plane.specs.declared.Phasor.{Phasor}
use Rattle.plane.specs.Plane.{squared_magnitude}
use Rattle.phasors.specs.Rate.{Rate}
use Rattle.phasors.specs.Grid.{current}
use Rattle.settings.specs.Table.{most_slope}
use Rattle.differential.specs.declared.Comparison.{Comparison}
use Rattle.differential.specs.Differential.{restraint, comparison, operates, slope_of_change}

-- "s >= pickup² and 40960000 s > (K U)²"
abbrev pub OperatesBy : ℕ → ℕ → Comparison → Type 0
OperatesBy K pickup x = (pickup * pickup ≤ x.square) × (K * x.restraint * (K * x.restraint) < 40960000 * x.square)

-- "The phase operates exactly when" that is so.
abbrev pub OperatesRule : Type 0
OperatesRule = (K pickup : ℕ) (x : Comparison) → Exactly (operates K pickup x ≡ true) (OperatesBy K pickup x)

-- A phase that operates at a slope operates at every smaller one, all else equal.
abbrev pub SmallerSlope : Type 0
SmallerSlope = (smaller K pickup : ℕ) (x : Comparison) → smaller ≤ K → operates K pickup x ≡ true → operates smaller pickup x ≡ true

-- At slope 100 no phase operates. This holds because U is the sum over the ends: the differential is never longer than the currents together.
abbrev pub NoneAt100 : Type 0
NoneAt100 = (i : ℕ → Phasor) (n pickup : ℕ) → operates 100 pickup (comparison i n) ≡ false

-- At every fineness m, m U is at least the sum over ends of the floors of the roots of 4096 m² |P|²: U is not below what
-- the magnitudes come to.
abbrev pub NeverTooSmall : Type 0
NeverTooSmall = (i : ℕ → Phasor) (n m : ℕ) → sum_of (λ e. floor_root (4096 * (m * m * squared_magnitude (i e)))) n ≤ m * restraint i n

-- A window of zeros does not operate, at any rate.
abbrev pub ZeroWindow : Type 0
ZeroWindow =
    (rate : Rate) → 0 < rate.divisor → (w : List ℤ) (ends p K pickup : ℕ) → ((k : ℕ) → get_or w k (pos 0) ≡ pos 0) →
    operates K pickup (comparison (current rate w ends p) ends) ≡ false

-- ---- the slope at which it changes (document 02, CR 6)

-- A fact holds "exactly for slopes 1 to c", of the slopes that a record can have.
abbrev pub ExactlyUpTo : ℕ → (ℕ → Type 0) → Type 0
ExactlyUpTo c Fact = (K : ℕ) → 1 ≤ K → K ≤ most_slope → Exactly (Fact K) (K ≤ c)

-- "with all else equal the phase operates exactly for slopes 1 to c"
abbrev pub ChangesAt : ℕ → Comparison → ℕ → Type 0
ChangesAt pickup x c = (c ≤ most_slope) × ExactlyUpTo c (λ K. operates K pickup x ≡ true)

-- One number is such a c, and no other: the one that is defined.
abbrev pub OneSlopeOfChange : Type 0
OneSlopeOfChange = (pickup c : ℕ) (x : Comparison) → Exactly (ChangesAt pickup x c) (c ≡ slope_of_change pickup x)

-- "from 0 to 99": at slope 100 no phase operates.
abbrev pub ChangeAtMost99 : Type 0
ChangeAtMost99 = (i : ℕ → Phasor) (n pickup : ℕ) → slope_of_change pickup (comparison i n) ≤ 99

-- It is 0 where the pickup is not reached.
abbrev pub ChangeBelowPickup : Type 0
ChangeBelowPickup = (pickup : ℕ) (x : Comparison) → x.square < pickup * pickup → slope_of_change pickup x ≡ 0
