-- Document 01, "Window and phasors": "Three phases of up to six ends form one grid of phasors." Phases and ends count from 0, so end 1 is 0.
use Rattle.std.specs.Prelude.{◌≡◌, List, [], ℕ, zero, suc, ◌+◌, ◌*◌, ◌<◌, ℤ, get_or}
use Rattle.plane.specs.declared.Phasor.{Phasor}
use Rattle.plane.specs.declared.Phases.{Phases}
use Rattle.plane.specs.Plane as plane
use Rattle.samples.specs.Window.{channels}
use Rattle.phasors.specs.Rate.{Rate}
use Rattle.phasors.specs.Sums.{sample, exact, phasor_of}

-- The phasor of a phase's voltage, in a window of N ends
abbrev pub voltage : Rate → List ℤ → ℕ → ℕ → Phasor
voltage rate w ends p = phasor_of rate (sample w (channels ends) p)

-- The phasor of a phase's current at an end
abbrev pub current : Rate → List ℤ → ℕ → ℕ → ℕ → Phasor
current rate w ends p e = phasor_of rate (sample w (channels ends) (3 + 3 * e + p))

-- The same before rounding: "the unrounded sums A and B" of the end in the phase
abbrev pub exact_current : Rate → List ℤ → ℕ → ℕ → ℕ → Phasor
exact_current rate w ends p e = exact rate (sample w (channels ends) (3 + 3 * e + p))

-- A quantity of each phase, as three
abbrev pub by_phase : (ℕ → Phasor) → Phases Phasor
by_phase f = record { a = f 0; b = f 1; c = f 2 }

-- Va, Vb, Vc
abbrev pub voltages_of : Rate → List ℤ → ℕ → Phases Phasor
voltages_of rate w ends = by_phase (voltage rate w ends)

-- What stands in a grid at a phase and an end
abbrev pub cell : List (List Phasor) → ℕ → ℕ → Phasor
cell g p e = get_or (get_or g p []) e plane.zero

-- Ia, Ib, Ic of end 1, in a window
abbrev pub local_currents : Rate → List ℤ → ℕ → Phases Phasor
local_currents rate w ends = by_phase (λ p. current rate w ends p 0)

-- and in a grid
abbrev pub local_of : List (List Phasor) → Phases Phasor
local_of g = by_phase (λ p. cell g p 0)

-- f 0 + .. + f (n - 1)
unfoldable pub total : (ℕ → Phasor) → ℕ → Phasor
total f zero = plane.zero
total f (suc n) = plane.plus (total f n) (f n)

-- A grid filled from a window: at each phase and end of the line stands that phase's current there.
pub record Filled (rate : Rate) (w : List ℤ) (ends : ℕ) (g : List (List Phasor)) : Type 0 where
  pub measured : (p e : ℕ) → p < 3 → e < ends → cell g p e ≡ current rate w ends p e
