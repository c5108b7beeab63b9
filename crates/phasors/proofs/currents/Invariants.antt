-- What stands before the end and the phase is measured.
use Rattle.std.proofs.Common.{◌≡◌, ℕ, ◌<◌, List, [], ℤ, length, get_or}
use Rattle.plane.specs.declared.Phasor.{Phasor}
use Rattle.plane.specs.Sizes.{Inside, phasor_size}
use Rattle.phasors.specs.Rate.{sixteen}
use Rattle.phasors.specs.Grid.{cell, current}
use Rattle.phasors.proofs.currents.Given as goal

-- what is asked of a phasor at a phase and an end
abbrev pub Measured : List ℤ → ℕ → ℕ → ℕ → Phasor → Type 0
Measured w ends p e x = (x ≡ current sixteen w ends p e) × Inside phasor_size x

-- every phase has six places, and is measured at the ends before e
pub record Upto (w : List ℤ) (ends e : ℕ) (grid : List (List Phasor)) : Type 0 where
  pub six : (p : ℕ) → p < 3 → length (get_or grid p []) ≡ 6
  pub before : (p d : ℕ) → p < 3 → d < e → Measured w ends p d (cell grid p d)

abbrev pub invariant-loop-e : goal.invariant-loop-e
invariant-loop-e l = Upto l.window l.ends l.e l.grid

abbrev pub invariant-loop-p : goal.invariant-loop-p
invariant-loop-p l = record {
  ends : Upto l.window l.ends l.e l.phase-items;
  end : (p : ℕ) → p < l.p → Measured l.window l.ends p l.e (cell l.phase-items p l.e);
}
