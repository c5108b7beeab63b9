-- What is compared in a grid filled from a window is what is compared in the window.
use mathlib.Core.Path.{◌≡◌}
use mathlib.Core.List.{List}
use Prim.Native.Nat.{ℕ, ◌<◌}
use native.Mathlib.Omega.{arith}
use lib.IntN.{ℤ}
use Rattle.plane.specs.declared.Phasor.{Phasor}
use Rattle.phasors.specs.Rate.{Rate}
use Rattle.phasors.specs.Grid.{Filled, cell, current}
use Rattle.differential.proofs.Phase.{comparison_same}
use Rattle.differential.specs.Differential.{comparison, comparisons}

module _ {rate : Rate} {w : List ℤ} {ends : ℕ} {g : List (List Phasor)} (h : Filled rate w ends g) where
  pub filled_phase : (p : ℕ) → p < 3 → comparison (cell g p) ends ≡ comparison (current rate w ends p) ends
  filled_phase p l = comparison_same (cell g p) (current rate w ends p) ends (λ e k. h.measured p e l k)

  pub filled_comparisons : comparisons (cell g) ends ≡ comparisons (current rate w ends) ends
  filled_comparisons = λ i. record { a = filled_phase 0 (omega arith) i; b = filled_phase 1 (omega arith) i; c = filled_phase 2 (omega arith) i }
