-- A window that uses most of the band: six ends, slope 99, pickup 1. In phase a end 1 has x[0] = 32 and x[4] = -32, and each of the other
-- five x[0] = -5, x[1] = 2, x[3] = -2 and x[4] = 5, which is just not enough to be rounded to a count. So the five do not restrain.
use Rattle.std.specs.Prelude.{◌≡◌, true, List, [], ◌∷◌, ◌++◌, ℕ, ◌≤◌, ℤ, pos, neg_ℤ, length}
use Rattle.plane.specs.declared.Phasor.{Phasor}
use Rattle.samples.specs.Window.{window_length}
use Rattle.phasors.specs.Rate.{sixteen}
use Rattle.phasors.specs.Grid.{current, exact_current}
use Rattle.differential.specs.Differential.{comparison, operates}
use Rattle.differential.specs.Demand3.{L, F, FirstHalf}

-- a frame with x at end 1 and y at each other end, in phase a
abbrev pub frame : ℤ → ℤ → List ℤ
frame x y =
    pos 0 ∷ pos 0 ∷ pos 0 ∷ x ∷ pos 0 ∷ pos 0 ∷ y ∷ pos 0 ∷ pos 0 ∷ y ∷ pos 0 ∷ pos 0
    ∷ y ∷ pos 0 ∷ pos 0 ∷ y ∷ pos 0 ∷ pos 0 ∷ y ∷ pos 0 ∷ pos 0 ∷ []

-- a frame of zeros
abbrev pub still : List ℤ
still = frame (pos 0) (pos 0)

abbrev pub named : List ℤ
named =
    frame (pos 32) (neg_ℤ (pos 5)) ++ frame (pos 0) (pos 2) ++ still ++ frame (pos 0) (neg_ℤ (pos 2))
    ++ frame (neg_ℤ (pos 32)) (pos 5) ++ still ++ still ++ still
    ++ still ++ still ++ still ++ still
    ++ still ++ still ++ still ++ still

-- A and B of each end, and their phasors
abbrev pub sums : ℕ → Phasor
sums = exact_current sixteen named 6 0

abbrev pub phasors : ℕ → Phasor
phasors = current sixteen named 6 0

-- It has the length of a window of six ends; s = 32 and U = 363, so that it operates; and L and F at m = 1.
pub record NamedWindow : Type 0 where
  pub six_ends : length named ≡ window_length 6
  pub comparison_is : comparison phasors 6 ≡ record { square = 32; restraint = 363 }
  pub operating : operates 99 1 (comparison phasors 6) ≡ true
  pub restrained : L 1 sums 6 ≡ 1195315
  pub differing : F 1 sums 6 ≡ 287591

-- The band is not idle: with one count an end in place of one and a half the first half is false of this window,
abbrev pub OneCountIsFalse : Type 0
OneCountIsFalse = FirstHalf 131072 99 1 6 sums phasors → ⊥

-- and so it is with any band up to 149294.
abbrev pub BandIsUsed : Type 0
BandIsUsed = (b : ℕ) → b ≤ 149294 → FirstHalf b 99 1 6 sums phasors → ⊥
