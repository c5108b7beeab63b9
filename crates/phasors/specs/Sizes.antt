-- How large the sums of a channel get, and the currents of a grid. No rule of document 01 is here: a reader of the rules can pass this file by.
use Rattle.std.specs.Prelude.{◌≡◌, List, ℕ, ◌*◌, ◌<◌, ℤ, nat_abs}
use Rattle.whole.specs.Sizes.{Within}
use Rattle.whole.specs.Sum.{sum_of}
use Rattle.plane.specs.declared.Phasor.{Phasor}
use Rattle.plane.specs.Sizes.{Inside, phasor_size}
use Rattle.phasors.specs.Rate.{cosine, sine}
use Rattle.phasors.specs.Sums.{sum_to}
use Rattle.phasors.specs.Grid.{cell}

-- the sizes of f 0 .. f (n - 1) added up, to be multiplied by the size of the largest sample
abbrev pub weight : (ℕ → ℤ) → ℕ → ℕ
weight f n = sum_of (λ k. nat_abs (f k)) n

-- r is the sums A and B, and no larger than samples of 16 bits, each at most 32768 in size, can make them
pub record Summed (coefficients : List ℤ) (shift : ℕ) (x : ℕ → ℤ) (n : ℕ) (r : Phasor) : Type 0 where
  pub summed : r ≡ sum_to coefficients shift x n
  pub real : Within (32768 * weight (cosine coefficients) n) r.re
  pub imag : Within (32768 * weight (sine coefficients shift) n) r.im

-- every current of a grid, at the line's ends, is within 42000 of zero
abbrev pub GridInside : List (List Phasor) → ℕ → Type 0
GridInside g ends = (p e : ℕ) → p < 3 → e < ends → Inside phasor_size (cell g p e)
