-- Document 01, "Window and phasors" (source document 001, equation (3-44), the discrete transform): the sums A and B of a channel, and its
-- phasor, over any rate.
use Rattle.std.specs.Prelude.{List, ℕ, zero, suc, ◌+◌, ◌*◌, ℤ, pos, ◌+ℤ◌, ◌-ℤ◌, ◌*ℤ◌, length, get_or}
use Rattle.plane.specs.declared.Phasor.{Phasor}
use Rattle.plane.specs.Plane as plane
use Rattle.phasors.specs.Rate.{Rate, cosine, sine}

-- x[n] of a channel: its number in frame n
abbrev pub sample : List ℤ → ℕ → ℕ → ℕ → ℤ
sample w channels channel n = get_or w (n * channels + channel) (pos 0)

-- The sums with one sample more: x C to the real part, -x S to the imaginary
unfoldable pub with_sample : Phasor → ℤ → ℤ → ℤ → Phasor
with_sample sums x c s = record { re = sums.re +ℤ x *ℤ c; im = sums.im -ℤ x *ℤ s }

-- The sums over the first n samples: A = sum of x[n]C[n] and B = minus the sum of x[n]S[n], as one complex number.
unfoldable pub sum_to : List ℤ → ℕ → (ℕ → ℤ) → ℕ → Phasor
sum_to coefficients shift x zero = plane.zero
sum_to coefficients shift x (suc n) = with_sample (sum_to coefficients shift x n) (x n) (cosine coefficients n) (sine coefficients shift n)

-- A and B of a whole cycle, before rounding
abbrev pub exact : Rate → (ℕ → ℤ) → Phasor
exact rate x = sum_to rate.cosines rate.shift x (length rate.cosines)

-- "Each becomes the one whole number y with 131072y - 65536 <= A (or B) < 131072y + 65536."
unfoldable pub phasor_of : Rate → (ℕ → ℤ) → Phasor
phasor_of rate x = plane.rounded rate.divisor (exact rate x)
