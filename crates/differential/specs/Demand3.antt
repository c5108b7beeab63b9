-- Document 01, "Percentage differential": demand 3 in whole numbers. How far the rounding can move the decision, at every fineness m.
-- In these definitions x gives "the unrounded sums A and B" of each end in the phase, as one complex number, i the rounded phasors, and n
-- is N. The pickup stays a matter of the rounded s.
use Rattle.std.specs.Prelude.{◌≡◌, true, List, ℕ, ◌+◌, ◌*◌, ◌/◌, ◌≤◌, ◌<◌, ℤ}
use Rattle.whole.specs.Root.{floor_root}
use Rattle.whole.specs.Sum.{sum_of}
use Rattle.plane.specs.declared.Phasor.{Phasor}
use Rattle.plane.specs.Plane.{NearTo, squared_magnitude}
use Rattle.phasors.specs.Rate.{Rate, sixteen}
use Rattle.phasors.specs.Grid.{total, current, exact_current}
use Rattle.differential.specs.Differential.{square, comparison, operates}

-- ---- as document 01 defines them

-- the floor of the root of m²(A² + B²)
unfoldable pub exact_magnitude : ℕ → Phasor → ℕ
exact_magnitude m x = floor_root (m * m * squared_magnitude x)

-- L, "the sum over ends of the floors of the roots of m²(A² + B²)"
unfoldable pub L : ℕ → (ℕ → Phasor) → ℕ → ℕ
L m x n = sum_of (λ e. exact_magnitude m (x e)) n

-- "H = L + N"
abbrev pub H : ℕ → (ℕ → Phasor) → ℕ → ℕ
H m x n = L m x n + n

-- F, "the floor of the root of m² times (the square of the sum of all A plus the square of the sum of all B)"
abbrev pub F : ℕ → (ℕ → Phasor) → ℕ → ℕ
F m x n = exact_magnitude m (total x n)

-- ---- the two halves, with a band for each end

-- "100(F + 1 + 196608Nm) > K L for every m", with the band for 196608
abbrev pub NotBelow : ℕ → ℕ → ℕ → (ℕ → Phasor) → Type 0
NotBelow band K n x = (m : ℕ) → 1 ≤ m → K * L m x n < 100 * (F m x n + 1 + band * n * m)

-- "for some m, 100F >= K H + 19660800Nm": with this m, and 100 times the band for 19660800
abbrev pub Above : ℕ → ℕ → ℕ → (ℕ → Phasor) → ℕ → Type 0
Above band K n x m = K * H m x n + 100 * band * n * m ≤ 100 * F m x n

-- what a half says of a phase: of K, the pickup, N, x and i
abbrev pub Half : Type 1
Half = ℕ → ℕ → ℕ → (ℕ → Phasor) → (ℕ → Phasor) → Type 0

-- "If a phase operates, .."
abbrev pub FirstHalf : ℕ → Half
FirstHalf band K pickup n x i = operates K pickup (comparison i n) ≡ true → NotBelow band K n x

-- "If s >= pickup² and for some m, .., it operates."
abbrev pub SecondHalf : ℕ → Half
SecondHalf band K pickup n x i =
    pickup * pickup ≤ square i n → (m : ℕ) → 1 ≤ m → Above band K n x m → operates K pickup (comparison i n) ≡ true

-- Either half, for whatever is rounded near to the sums by d, whichever way a tie goes
abbrev pub Whenever : ℕ → Half → Type 0
Whenever d half = (x i : ℕ → Phasor) → ((e : ℕ) → NearTo d (x e) (i e)) → (K pickup n : ℕ) → K ≤ 100 → 1 ≤ n → half K pickup n x i

-- and for a phase of any window of N ends, at a rate
abbrev pub OfWindows : Rate → Half → Type 0
OfWindows rate half =
    (w : List ℤ) (ends p K pickup : ℕ) → K ≤ 100 → 1 ≤ ends → half K pickup ends (exact_current rate w ends p) (current rate w ends p)

-- ---- demand 3

-- "one and a half times" the divisor
abbrev pub one_and_a_half : ℕ → ℕ
one_and_a_half d = d + d / 2

-- "196608 is one and a half times 131072."
abbrev pub band : ℕ
band = 196608

abbrev pub FirstAtSixteen : Type 0
FirstAtSixteen = OfWindows sixteen (FirstHalf band)

abbrev pub SecondAtSixteen : Type 0
SecondAtSixteen = OfWindows sixteen (SecondHalf band)
