-- Document 01, "Percentage differential" (source documents 000 and 003): what is compared in a phase, and when it operates; and document 02,
-- CR 6, the slope at which that changes. In these definitions i gives the phasor of each end in the phase, the ends counted from 0, and n is
-- N, how many there are.
use Rattle.std.specs.Prelude.{ℕ, zero, suc, ◌*◌, [], ◌∷◌, Bool, cond, ◌&&◌, leb, ltb}
use Rattle.whole.specs.Root.{floor_root, root_up}
use Rattle.whole.specs.Sum.{sum_of}
use Rattle.whole.specs.Bits.{bits}
use Rattle.plane.specs.declared.Phasor.{Phasor}
use Rattle.plane.specs.declared.Phases.{Phases}
use Rattle.plane.specs.Plane.{squared_magnitude}
use Rattle.phasors.specs.Grid.{total}
use Rattle.settings.specs.Table.{most_slope}
use Rattle.differential.specs.declared.Comparison.{Comparison}

-- ---- what is compared

-- "the differential is the sum of the N phasors, s its squared magnitude"
unfoldable pub square : (ℕ → Phasor) → ℕ → ℕ
square i n = squared_magnitude (total i n)

-- "the smallest whole number whose square is at least 4096 times that end's squared magnitude, so in sixty-fourths of a count, rounded up"
unfoldable pub end_restraint : Phasor → ℕ
end_restraint i = root_up (4096 * squared_magnitude i)

-- "The restraint U is the sum over ends"
unfoldable pub restraint : (ℕ → Phasor) → ℕ → ℕ
restraint i n = sum_of (λ e. end_restraint (i e)) n

-- s and U of a phase
abbrev pub comparison : (ℕ → Phasor) → ℕ → Comparison
comparison i n = record { square = square i n; restraint = restraint i n }

-- and of each phase
abbrev pub comparisons : (ℕ → ℕ → Phasor) → ℕ → Phases Comparison
comparisons i n = record { a = comparison (i 0) n; b = comparison (i 1) n; c = comparison (i 2) n }

-- "floor of the root of 4096 s": the magnitude of the differential, in sixty-fourths of a count
unfoldable pub magnitude : Comparison → ℕ
magnitude x = floor_root (4096 * x.square)

-- ---- when a phase operates

-- "The phase operates exactly when s >= pickup² and 40960000 s > (K U)²."
unfoldable pub operates : ℕ → ℕ → Comparison → Bool
operates K pickup x = leb (pickup * pickup) x.square && ltb (K * x.restraint * (K * x.restraint)) (40960000 * x.square)

-- "phases a=1, b=2, c=4"
unfoldable pub operating_bits : ℕ → ℕ → Phases Comparison → ℕ
operating_bits K pickup x = bits (operates K pickup x.a ∷ operates K pickup x.b ∷ operates K pickup x.c ∷ [])

-- ---- the slope at which it changes (document 02, CR 6)

-- counted up from the slope K, for as long as the phase operates at the next one: n slopes at most
unfoldable pub counted_up : ℕ → ℕ → ℕ → Comparison → ℕ
counted_up zero K pickup x = K
counted_up (suc n) K pickup x = cond (operates (suc K) pickup x) (counted_up n (suc K) pickup x) K

-- c: "with all else equal the phase operates exactly for slopes 1 to c"; counted up from 0, through the slopes that a record can have
abbrev pub slope_of_change : ℕ → Comparison → ℕ
slope_of_change pickup x = counted_up most_slope 0 pickup x

-- of each phase
abbrev pub slopes_of_change : ℕ → Phases Comparison → Phases ℕ
slopes_of_change pickup x = record { a = slope_of_change pickup x.a; b = slope_of_change pickup x.b; c = slope_of_change pickup x.c }
