-- "Rounded by d" of document 01, "Window and phasors": what it means, the form that computes, and the part of it that callers lean on.
use Rattle.std.specs.Prelude.{ℕ, ◌/◌, ℤ, pos, ◌+ℤ◌, ◌-ℤ◌, ◌*ℤ◌, ◌≤ℤ◌, ◌<ℤ◌}
use Rattle.std.specs.Int.Signed.{shr_z}

-- y is A rounded by d: d y - d/2 ≤ A < d y + d/2
pub record Rounded (d : ℕ) (A y : ℤ) : Type 0 where
  pub low : (pos d *ℤ y -ℤ pos (d / 2)) ≤ℤ A
  pub high : A <ℤ (pos d *ℤ y +ℤ pos (d / 2))

-- the number itself, for an even d, as all of the document's are: half of d is added, and the quotient rounded down
unfoldable pub round_by : ℕ → ℤ → ℤ
round_by d A = shr_z (A +ℤ pos (d / 2)) d

-- d y is at most d/2 away from A. This holds whichever way a tie goes, and is all that the layers above use:
-- another rule for ties moves nothing there
pub record Near (d : ℕ) (A y : ℤ) : Type 0 where
  pub low : (pos d *ℤ y -ℤ pos (d / 2)) ≤ℤ A
  pub high : A ≤ℤ (pos d *ℤ y +ℤ pos (d / 2))
