-- The story of the paper mill, as an example: an outfeed fault with 100 counts into the line at end 1 and 40 out of it at end 2, so that the
-- differential is 60 of a restraint of 140 counts, 42.86 percent. The slope was said as fifteen and heard as fifty.
use Rattle.std.specs.Prelude.{◌≡◌, true, ℕ, zero, suc, ◌≤◌, pos, neg_ℤ}
use Rattle.whole.specs.Exactly.{Exactly}
use Rattle.plane.specs.declared.Phasor.{Phasor}
use Rattle.differential.specs.Differential.{comparison, operates, slope_of_change}

abbrev pub ends : ℕ → Phasor
ends zero = record { re = pos 100; im = pos 0 }
ends (suc e) = record { re = neg_ℤ (pos 40); im = pos 0 }

-- It operates at every slope up to 42, and at no other: at 15, and not at 50. So its c is 42 (document 02, CR 6).
abbrev pub PaperMill : Type 0
PaperMill = ((K : ℕ) → Exactly (operates K 1 (comparison ends 2) ≡ true) (K ≤ 42)) × (slope_of_change 1 (comparison ends 2) ≡ 42)
