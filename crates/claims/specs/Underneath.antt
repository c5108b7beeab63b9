-- Document 01, "What a reader may rely on": "Rounding by d is proved once over d", and the two roots: each is the one number that its meaning
-- allows.
use Rattle.std.specs.Prelude.{ℕ, ◌%◌, ◌<◌, ◌≡◌, ℤ}
use Rattle.whole.specs.Exactly.{Exactly}
use Rattle.whole.specs.Round.{Rounded, round_by}
use Rattle.whole.specs.Root.{IsFloorRoot, IsRootUp, floor_root, root_up}

-- "the one whole number y with", for every even d
abbrev pub RoundedOnce : Type 0
RoundedOnce = (d : ℕ) → 0 < d → d % 2 ≡ 0 → (A y : ℤ) → Exactly (Rounded d A y) (y ≡ round_by d A)

-- the root rounded down, and rounded up
abbrev pub RootsOnce : Type 0
RootsOnce = (n r : ℕ) → Exactly (IsFloorRoot n r) (r ≡ floor_root n) × Exactly (IsRootUp n r) (r ≡ root_up n)
