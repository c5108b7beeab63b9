-- Demand 3 (document 01, "Percentage differential") about the decision itself: bit p of its byte 1, and c of the phase, for every window that
-- was accepted, with N, K and the pickup of the record r in force. x gives "the unrounded sums A and B" of each end in the phase.
use Rattle.std.specs.Prelude.{ℕ, ◌+◌, ◌*◌, ◌≤◌, ◌<◌, ◌≡◌, true, ◌⊎◌, List, [], ◌∷◌, map, ℤ, pos, replicate}
use Rattle.decision_claims.specs.Bits.{is_set, AllOf}
use Rattle.plane.specs.declared.Phasor.{Phasor}
use Rattle.decision.specs.Decision.{rate_of}
use Rattle.phasors.specs.Grid.{exact_current}
use Rattle.settings.specs.Record.{negated}
use Rattle.settings.specs.Fields.{ends, slope, pickup}
use Rattle.settings.specs.Examples.{example_record}
use Rattle.differential.specs.Demand3.{NotBelow, Above, band}
use Rattle.claims.specs.Decisions.{Decision}
use Rattle.decision_claims.specs.Demand2.{square_of, Balanced, byte}

-- A and B of each end
abbrev pub sums : List ℕ → List ℤ → ℕ → ℕ → Phasor
sums r w p = exact_current (rate_of r) w (ends r) p

-- "If a phase operates, 100(F + 1 + 196608Nm) > K L for every m."
abbrev pub Demand3First : Type 0
Demand3First =
    (r : List ℕ) (w : List ℤ) (out d : List ℕ) (p : ℕ) → p < 3 → Decision r w out d
    → is_set p (byte d 1) ≡ true → NotBelow band (slope r) (ends r) (sums r w p)

-- "If s >= pickup² and for some m, 100F >= K H + 19660800Nm, it operates." And so it trips.
abbrev pub Demand3Second : Type 0
Demand3Second =
    (r : List ℕ) (w : List ℤ) (out d : List ℕ) (p : ℕ) → p < 3 → Decision r w out d
    → pickup r * pickup r ≤ square_of r w p → (m : ℕ) → 1 ≤ m → Above band (slope r) (ends r) (sums r w p) m
    → (is_set p (byte d 1) ≡ true) × (byte d 0 ≡ 1)

-- What the two say of c (document 02, CR 6): the exact currents are not below c percent, less the band; and where the pickup is reached they
-- are not above c + 1 percent by more than the band.
abbrev pub Demand3OfChange : Type 0
Demand3OfChange =
    (r : List ℕ) (w : List ℤ) (out d : List ℕ) (p : ℕ) → p < 3 → Decision r w out d
    → NotBelow band (byte d (5 + p)) (ends r) (sums r w p)
    × (pickup r * pickup r ≤ square_of r w p → (m : ℕ) → 1 ≤ m → Above band (byte d (5 + p) + 1) (ends r) (sums r w p) m → ⊥)

-- So a trip has its reason: a phase whose bit is set, which the first half allows; or a fault ahead in which a loop asserts; or a balanced
-- fault, which has no direction, in which AB, BC and CA assert (document 02, CR 4); or a fault ahead that a quadrilateral sees (CR 7).
abbrev pub TripHasReason : Type 0
TripHasReason =
    (r : List ℕ) (w : List ℤ) (out d : List ℕ) → Decision r w out d → byte d 0 ≡ 1
    → ((p : ℕ) × (p < 3) × (is_set p (byte d 1) ≡ true) × NotBelow band (slope r) (ends r) (sums r w p))
    ⊎ (((byte d 3 ≡ 1) × (byte d 2 ≡ 0 → ⊥))
    ⊎ ((Balanced r w × (byte d 3 ≡ 0) × AllOf (map (λ k. is_set k (byte d 2) ≡ true) (3 ∷ 4 ∷ 5 ∷ [])))
    ⊎ ((byte d 3 ≡ 1) × (8 ≤ byte d 1))))

-- ---- neither half is empty, by two windows of two ends and the record of document 01's "Window program": slope 15, pickup 100

-- a window in which phase a has one sample x at end 1 and y at end 2, both at n = 0
abbrev pub window_with : ℤ → ℤ → List ℤ
window_with x y = pos 0 ∷ pos 0 ∷ pos 0 ∷ x ∷ pos 0 ∷ pos 0 ∷ y ∷ pos 0 ∷ pos 0 ∷ replicate 135 (pos 0)

-- 1000 counts flow in, and none out
abbrev pub fault : List ℤ
fault = window_with (pos 8000) (pos 0)

-- what flows in flows out
abbrev pub through : List ℤ
through = window_with (pos 8000) (negated 8000)

-- A relay that never trips contradicts the second half: of this window it says that there is a trip.
abbrev pub FaultTrips : Type 0
FaultTrips = (out d : List ℕ) → Decision example_record fault out d → byte d 0 ≡ 1

-- One in which every phase always operates contradicts the first: of this window it says that phase a does not.
abbrev pub ThroughDoesNot : Type 0
ThroughDoesNot = (out d : List ℕ) → Decision example_record through out d → is_set 0 (byte d 1) ≡ true → ⊥

-- One that always trips, by whatever reason: in this window no phase operates and no loop asserts.
abbrev pub ThroughIsQuiet : Type 0
ThroughIsQuiet = (out d : List ℕ) → Decision example_record through out d → byte d 0 ≡ 0
