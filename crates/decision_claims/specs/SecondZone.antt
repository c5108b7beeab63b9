-- Document 02, CR 2: the second zone beside the first, and what it does not move. s is the settings record in force, w the window's numbers,
-- and d what the buffer holds after the call.
use Rattle.std.specs.Prelude.{ℕ, ◌≡◌, List, true, ℤ}
use Rattle.settings.specs.Table.{second_reach_row}
use Rattle.settings.specs.Fields.{second_reach}
use Rattle.decision_claims.specs.Bits.{is_set}
use Rattle.decision_claims.specs.Alike.{SameBut, table_before_r, table_of01, FromBefore}
use Rattle.claims.specs.Decisions.{Decision}
use Rattle.decision_claims.specs.Demand2.{byte}

-- "an overreaching zone": where it is on, a loop that asserts in the first zone asserts in the second. k is the loop's bit.
abbrev pub SecondZoneHasFirst : Type 0
SecondZoneHasFirst =
    (s : List ℕ) (w : List ℤ) (out d : List ℕ) → Decision s w out d → (second_reach s ≡ 0 → ⊥)
    → (k : ℕ) → is_set k (byte d 2) ≡ true → is_set k (byte d 4) ≡ true

-- "It does not trip": by two records that differ in the second reach alone every byte of the decision on a window is the same, but byte 4.
abbrev pub OtherBytesStay : Type 0
OtherBytesStay =
    (s t : List ℕ) (w : List ℤ) (out d e : List ℕ) → SameBut second_reach_row s t → Decision s w out d → Decision t w out e
    → (k : ℕ) → (k ≡ 4 → ⊥) → byte d k ≡ byte e k

-- "Records from before read as off": those of document 01's table, in which bytes 26 and 27 were spare.
abbrev pub RecordsFromBefore : Type 0
RecordsFromBefore = FromBefore second_reach_row table_before_r table_of01
