-- What a request must not move is said by way of what stays alike: two records that differ in one field, records whose field is zero, and a
-- decision's 32 bytes with some of them as they were.
use Rattle.std.specs.Prelude.{ℕ, ◌+◌, ◌≡◌, List, ◌∷◌, ◌++◌, get_or, Ok}
use Rattle.plane.specs.declared.Phases.{Phases}
use Rattle.whole.specs.Exactly.{Exactly}
use Rattle.settings.specs.Record.{field_at}
use Rattle.settings.specs.Table.{Rule, Byte, offset_of, second_reach_row, differential_rows, distance_rows, angle_rows, direction_rows, spare_rows}
use Rattle.settings.specs.Check.{checked_by}
use Rattle.direction.specs.Direction.{direction_number}
use Rattle.differential.specs.Differential.{magnitude}
use Rattle.findings.specs.declared.Findings.{Findings}
use Rattle.findings.specs.DecisionRecord.{word}

-- Two records that have the same bytes, but for the field of a row.
abbrev pub SameBut : Rule → List ℕ → List ℕ → Type 0
SameBut row s t = (k : ℕ) → (k ≡ offset_of row → ⊥) → (k ≡ offset_of row + 1 → ⊥) → get_or s k 0 ≡ get_or t k 0

-- The table before CR 7, with bytes 28 and 29 spare; and document 01's, before CR 2, with 26 and 27 spare too.
abbrev pub table_before_r : List Rule
table_before_r = differential_rows ++ distance_rows ++ angle_rows ++ direction_rows ++ second_reach_row ∷ Byte 28 0 0 ∷ Byte 29 0 0 ∷ spare_rows

abbrev pub table_of01 : List Rule
table_of01 = differential_rows ++ distance_rows ++ angle_rows ++ direction_rows ++ Byte 26 0 0 ∷ Byte 27 0 0 ∷ Byte 28 0 0 ∷ Byte 29 0 0 ∷ spare_rows

-- Records from before a request that gave two spare bytes a meaning: by the table since, and by the table before.
pub record FromBefore (row : Rule) (since before : List Rule) : Type 0 where
  -- a record in which both bytes are zero is found as before: good, or bad at the same place
  pub found_alike : (s : List ℕ) → get_or s (offset_of row) 0 ≡ 0 → get_or s (offset_of row + 1) 0 ≡ 0 → checked_by since s ≡ checked_by before s
  -- and a record was good before exactly if it is good since and the field is 0
  pub good_before : (s : List ℕ) → Exactly (checked_by before s ≡ Ok tt) ((checked_by since s ≡ Ok tt) × (field_at s (offset_of row) ≡ 0))

-- The bytes of a decision once more, with what requests have changed as it is given: byte 0 (document 02, CR 4), byte 1 (CR 7), and bytes 5 to
-- 7 (CR 6).
abbrev pub record_with : ℕ → ℕ → Phases ℕ → Findings → List ℕ
record_with trip phases changes f =
    trip ∷ phases ∷ f.asserting ∷ direction_number f.direction ∷ f.overreaching ∷ changes.a ∷ changes.b ∷ changes.c
    ∷ word f.comparisons.a.restraint ++ word f.comparisons.b.restraint ++ word f.comparisons.c.restraint
    ++ word (magnitude f.comparisons.a) ++ word (magnitude f.comparisons.b) ++ word (magnitude f.comparisons.c)
