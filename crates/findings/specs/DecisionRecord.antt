-- Document 01, "Decision record": the trip rule, and the 32 bytes that tell what was found in a window.
use Rattle.std.specs.Prelude.{ℕ, ◌+◌, ◌*◌, ◌/◌, ◌%◌, List, [], ◌∷◌, ◌++◌, Bool, not, cond, ◌&&◌, ◌||◌, eqb}
use Rattle.direction.specs.declared.Direction.{Direction}
use Rattle.direction.specs.Direction.{is_forward, direction_number}
use Rattle.differential.specs.Differential.{magnitude}
use Rattle.findings.specs.declared.Findings.{Findings}

-- ---- the trip rule

-- a byte of bits has one set
abbrev pub any : ℕ → Bool
any n = not (eqb n 0)

-- AB 8, BC 16 and CA 32 "all assert": these three bits of a byte of loops are set
abbrev pub all_phase_loops : ℕ → Bool
all_phase_loops n = eqb (n / 8 % 8) 7

-- Document 02, CR 4: "if |3I2|² is below its pickup squared and AB, BC and CA all assert in the first zone"
abbrev pub balanced_fault : ℕ → Bool → Bool
balanced_fault asserting unbalanced = not unbalanced && all_phase_loops asserting

-- "1 if any phase operates, or direction is forward and any loop asserts; else 0"; a balanced fault "also sets trip"; of the quadrilaterals
-- "any of them sets trip" (document 02, CR 7). The second zone "does not trip".
abbrev pub trip : ℕ → ℕ → ℕ → Direction → Bool → ℕ
trip operating quadrilaterals asserting direction unbalanced =
    cond (any operating || ((is_forward direction && any asserting) || (balanced_fault asserting unbalanced || any quadrilaterals))) 1 0

-- ---- the bytes

-- "32-bit big-endian": the four bytes of a number below 2^32
abbrev pub word : ℕ → List ℕ
word n = n / 16777216 ∷ n / 65536 % 256 ∷ n / 256 % 256 ∷ n % 256 ∷ []

-- byte 1: "phases a=1, b=2, c=4"; "Bits 8, 16 and 32 .. report A, B and C" (document 02, CR 7)
abbrev pub phase_byte : ℕ → ℕ → ℕ
phase_byte operating quadrilaterals = operating + 8 * quadrilaterals

-- bytes 0 to 3; "Decision byte 4 becomes its six loop bits" (document 02, CR 2); c of each phase "in decision bytes 5, 6 and 7" (CR 6); "U of
-- a, b, c", and "floor of the root of 4096 s, for a, b, c"
abbrev pub decision_bytes : Findings → List ℕ
decision_bytes f =
    trip f.operating f.quadrilaterals f.asserting f.direction f.unbalanced ∷ phase_byte f.operating f.quadrilaterals
    ∷ f.asserting ∷ direction_number f.direction ∷ f.overreaching ∷ f.changes.a ∷ f.changes.b ∷ f.changes.c
    ∷ word f.comparisons.a.restraint ++ word f.comparisons.b.restraint ++ word f.comparisons.c.restraint
    ++ word (magnitude f.comparisons.a) ++ word (magnitude f.comparisons.b) ++ word (magnitude f.comparisons.c)
