-- Document 01, "Settings record": checks go by offset.
use Rattle.std.specs.Prelude.{ℕ, ◌+◌, ◌*◌, ◌≡◌, List, [], ◌∷◌, Bool, true, false, cond, ◌&&◌, ◌||◌, get_or, ℤ, eqb, leb, ⊤, Result, Ok, Err}
use Rattle.std.specs.Int.Signed.{le_z, lt_z}
use Rattle.settings.specs.declared.Fault.{Fault}
use Rattle.settings.specs.Record.{field_at, signed_at}
use Rattle.settings.specs.Table.{Rule, Unsigned, Signed, Squares, Below, OffOrFrom, Byte, offset_of, settings_table}

-- From a least to a greatest number.
abbrev pub between : ℕ → ℕ → ℕ → Bool
between low high v = leb low v && leb v high

abbrev pub between_signed : ℤ → ℤ → ℤ → Bool
between_signed low high v = le_z low v && le_z v high

-- 0, or from a least to a greatest number.
abbrev pub off_or_between : ℕ → ℕ → ℕ → Bool
off_or_between low high v = eqb v 0 || between low high v

-- Whether a record keeps a rule.
abbrev pub holds : List ℕ → Rule → Bool
holds s (Unsigned at low high) = between low high (field_at s at)
holds s (Signed at low high) = between_signed low high (signed_at s at)
holds s (Squares x y low high) = between low high (field_at s x * field_at s x + field_at s y * field_at s y)
holds s (Below x y) = lt_z (signed_at s x) (signed_at s y)
holds s (OffOrFrom x y high) = off_or_between (field_at s x) high (field_at s y)
holds s (Byte at low high) = between low high (get_or s at 0)

-- What a check finds: nothing, or a fault.
abbrev pub Checked : Type 0
Checked = Result ⊤ Fault

abbrev pub fault : ℕ → Checked
fault k = Err (record { at = k })

-- What a test finds: nothing where a rule is kept, else a fault at an offset.
abbrev pub judged : Bool → ℕ → Checked
judged kept at = cond kept (Ok tt) (fault at)

-- The first rule of a list that a record breaks.
unfoldable pub checked_by : List Rule → List ℕ → Checked
checked_by [] s = Ok tt
checked_by (r ∷ rs) s = cond (holds s r) (checked_by rs s) (fault (offset_of r))

-- The first rule of a list that a record breaks is one that is reported at k: "Checks go by offset."
pub data FirstFault : List Rule → List ℕ → ℕ → Type 0 where
  here : {r : Rule} {rs : List Rule} {s : List ℕ} → holds s r ≡ false → FirstFault (r ∷ rs) s (offset_of r)
  later : {r : Rule} {rs : List Rule} {s : List ℕ} {k : ℕ} → holds s r ≡ true → FirstFault rs s k → FirstFault (r ∷ rs) s k

-- What the check of a record finds.
abbrev pub checked : List ℕ → Checked
checked s = checked_by settings_table s
