-- Document 01, "Settings record": the fields by name, each where its row of the table says, and the range of each in every good record.
use Rattle.std.specs.Prelude.{ℕ, ◌+◌, ◌*◌, ◌≤◌, ◌≡◌, ◌⊎◌, List, [], ◌∷◌, get_or, ℤ, ◌≤ℤ◌, ◌<ℤ◌}
use Rattle.std.proofs.Common.{inl, inr, ap, arith}
use Rattle.std.proofs.Props.{props}
use Rattle.settings.specs.Record.{field_at, signed_at}
use Rattle.settings.specs.Table.{most_reach, Rule, Unsigned, Signed, Squares, Below, OffOrFrom, Byte, offset_of, ends_row, slope_row, pickup_row, replica_real_row, replica_imaginary_row, reach_row, k_real_row, k_imaginary_row, angle_real_row, angle_imaginary_row, angle_size_row, forward_limit_row, reverse_limit_row, limits_order_row, negative_sequence_pickup_row, second_reach_row, resistive_reach_row, spare_rows}

-- N, the ends of the line.
abbrev pub ends : List ℕ → ℕ
ends s = field_at s (offset_of ends_row)

-- K, percent.
abbrev pub slope : List ℕ → ℕ
slope s = field_at s (offset_of slope_row)

-- The differential's pickup, counts.
abbrev pub pickup : List ℕ → ℕ
pickup s = field_at s (offset_of pickup_row)

-- The replica impedance Z, thousandths.
abbrev pub replica_real : List ℕ → ℕ
replica_real s = field_at s (offset_of replica_real_row)

abbrev pub replica_imaginary : List ℕ → ℕ
replica_imaginary s = field_at s (offset_of replica_imaginary_row)

-- r, thousandths of the replica.
abbrev pub reach : List ℕ → ℕ
reach s = field_at s (offset_of reach_row)

-- k, thousandths.
abbrev pub k_real : List ℕ → ℕ
k_real s = field_at s (offset_of k_real_row)

abbrev pub k_imaginary : List ℕ → ℤ
k_imaginary s = signed_at s (offset_of k_imaginary_row)

-- The line angle D.
abbrev pub angle_real : List ℕ → ℕ
angle_real s = field_at s (offset_of angle_real_row)

abbrev pub angle_imaginary : List ℕ → ℕ
angle_imaginary s = field_at s (offset_of angle_imaginary_row)

-- zf and zr.
abbrev pub forward_limit : List ℕ → ℤ
forward_limit s = signed_at s (offset_of forward_limit_row)

abbrev pub reverse_limit : List ℕ → ℤ
reverse_limit s = signed_at s (offset_of reverse_limit_row)

-- The pickup of 3I2, counts.
abbrev pub negative_sequence_pickup : List ℕ → ℕ
negative_sequence_pickup s = field_at s (offset_of negative_sequence_pickup_row)

-- The second reach, thousandths of the replica; 0 where the second zone is off (document 02, CR 2).
abbrev pub second_reach : List ℕ → ℕ
second_reach s = field_at s (offset_of second_reach_row)

-- R, the resistive reach, tenths of a voltage count for a current count; 0 where the quadrilaterals are off (document 02, CR 7).
abbrev pub resistive_reach : List ℕ → ℕ
resistive_reach s = field_at s (offset_of resistive_reach_row)

-- ---- what it is to keep a rule, as a fact about numbers

-- From a least to a greatest number.
pub record From (low high v : ℕ) : Type 0 where
  pub least : low ≤ v
  pub most : v ≤ high

pub record FromSigned (low high v : ℤ) : Type 0 where
  pub least : low ≤ℤ v
  pub most : v ≤ℤ high

-- A record keeps a rule.
abbrev pub Keeps : List ℕ → Rule → Type 0
Keeps s (Unsigned at low high) = From low high (field_at s at)
Keeps s (Signed at low high) = FromSigned low high (signed_at s at)
Keeps s (Squares x y low high) = From low high (field_at s x * field_at s x + field_at s y * field_at s y)
Keeps s (Below x y) = signed_at s x <ℤ signed_at s y
Keeps s (OffOrFrom x y high) = (field_at s y ≡ 0) ⊎ From (field_at s x) high (field_at s y)
Keeps s (Byte at low high) = From low high (get_or s at 0)

-- Every rule of a list is kept.
abbrev pub AllKept : List Rule → List ℕ → Type 0
AllKept [] s = Unit {0}
AllKept (r ∷ rs) s = Keeps s r × AllKept rs s

-- The rows of the table that a record keeps, by name: `ends_range` is that `ends s` is from 2 to 6.
pub record Ranges (s : List ℕ) : Type 0 where
  pub ends_range : Keeps s ends_row
  pub slope_range : Keeps s slope_row
  pub pickup_range : Keeps s pickup_row
  pub replica_real_range : Keeps s replica_real_row
  pub replica_imaginary_range : Keeps s replica_imaginary_row
  pub reach_range : Keeps s reach_row
  pub k_real_range : Keeps s k_real_row
  pub k_imaginary_range : Keeps s k_imaginary_row
  pub angle_real_range : Keeps s angle_real_row
  pub angle_imaginary_range : Keeps s angle_imaginary_row
  pub angle_size : Keeps s angle_size_row
  pub forward_limit_range : Keeps s forward_limit_row
  pub reverse_limit_range : Keeps s reverse_limit_row
  pub limits_order : Keeps s limits_order_row
  pub negative_sequence_pickup_range : Keeps s negative_sequence_pickup_row
  pub second_reach_range : Keeps s second_reach_row
  pub resistive_reach_range : Keeps s resistive_reach_row
  pub spare_bytes : AllKept spare_rows s

-- ---- a record is in its ranges in one way only: so a struct may hold the fact

-- A second reach that is off is not from the first one up, which is 1 at least.
pub second_reach-prop : {low v : ℕ} → From 1 most_reach low → IsProp ((v ≡ 0) ⊎ From low most_reach v)
second_reach-prop h (inl x) (inl y) = ap inl (hlevel props)
second_reach-prop h (inl x) (inr y) = absurd (omega arith)
second_reach-prop h (inr x) (inl y) = absurd (omega arith)
second_reach-prop h (inr x) (inr y) = ap inr (hlevel props)

pub Ranges-prop : (s : List ℕ) → IsProp (Ranges s)
Ranges-prop s = hlevel (props, second_reach-prop)
