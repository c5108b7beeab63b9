-- Document 01, "Settings record": the table as data, in the order of the checks. Each field's row has a name, and it alone says the offset
-- and the limits: `Fields` takes both from it. A sum-of-squares fault is at 18 and zf not below zr at 22, each found when that offset's own range has
-- passed; every fault of the second reach is at 26 (document 02, CR 2), and of the resistive reach at 28 (CR 7); each spare byte is at its own offset.
use Rattle.std.specs.Prelude.{ℕ, List, [], ◌∷◌, ◌++◌, ℤ, pos}
use Rattle.settings.specs.Record.{negated}

-- One rule of the table.
pub data Rule : Type 0 where
  -- the field at an offset, from a least to a greatest number
  Unsigned : (at low high : ℕ) → Rule
  -- the same of a signed field
  Signed : (at : ℕ) (low high : ℤ) → Rule
  -- the sum of the squares of two fields, from a least to a greatest number
  Squares : (x y low high : ℕ) → Rule
  -- a signed field below another
  Below : (x y : ℕ) → Rule
  -- a field that is 0, which is off, or from the number of another field to a greatest one
  OffOrFrom : (x y high : ℕ) → Rule
  -- the byte at an offset, from a least to a greatest number
  Byte : (at low high : ℕ) → Rule

-- The offset of a rule, at which a fault of it is reported: of a rule on two fields, the later one's.
abbrev pub offset_of : Rule → ℕ
offset_of (Unsigned at low high) = at
offset_of (Signed at low high) = at
offset_of (Squares x y low high) = y
offset_of (Below x y) = y
offset_of (OffOrFrom x y high) = y
offset_of (Byte at low high) = at

-- ---- the limits that have a name of their own: those of more rows than one, and those from which the layers above reckon how large a
-- quantity can get

-- ends
abbrev pub most_ends : ℕ
most_ends = 6

-- the slope, percent
abbrev pub most_slope : ℕ
most_slope = 100

-- the pickups, counts
abbrev pub most_counts : ℕ
most_counts = 42000

-- the replica impedance, thousandths
abbrev pub most_replica : ℕ
most_replica = 20000

-- both reaches, thousandths of the replica
abbrev pub most_reach : ℕ
most_reach = 2000

-- k real, and imaginary either way from zero, thousandths
abbrev pub most_k_real : ℕ
most_k_real = 1000

abbrev pub most_k_imaginary : ℕ
most_k_imaginary = 500

-- the line angle D
abbrev pub most_angle : ℕ
most_angle = 1000

-- the sum of the squares of its two parts
abbrev pub least_squares : ℕ
least_squares = 998000

abbrev pub most_squares : ℕ
most_squares = 1002000

-- zf and zr, either way from zero
abbrev pub most_limit : ℕ
most_limit = 20000

-- the resistive reach, tenths of a voltage count for a current count
abbrev pub most_resistive_reach : ℕ
most_resistive_reach = 1000

-- ---- the rows by name

-- ends N
abbrev pub ends_row : Rule
ends_row = Unsigned 0 2 most_ends

-- slope K, percent
abbrev pub slope_row : Rule
slope_row = Unsigned 2 1 most_slope

-- differential pickup, counts
abbrev pub pickup_row : Rule
pickup_row = Unsigned 4 1 most_counts

-- replica impedance real, imaginary, thousandths
abbrev pub replica_real_row : Rule
replica_real_row = Unsigned 6 0 most_replica

abbrev pub replica_imaginary_row : Rule
replica_imaginary_row = Unsigned 8 1 most_replica

-- reach r, thousandths of the replica
abbrev pub reach_row : Rule
reach_row = Unsigned 10 1 most_reach

-- k real, imaginary, thousandths
abbrev pub k_real_row : Rule
k_real_row = Unsigned 12 0 most_k_real

abbrev pub k_imaginary_row : Rule
k_imaginary_row = Signed 14 (negated most_k_imaginary) (pos most_k_imaginary)

-- line angle D real, imaginary, and their sum of squares
abbrev pub angle_real_row : Rule
angle_real_row = Unsigned 16 0 most_angle

abbrev pub angle_imaginary_row : Rule
angle_imaginary_row = Unsigned 18 0 most_angle

abbrev pub angle_size_row : Rule
angle_size_row = Squares (offset_of angle_real_row) (offset_of angle_imaginary_row) least_squares most_squares

-- forward limit zf, reverse limit zr, and zf < zr
abbrev pub forward_limit_row : Rule
forward_limit_row = Signed 20 (negated most_limit) (pos most_limit)

abbrev pub reverse_limit_row : Rule
reverse_limit_row = Signed 22 (negated most_limit) (pos most_limit)

abbrev pub limits_order_row : Rule
limits_order_row = Below (offset_of forward_limit_row) (offset_of reverse_limit_row)

-- pickup of 3I2, counts
abbrev pub negative_sequence_pickup_row : Rule
negative_sequence_pickup_row = Unsigned 24 1 most_counts

-- second reach, thousandths of the replica: "0 is off, else 1 to 2000 and not below the first reach" (document 02, CR 2). The first is 1 at
-- least.
abbrev pub second_reach_row : Rule
second_reach_row = OffOrFrom (offset_of reach_row) 26 most_reach

-- resistive reach R, tenths: "0 is off, 1 to 1000" (document 02, CR 7)
abbrev pub resistive_reach_row : Rule
resistive_reach_row = Unsigned 28 0 most_resistive_reach

-- ---- the parts of the table: the code has one function for each

abbrev pub differential_rows : List Rule
differential_rows = ends_row ∷ slope_row ∷ pickup_row ∷ []

abbrev pub distance_rows : List Rule
distance_rows = replica_real_row ∷ replica_imaginary_row ∷ reach_row ∷ k_real_row ∷ k_imaginary_row ∷ []

abbrev pub angle_rows : List Rule
angle_rows = angle_real_row ∷ angle_imaginary_row ∷ angle_size_row ∷ []

abbrev pub direction_rows : List Rule
direction_rows = forward_limit_row ∷ reverse_limit_row ∷ limits_order_row ∷ negative_sequence_pickup_row ∷ []

-- zero bytes, so far without a use
abbrev pub spare_rows : List Rule
spare_rows = Byte 30 0 0 ∷ Byte 31 0 0 ∷ []

-- bytes 26 to 31: a field that takes some of them up stands here, before those that are still spare
abbrev pub tail_rows : List Rule
tail_rows = second_reach_row ∷ resistive_reach_row ∷ spare_rows

unfoldable pub settings_table : List Rule
settings_table = differential_rows ++ distance_rows ++ angle_rows ++ direction_rows ++ tail_rows
