-- Worked examples of document 01's "Settings record": the record of its "Window program", and that record with one field changed, each with
-- what the check finds in it, on both sides of every limit that one field can show. And the table's own order: "Checks go by offset."
use Rattle.std.specs.Prelude.{ℕ, ◌+◌, ◌/◌, ◌%◌, ◌≡◌, List, [], ◌∷◌, map, Bool, true, ◌&&◌, set, leb, Ok}
use Rattle.settings.specs.Table.{offset_of, settings_table}
use Rattle.settings.specs.Check.{Checked, fault, checked}

-- N = 2, slope 15, pickup 100
abbrev pub example_record : List ℕ
example_record =
    0x00 ∷ 0x02 ∷ 0x00 ∷ 0x0F ∷ 0x00 ∷ 0x64 ∷ 0x00 ∷ 0x00 ∷ 0x03 ∷ 0xE8 ∷ 0x03 ∷ 0x52 ∷ 0x02 ∷ 0x9B ∷ 0x00 ∷ 0x00
    ∷ 0x00 ∷ 0x00 ∷ 0x03 ∷ 0xE8 ∷ 0xFE ∷ 0xD4 ∷ 0x01 ∷ 0x2C ∷ 0x00 ∷ 0x32 ∷ 0x00 ∷ 0x00 ∷ 0x00 ∷ 0x00 ∷ 0x00 ∷ 0x00 ∷ []

-- a record with another number at an offset
abbrev pub changed : List ℕ → ℕ → ℕ → List ℕ
changed s at v = set (set s at (v / 256)) (at + 1) (v % 256)

pub record Example : Type 0 where
  pub at : ℕ
  pub number : ℕ
  pub finding : Checked

abbrev pub example : ℕ → ℕ → Checked → Example
example at v f = record { at = at; number = v; finding = f }

abbrev pub examples : List Example
examples =
    -- ends
    example 0 1 (fault 0) ∷ example 0 2 (Ok tt) ∷ example 0 6 (Ok tt) ∷ example 0 7 (fault 0)
    -- slope
    ∷ example 2 0 (fault 2) ∷ example 2 1 (Ok tt) ∷ example 2 15 (Ok tt) ∷ example 2 50 (Ok tt) ∷ example 2 100 (Ok tt)
    ∷ example 2 101 (fault 2)
    -- differential pickup
    ∷ example 4 0 (fault 4) ∷ example 4 1 (Ok tt) ∷ example 4 42000 (Ok tt) ∷ example 4 42001 (fault 4)
    -- replica impedance, real
    ∷ example 6 0 (Ok tt) ∷ example 6 20000 (Ok tt) ∷ example 6 20001 (fault 6)
    -- and imaginary
    ∷ example 8 0 (fault 8) ∷ example 8 1 (Ok tt) ∷ example 8 20000 (Ok tt) ∷ example 8 20001 (fault 8)
    -- reach
    ∷ example 10 0 (fault 10) ∷ example 10 1 (Ok tt) ∷ example 10 2000 (Ok tt) ∷ example 10 2001 (fault 10)
    -- k, real
    ∷ example 12 0 (Ok tt) ∷ example 12 1000 (Ok tt) ∷ example 12 1001 (fault 12)
    -- and imaginary: -501, -500, 500, 501
    ∷ example 14 65035 (fault 14) ∷ example 14 65036 (Ok tt) ∷ example 14 500 (Ok tt) ∷ example 14 501 (fault 14)
    -- line angle, real, beside 1000: 44² keeps the sum of squares, 45² does not
    ∷ example 16 44 (Ok tt) ∷ example 16 45 (fault 18) ∷ example 16 1000 (fault 18) ∷ example 16 1001 (fault 16)
    -- and imaginary, beside 0
    ∷ example 18 998 (fault 18) ∷ example 18 999 (Ok tt) ∷ example 18 1000 (Ok tt) ∷ example 18 1001 (fault 18)
    -- forward limit, beside 300: -20001, -20000; 20000 is in range, but not below 300
    ∷ example 20 45535 (fault 20) ∷ example 20 45536 (Ok tt) ∷ example 20 299 (Ok tt) ∷ example 20 300 (fault 22)
    ∷ example 20 20000 (fault 22) ∷ example 20 20001 (fault 20)
    -- reverse limit, beside -300: -300, -299
    ∷ example 22 65236 (fault 22) ∷ example 22 65237 (Ok tt) ∷ example 22 20000 (Ok tt) ∷ example 22 20001 (fault 22)
    -- pickup of 3I2
    ∷ example 24 0 (fault 24) ∷ example 24 1 (Ok tt) ∷ example 24 42000 (Ok tt) ∷ example 24 42001 (fault 24)
    -- second reach, beside a first of 850: byte 27 alone, byte 26 alone; off is the record itself
    ∷ example 26 1 (fault 26) ∷ example 26 256 (fault 26) ∷ example 26 849 (fault 26) ∷ example 26 850 (Ok tt) ∷ example 26 2000 (Ok tt)
    ∷ example 26 2001 (fault 26)
    -- resistive reach: byte 29 alone, byte 28 alone, and its limit; off is the record itself
    ∷ example 28 1 (Ok tt) ∷ example 28 256 (Ok tt) ∷ example 28 1000 (Ok tt) ∷ example 28 1001 (fault 28) ∷ example 28 65535 (fault 28)
    -- spare bytes
    ∷ example 30 256 (fault 30) ∷ example 30 1 (fault 31)
    ∷ []

-- One claim over the table of examples.
abbrev pub AsFound : Type 0
AsFound = map (λ x. checked (changed example_record x.at x.number)) examples ≡ map (λ x. x.finding) examples

-- each number of a list is at most the next
abbrev pub ascending : ℕ → List ℕ → Bool
ascending n [] = true
ascending n (m ∷ ms) = leb n m && ascending m ms

abbrev pub ByOffset : Type 0
ByOffset = ascending 0 (map offset_of settings_table) ≡ true
