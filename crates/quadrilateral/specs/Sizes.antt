-- How large the quantities of this crate get, so that nothing exceeds 64 bits. No rule of document 02 is here: a reader of the rules can pass
-- this file by.
use Rattle.std.specs.Prelude.{ℕ, ◌^◌}

-- Z I
abbrev pub drop_size : ℕ
drop_size = 9240000000

-- |n| and |q|
abbrev pub side_size : ℕ
side_size = 2 ^ 52
