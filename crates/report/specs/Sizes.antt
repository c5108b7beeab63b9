-- How long numbers and lines get. No rule of document 01 is here: a reader of the rules can pass this file by.
use Rattle.std.specs.Prelude.{ℕ, ◌+◌, ◌*◌}

-- a 64-bit number has at most 20 digits
abbrev pub most_digits : ℕ
most_digits = 20

-- room for the longest line, that of a decided window: 30 bytes of words, and five numbers
abbrev pub line_length : ℕ
line_length = 30 + 5 * most_digits
