-- A 16-bit number read as a signed one, a settings field or a sample, and back.
use Rattle.std.specs.Prelude.{ℕ, ◌-◌, cond, ltb, ℤ, pos, negsuc, ◌-ℤ◌}

-- Two's complement of 16 bits: v, or v - 65536 from 32768 on.
abbrev pub signed : ℕ → ℤ
signed v = cond (ltb v 32768) (pos v) (pos v -ℤ pos 65536)

-- And back: the 16 bits of a signed number.
abbrev pub unsigned : ℤ → ℕ
unsigned (pos n) = n
unsigned (negsuc n) = 65535 - n
