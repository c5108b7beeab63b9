-- How large the quantities of this crate get, so that nothing exceeds 64 bits. No rule of document 01 is here: a reader of the rules can pass
-- this file by. proofs/Sizes.antt shows each.
use Rattle.std.specs.Prelude.{ℕ}
use Rattle.whole.specs.Sizes.{Within}
use Rattle.plane.specs.declared.Phasor.{Phasor}

-- the sequence quantities
abbrev pub sequence_size : ℕ
sequence_size = 160000

-- aP and a²P
abbrev pub polarising_size : ℕ
polarising_size = 220000

-- the factors a and a²
pub record Turn (f : Phasor) : Type 0 where
  pub real : Within 8192 f.re
  pub imag : Within 14189 f.im

-- |3I2|²
abbrev pub square_size : ℕ
square_size = 100000000000
