-- Document 01, "Settings record": the fields that describe the line, as complex numbers.
use Rattle.std.specs.Prelude.{ℕ, List, pos}
use Rattle.settings.specs.Fields.{replica_real, replica_imaginary, k_real, k_imaginary}
use Rattle.plane.specs.declared.Phasor.{Phasor}

-- Z, the replica impedance, thousandths
abbrev pub replica : List ℕ → Phasor
replica s = record { re = pos (replica_real s); im = pos (replica_imaginary s) }

-- k, thousandths
abbrev pub compensation : List ℕ → Phasor
compensation s = record { re = pos (k_real s); im = k_imaginary s }
