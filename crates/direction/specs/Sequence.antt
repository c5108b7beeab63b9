-- Document 01, "Sequence quantities and direction" (source document 002): 3V1, 3V2 and 3I2. Rotation is ABC.
use Rattle.std.specs.Prelude.{ℕ, pos, neg_ℤ}
use Rattle.plane.specs.declared.Phasor.{Phasor}
use Rattle.plane.specs.declared.Phases.{Phases}
use Rattle.plane.specs.Plane.{plus, times, scaled, rounded, conjugate}

-- The scale at which a is taken, and by which what is formed at it is rounded.
abbrev pub scale : ℕ
scale = 16384

-- a: "taken as (-8192, 14189) over 16384"
abbrev pub a : Phasor
a = record { re = neg_ℤ (pos 8192); im = pos 14189 }

-- a²: "its conjugate, (-8192, -14189) over 16384, and not a square worked out"
abbrev pub a² : Phasor
a² = conjugate a

-- f P for f = a or a², rounded
unfoldable pub turned : Phasor → Phasor → Phasor
turned f p = rounded scale (times f p)

-- Xa + f Xb + g Xc, "formed at scale 16384 and each component is rounded by 16384"
unfoldable pub sequence : Phasor → Phasor → Phases Phasor → Phasor
sequence f g x = rounded scale (plus (plus (scaled (pos scale) x.a) (times f x.b)) (times g x.c))

-- "3V1 = Va + aVb + a²Vc"
abbrev pub positive_sequence : Phases Phasor → Phasor
positive_sequence v = sequence a a² v

-- "3I2 = Ia + a²Ib + aIc, and 3V2 likewise"
abbrev pub negative_sequence : Phases Phasor → Phasor
negative_sequence i = sequence a² a i
