-- A quoted text as bytes.
use Rattle.std.specs.Prelude.{ℕ}
use Prim.Native.String.{String, [], ◌∷◌}
use Prim.Native.Char.{code}
use mathlib.Core.List as list

-- The codes of its characters.
abbrev pub text : String → list.List ℕ
text [] = list.[]
text (c ∷ s) = list.◌∷◌ (code c) (text s)
