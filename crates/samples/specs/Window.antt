-- Document 01, "Window and phasors": how many numbers a window has, how bytes hold them, and the first that is missing.
use Rattle.std.specs.Prelude.{ℕ, suc, ◌+◌, ◌*◌, ◌≡◌, Bool, false, cond, List, [], ◌∷◌, eqb, ℤ, pos, negsuc, length, Option, None, Some}
use Rattle.whole.specs.TwosComplement.{signed}

-- "16 frames in time order".
abbrev pub frames : ℕ
frames = 16

-- The numbers of a frame of N ends: "Va, Vb, Vc, then Ia, Ib, Ic of end 1 (the local end), then of end 2, up to end N".
abbrev pub channels : ℕ → ℕ
channels N = 3 + 3 * N

-- The numbers of a window of N ends: 16(3+3N), "144 for two ends, 336 for six".
abbrev pub window_length : ℕ → ℕ
window_length N = frames * channels N

-- Document 01's opening, "From C the samples come as big-endian bytes": their signed numbers, two bytes each; an odd byte over is in none.
unfoldable pub numbers_of : List ℕ → List ℤ
numbers_of [] = []
numbers_of (high ∷ []) = []
numbers_of (high ∷ low ∷ bytes) = signed (high * 256 + low) ∷ numbers_of bytes

-- The bytes are those of exactly n numbers; for an odd count there is no n: "an odd byte over makes it another length".
abbrev pub HoldsNumbers : ℕ → List ℕ → Type 0
HoldsNumbers n bytes = length bytes ≡ 2 * n

-- "The number -32768 marks a missing sample."
abbrev pub missing_mark : ℤ
missing_mark = negsuc 32767

-- Whether two numbers are the same one.
abbrev pub same : ℤ → ℤ → Bool
same (pos a) (pos b) = eqb a b
same (pos a) (negsuc b) = false
same (negsuc a) (pos b) = false
same (negsuc a) (negsuc b) = eqb a b

-- The first missing number of a list, counted from k.
unfoldable pub missing_from : ℕ → List ℤ → Option ℕ
missing_from k [] = None
missing_from k (x ∷ xs) = cond (same x missing_mark) (Some k) (missing_from (suc k) xs)

-- Refusal 4: "index in the slice" of the first missing number.
unfoldable pub first_missing : List ℤ → Option ℕ
first_missing w = missing_from 0 w
