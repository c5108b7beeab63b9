-- How many numbers the code takes out of bytes. No rule of document 01 is here: a reader of the rules can pass this file by.
use Rattle.std.specs.Prelude.{ℕ, ◌*◌, ◌/◌, cond, ◌&&◌, List, eqb, leb, length}
use Rattle.samples.specs.Window.{window_length}

-- Half the byte count. If that count is odd, or the numbers are more than any window has, it is 0, which is no window's length.
abbrev pub count : List ℕ → ℕ
count bytes =
    cond (eqb (2 * (length bytes / 2)) (length bytes) && leb (length bytes / 2) (window_length 6)) (length bytes / 2) 0
