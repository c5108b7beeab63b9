-- Document 01, first paragraph: the relay's state is lent as a slice of one fixed length; "all zero bytes are a fresh relay".
use Rattle.std.specs.Prelude.{ℕ, ◌+◌, List, replicate}
use Rattle.lent.specs.Lent.{over}
use Rattle.stream.specs.declared.Window.{Window}
use Rattle.stream.specs.Window.{none}
use Rattle.stream.specs.Stored.{stored_length, stored, window_at}
use Rattle.entry.specs.Pair.{Pair, pair_length, pair_at, with_pair}

-- Where each part lies: the main pair of records at the front, and behind it the window that frames are fed to (document 02, CR 1).
abbrev pub main_offset : ℕ
main_offset = 0

abbrev pub window_offset : ℕ
window_offset = main_offset + pair_length

abbrev pub state_length : ℕ
state_length = window_offset + stored_length

abbrev pub fresh_state : List ℕ
fresh_state = replicate state_length 0

abbrev pub settings_of : List ℕ → Pair
settings_of s = pair_at main_offset s

abbrev pub with_settings : List ℕ → Pair → List ℕ
with_settings s p = with_pair main_offset s p

-- "The relay's state gains a window of 336 numbers with a count of frames."
abbrev pub window_of : List ℕ → Window
window_of s = window_at s window_offset

-- "A confirmation answered 0 empties it."
abbrev pub emptied : List ℕ → List ℕ
emptied s = over s window_offset (stored none)
