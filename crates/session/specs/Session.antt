-- Document 01, "Window program": what the session prints for an input. In these definitions s is the relay's state, xs what is left of the
-- input.
use Rattle.std.specs.Prelude.{ℕ, zero, suc, ◌+◌, ◌-◌, ◌^◌, ◌≡◌, Bool, cond, not, Option, List, [], ◌++◌, length, take, drop, replicate, eqb}
use Rattle.std.specs.Io.KnownBytes.{Appends}
use Rattle.answers.specs.Answers.{given_back}
use Rattle.samples.specs.Window.{numbers_of}
use Rattle.entry.specs.Pair.{record_length}
use Rattle.gorsepetal.specs.State.{fresh_state}
use Rattle.gorsepetal.specs.Calls.{propose_answer, propose_state, confirm_answer, confirm_state, window_bytes, fits_bytes, decide_answer, decide_out}
use Rattle.gorsepetal.specs.declared.TheConstants.{DECISION_LENGTH}
use Rattle.report.specs.Program.{settings_refused, window_line}
use Rattle.session.specs.Taken.{Takes}

-- "A bad entry prints .. and ends": what stands for an entry for which r was given back, `more` being printed after a good one.
abbrev pub entry_text : (r : ℕ) (more : List ℕ) → List ℕ
entry_text r more = cond (eqb r 0) more (settings_refused r)

-- The buffer that decide is lent.
abbrev pub blank : List ℕ
blank = replicate DECISION_LENGTH 0

-- The line of a window of the bytes w.
unfoldable pub line_of : (s w : List ℕ) (number : ℕ) → List ℕ
line_of s w number =
    window_line number (given_back (decide_answer s (fits_bytes s w) (numbers_of w) blank)) (decide_out s (fits_bytes s w) (numbers_of w) blank)

-- One window: its bytes w are taken from the input, and its line is printed; nothing is printed where the input has ended.
pub record Windowed (before after : Option (List ℕ)) (s : List ℕ) (number : ℕ) (printed printed' : Option (List ℕ)) (more : Bool) : Type 0 where
  pub w : List ℕ
  pub taken : Takes before after (window_bytes s) w
  pub went_on : more ≡ not (eqb (length w) 0)
  pub line : Appends printed printed' (cond more (line_of s w number) [])

-- "and reading goes on": the lines of at most so many windows, to the end of the input. "Windows are numbered from 1, refused ones counted."
unfoldable pub lines_from : (most : ℕ) (s xs : List ℕ) (number : ℕ) → List ℕ
lines_from zero s xs number = []
lines_from (suc most) s xs number =
    let w = take (window_bytes s) xs in
    cond (eqb (length w) 0) [] (line_of s w number ++ lines_from most s (drop (window_bytes s) xs) (number + 1))

-- The number of a window has 64 bits, and the largest is given to none.
abbrev pub most_windows : ℕ
most_windows = 2 ^ 64 - 2

unfoldable pub lines : (s xs : List ℕ) → List ℕ
lines s xs = lines_from most_windows s xs 1

-- "It reads .. a proposal, a confirmation, then windows": where each begins in the input, and the relay after each entry.
abbrev pub proposal : List ℕ → List ℕ
proposal xs = take record_length xs

abbrev pub behind_proposal : List ℕ → List ℕ
behind_proposal xs = drop record_length xs

abbrev pub proposed : List ℕ → List ℕ
proposed xs = propose_state fresh_state (proposal xs)

abbrev pub confirmation : List ℕ → List ℕ
confirmation xs = take record_length (behind_proposal xs)

abbrev pub confirmed : List ℕ → List ℕ
confirmed xs = confirm_state (proposed xs) (confirmation xs)

abbrev pub windows : List ℕ → List ℕ
windows xs = drop record_length (behind_proposal xs)

-- All that is printed for an input.
unfoldable pub session_text : List ℕ → List ℕ
session_text xs =
    entry_text (given_back (propose_answer fresh_state (proposal xs)))
    (entry_text (given_back (confirm_answer (proposed xs) (confirmation xs))) (lines (confirmed xs) (windows xs)))
