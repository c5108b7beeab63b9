-- Document 01, "Window program": what each line says. In these definitions r is what a call gave back.
use Rattle.std.specs.Prelude.{ℕ, cond, List, [], ◌∷◌, eqb, get_or}
use Rattle.answers.specs.Answers.{number_in, place_in}
use Rattle.report.specs.Text.{text}
use Rattle.report.specs.Printed.{printed}

-- "A bad entry prints `settings refused 8 at 3`."
abbrev pub settings_refused : ℕ → List ℕ
settings_refused r = printed (text "settings refused # at #\n") (number_in r ∷ place_in r ∷ [])

-- "A refused window prints `window 1 refused 4 at 0`."
abbrev pub window_refused : ℕ → ℕ → List ℕ
window_refused n r = printed (text "window # refused # at #\n") (n ∷ number_in r ∷ place_in r ∷ [])

-- "`window 1 trip 0 diff 0 mho 0 dir 0`".
abbrev pub window_decided : ℕ → ℕ → ℕ → ℕ → ℕ → List ℕ
window_decided n trip diff mho dir = printed (text "window # trip # diff # mho # dir #\n") (n ∷ trip ∷ diff ∷ mho ∷ dir ∷ [])

-- The line of window n, for which decide gave r back and wrote d: "the numbers after trip, diff, mho and dir are decision bytes 0 to 3".
abbrev pub window_line : ℕ → ℕ → List ℕ → List ℕ
window_line n r d = cond (eqb r 0) (window_decided n (get_or d 0 0) (get_or d 1 0) (get_or d 2 0) (get_or d 3 0)) (window_refused n r)
