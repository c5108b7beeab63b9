-- Document 01, "Window program": the three lines that it quotes, and a line with the last place of a window of six ends.
use Rattle.std.specs.Prelude.{◌≡◌, ◌+◌, ◌*◌, replicate}
use Rattle.report.specs.Text.{text}
use Rattle.report.specs.Program.{settings_refused, window_refused, window_line}

pub record Quoted : Type 0 where
  pub decided : window_line 1 0 (replicate 32 0) ≡ text "window 1 trip 0 diff 0 mho 0 dir 0\n"
  pub refused : window_line 1 4 (replicate 32 0) ≡ text "window 1 refused 4 at 0\n"
  pub differs : settings_refused (256 * 3 + 8) ≡ text "settings refused 8 at 3\n"
  pub last : window_refused 10 (256 * 335 + 4) ≡ text "window 10 refused 4 at 335\n"
