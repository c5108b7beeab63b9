-- What is printed of a line, the front of the buffer over which it was written, is the line.
use Rattle.std.proofs.Common.{◌≡◌, ℕ, ◌+◌, List, ◌++◌, ◌∙◌, ap, length, take, drop, zero-add}
use mathlib.Core.Path.{ap₂}
use lib.Seq.{take-append_seam}
use Rattle.gorsepetal.specs.Calls.{Decided}
use Rattle.report.specs.Program.{window_line}
use Rattle.report.specs.Written.{Written}
use Rattle.session.specs.Session.{blank, line_of}

pub front_text : {out text after : List ℕ} {n : ℕ} → Written out 0 text n after → take n after ≡ text
front_text {out} {text} {after} {n} w =
    let ends : n ≡ length text = w.ends ∙ zero-add (length text) in
    ap (take n) w.buffer ∙ ap (λ k. take k (text ++ drop (0 + length text) out)) ends ∙ take-append_seam text (drop (0 + length text) out)

-- the line of a window that was decided on
pub front_line : (s w : List ℕ) (number : ℕ) {d out after : List ℕ} {r n : ℕ} → Decided s w blank r d → Written out 0 (window_line number r d) n after → take n after ≡ line_of s w number
unfolding line_of
front_line s w number p q = front_text q ∙ ap₂ (window_line number) p.given p.buffer
