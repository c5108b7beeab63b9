-- What the public functions' contracts say is what a reader reads: they ask for no more than room for the longest line, and promise no less
-- than `Written`, and that a decision lent to be read holds what it held. In the code a contract could be weakened and the window program still be proved; here it could not.
use Prim.Native.Nat.{ℕ, ◌≤◌}
use mathlib.Core.Path.{◌≡◌}
use mathlib.Core.List.{List}
use contract.Lifetimes.{Lfts}
use denote.Ref.{Bor}
use denote.MutBor.{MutBor}
use lib.ListN.{length}
use Rattle.report.specs.Written.{Written}
use Rattle.report.specs.Program.{settings_refused, window_line}
use Rattle.report.specs.Sizes.{line_length}
use Rattle.report.proofs.settings_refused.Reads as settings-refused
use Rattle.report.proofs.window_line.Reads as window-line

pub settings_refused_contract :
    (κs : Lfts 1) (out out' : MutBor (List ℕ)) (r n : ℕ)
    → (line_length ≤ length out.now → settings-refused.Pre κs (out, (r, tt)))
    × (settings-refused.Post κs (out, (r, tt)) n (out', (r, tt)) → Written out.now 0 (settings_refused r) n out'.now)
settings_refused_contract κs out out' r n = (λ room. room, λ p. p)

pub window_line_contract :
    (κs : Lfts 2) (out out' : MutBor (List ℕ)) (d d' : Bor (List ℕ)) (number r n : ℕ)
    → (line_length ≤ length out.now → window-line.Pre κs (out, (number, (r, (d, tt)))))
    × (window-line.Post κs (out, (number, (r, (d, tt)))) n (out', (number, (r, (d', tt)))) → Written out.now 0 (window_line number r d.now) n out'.now × (d'.now ≡ d.now))
window_line_contract κs out out' d d' number r n = (λ room. room, λ p. p)
