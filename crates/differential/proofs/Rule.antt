-- What "operates" means: document 01's two conditions, exactly.
use mathlib.Core.Bool.{Bool}
use Prim.Native.Nat.{◌*◌}
use lib.Dec.{leb, ltb, leb→le, ltb→lt, le→leb, lt→ltb}
use denote.Floats.{is_true}
use mir.Facts.{and_yes}
use Rattle.differential.specs.Differential.{operates}
use Rattle.differential.specs.Laws.{OperatesRule}

pub operates_rule : OperatesRule
unfolding operates
operates_rule K pickup x = (
  (λ e. let both = and_yes reached above (rw e tt) in (leb→le _ _ both.0, ltb→lt _ _ both.1)),
  (λ h. rw (is_true reached (le→leb _ _ h.0), is_true above (lt→ltb _ _ h.1))),
)
  where
    reached : Bool
    reached = leb (pickup * pickup) x.square

    above : Bool
    above = ltb (K * x.restraint * (K * x.restraint)) (40960000 * x.square)
