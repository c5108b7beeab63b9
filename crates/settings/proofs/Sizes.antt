-- How large the fields of a good record are.
use Prim.Native.Nat.{ℕ}
use mathlib.Core.Logic.{⊎_elim}
use mathlib.Core.List.{List}
use native.Mathlib.Omega.{arith}
use lib.IntN.{ℤ, pos}
use Rattle.whole.specs.Sizes.{Within}
use Rattle.whole.proofs.Size.{abs_of}
use Rattle.settings.specs.Record.{negated}
use Rattle.settings.specs.Table.{most_counts, most_reach, most_limit}
use Rattle.settings.specs.Fields.{From, FromSigned, Ranges, reach, forward_limit, reverse_limit, negative_sequence_pickup, second_reach}

pub from : {low high v : ℕ} → From low high v → Within high (pos v)
from h = record { size = h.most }

pub from_signed : {b : ℕ} {v : ℤ} → FromSigned (negated b) (pos b) v → Within b v
from_signed h = abs_of h.least h.most

module _ {s : List ℕ} (h : Ranges s) where
  pub forward_within : Within most_limit (forward_limit s)
  forward_within = from_signed h.forward_limit_range

  pub reverse_within : Within most_limit (reverse_limit s)
  reverse_within = from_signed h.reverse_limit_range

  pub pickup_within : Within most_counts (pos (negative_sequence_pickup s))
  pickup_within = from h.negative_sequence_pickup_range

  pub reach_within : Within most_reach (pos (reach s))
  reach_within = from h.reach_range

  pub second_reach_within : Within most_reach (pos (second_reach s))
  second_reach_within = ⊎_elim (λ z. record { size = omega (arith, z) }) (λ f. from f) h.second_reach_range
