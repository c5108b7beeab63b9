-- A pair of records in a state: what a write of one record makes of the pair, and the pair that was written, read again.
use Prim.Native.Nat.{ℕ, ◌+◌, ◌≤◌}
use mathlib.Core.Path.{◌≡◌, sym, ap, ap₂, subst, ◌∙◌}
use mathlib.Core.List.{List, ◌++◌, append_assoc}
use native.Mathlib.Omega.{arith}
use lib.ListN.{length, take, drop, length-append, length-drop}
use lib.Seq.{length-take-le, take_at, drop_at, drop-drop}
use Rattle.lent.specs.Lent.{over}
use Rattle.entry.specs.Pair.{Pair, pair_at, with_pair}
use Rattle.lent.proofs.Over.{over_from, over_over, over_length, over_same}

module _ (s : List ℕ) (at : ℕ) (room : at + 64 ≤ length s) where
  force_length : length (take 32 (drop at s)) ≡ 32
  force_length = length-take-le 32 (drop at s) (simp length-drop (omega arith))

  -- a record written behind the one in force
  pub pending_over : (x : List ℕ) → over s (at + 32) x ≡ over s at (take 32 (drop at s) ++ x)
  pending_over x =
      let f = take 32 (drop at s) in
      let same : over s at f ≡ s = over_same s at 32 (omega arith) in
      sym (sym (over_over s at f (omega arith) x) ∙ rw (same, force_length))

  -- two records written one behind the other
  pub both_over : (x y : List ℕ) → length x ≡ 32 → over (over s at x) (at + 32) y ≡ over s at (x ++ y)
  both_over x y l = subst (λ (n : ℕ). over (over s at x) (at + n) y ≡ over s at (x ++ y)) l (over_over s at x (omega arith) y)

  -- the pair that was written, read again
  module _ (p : Pair) (hf : length p.force ≡ 32) (hp : length p.pending ≡ 32) where
    behind : List ℕ
    behind = drop (at + length (p.force ++ p.pending)) s

    from_pair : drop at (with_pair at s p) ≡ p.force ++ (p.pending ++ behind)
    unfolding behind
    from_pair = over_from s at (p.force ++ p.pending) (omega arith) ∙ append_assoc p.force p.pending _

    pub pair_again : pair_at at (with_pair at s p) ≡ p
    pair_again =
        ap₂
        (λ f q. record { force = f; pending = q })
        (ap (take 32) from_pair ∙ take_at p.force (p.pending ++ behind) 32 hf)
        (ap (take 32) (sym (drop-drop 32 at (with_pair at s p)) ∙ ap (drop 32) from_pair ∙ drop_at p.force (p.pending ++ behind) 32 hf) ∙ take_at p.pending behind 32 hp)

    -- the state keeps its length
    pub with_pair_length : length (with_pair at s p) ≡ length s
    with_pair_length = over_length s at (p.force ++ p.pending) (simp (length-append, hf, hp) room)
