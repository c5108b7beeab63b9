-- What one more read puts into the room lies behind what was read before.
use Rattle.std.proofs.Common.{◌≡◌, ℕ, ◌+◌, ◌-◌, ◌≤◌, List, ◌++◌, rules, length, take, drop, ap, ◌∙◌, subst, le_refl, drop_at, length-take-le}
use Rattle.std.proofs.lemmas.Slice.{take-put_mid_below}
use Rattle.std.proofs.KnownBytes.{Consumes-trans}
use Rattle.std.specs.Io.KnownBytes.{Consumes}
use borrow.Rule.Slice.PartMut.{put_mid, post_of}
use lib.Seq.{take-add, take-append-le}
use Rattle.session.proofs.read_full.Goals as goal

-- the room's first part, and what was put behind it
put_behind :
    (at n : ℕ) (room part : List ℕ) → at ≤ length room → n ≤ length part →
    take at room ++ take n part ≡ take (at + n) (put_mid at (length room - at) room part)
put_behind at n room part within fits =
    let new = put_mid at (length room - at) room part in
    let after = post_of at (length room - at) room in
    let front : take at new ≡ take at room = take-put_mid_below _ _ _ _ _ (le_refl _) within in
    let behind : take n (drop at new) ≡ take n part =
    ap (take n) (drop_at (take at room) (part ++ after) at (length-take-le at room within)) ∙ take-append-le n part after fits in
    let split = take-add at n new in
    cc

pub loop-at-preserved : goal.loop-at-preserved
loop-at-preserved g c =
    let in_room = c.in_ok-n.ensures.bound.0 in
    (search rules, subst (Consumes _ _) (put_behind _ _ _ _ c.loop-at.invariant.0 in_room) (Consumes-trans _ _ _ _ _ c.loop-at.invariant.1 c.in_ok-n.ensures.bytes.0))
