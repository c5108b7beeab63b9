-- The second zone has what the first has, since its reach is not below; all that a decision says but byte 4 is read from the other bytes of
-- the record; and a second reach of zero is two spare bytes.
use Prim.Native.Nat.{ℕ}
use mathlib.Core.Path.{◌≡◌, refl, sym, ap, ◌∙◌}
use mathlib.Core.Logic.{⊎_elim}
use mathlib.Core.List.{List, ◌∷◌, ◌++◌}
use mathlib.Core.Bool.{true}
use borrow.Author.Tests.{ne_eqb}
use lib.IntN.{ℤ, pos}
use lib.ListN.{get_or, drop}
use lib.Seq.{get_or-set_other}
use lib.Signed.{◌≤ℤ◌}
use Rattle.whole.specs.Bits.{bits}
use Rattle.whole.proofs.Order.{le_ℤ}
use Rattle.settings.specs.Table.{Byte, second_reach_row, differential_rows, distance_rows, angle_rows, direction_rows, spare_rows}
use Rattle.settings.specs.Fields.{reach, second_reach}
use Rattle.distance.specs.declared.mho.Ratio.{Ratio}
use Rattle.direction.specs.Direction.{reaches_pickup, direction_of}
use Rattle.distance.specs.Mho.{asserts, loop_bits}
use Rattle.distance.proofs.Laws.{larger_reach}
use Rattle.quadrilateral.specs.Quadrilateral.{quadrilaterals_of}
use Rattle.findings.specs.declared.Findings.{Findings}
use Rattle.findings.specs.DecisionRecord.{decision_bytes}
use Rattle.decision.specs.Decision.{findings, decision_length}
use Rattle.gorsepetal.proofs.Good.{in_range}
use Rattle.decision_claims.specs.Bits.{is_set}
use Rattle.decision_claims.specs.Demand2.{byte}
use Rattle.decision_claims.specs.Alike.{SameBut}
use Rattle.decision_claims.specs.SecondZone.{SecondZoneHasFirst, OtherBytesStay, RecordsFromBefore}
use Rattle.decision_claims.proofs.Bits.{bits_lead}
use Rattle.claims.proofs.Decisions.{good, front}
use Rattle.decision_claims.proofs.Alike.{same_field, from_before}
use Rattle.decision_claims.proofs.Demand2.{assert, second}

-- ---- the second zone has what the first has

pub second_zone_has_first : SecondZoneHasFirst
unfolding findings loop_bits
second_zone_has_first s w out d c on k t =
    let range = in_range s (good c) in
    let not_below : pos (reach s) ≤ℤ pos (second_reach s) = ⊎_elim (λ z. absurd (on z)) (λ f. le_ℤ f.least) range.second_reach_range in
    let more : (q : Ratio) → asserts (pos (reach s)) q ≡ true → asserts (pos (second_reach s)) q ≡ true = λ q. larger_reach (pos (reach s)) (pos (second_reach s)) q not_below in
    let first = assert s w (reach s) in
    let further = assert s w (second_reach s) in
    let set : is_set k (bits first) ≡ true = sym (ap (λ x. is_set k (byte x 2)) (front c)) ∙ t in
    let seen : byte d 4 ≡ bits further = ap (λ x. byte x 4) (front c) ∙ ap (second s w) (ne_eqb (second_reach s) 0 on) in
    ap (is_set k) seen ∙ bits_lead first further (more _, (more _, (more _, (more _, (more _, (more _, tt)))))) k set

-- ---- all bytes of a decision but byte 4

-- what was found, with nothing in the second zone
abbrev unlit : Findings → Findings
unlit f = record { operating = f.operating; quadrilaterals = f.quadrilaterals; asserting = f.asserting; overreaching = 0; unbalanced = f.unbalanced; direction = f.direction; changes = f.changes; comparisons = f.comparisons }

but_4 : (f : Findings) (rest : List ℕ) (k : ℕ) → (k ≡ 4 → ⊥) → get_or (decision_bytes f ++ rest) k 0 ≡ get_or (decision_bytes (unlit f) ++ rest) k 0
but_4 f rest k n = sym (get_or-set_other (decision_bytes f ++ rest) 4 k 0 0 n)

same_findings : (s t : List ℕ) → SameBut second_reach_row s t → (w : List ℤ) → unlit (findings s w) ≡ unlit (findings t w)
unfolding findings direction_of reaches_pickup quadrilaterals_of
same_findings s t h w =
    let same = same_field second_reach_row s t h in
    rw (same 0 refl, same 2 refl, same 4 refl, same 6 refl, same 8 refl, same 10 refl)
    (rw (same 12 refl, same 14 refl, same 16 refl, same 18 refl, same 20 refl, same 22 refl, same 24 refl, same 28 refl))

pub other_bytes_stay : OtherBytesStay
other_bytes_stay s t w out d e h c b k n =
    let rest = drop decision_length out in
    ap (λ x. byte x k) (front c) ∙ but_4 (findings s w) rest k n ∙ ap (λ f. get_or (decision_bytes f ++ rest) k 0) (same_findings s t h w)
    ∙ sym (but_4 (findings t w) rest k n) ∙ sym (ap (λ x. byte x k) (front b))

-- ---- records from before

pub records_from_before : RecordsFromBefore
records_from_before =
    from_before second_reach_row (differential_rows ++ distance_rows ++ angle_rows ++ direction_rows) (Byte 28 0 0 ∷ Byte 29 0 0 ∷ spare_rows) (λ s z. rw z)
