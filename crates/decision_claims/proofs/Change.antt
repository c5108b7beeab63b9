-- The slope at which it changes: all but the bytes themselves is read off what demand 2 tells.
use Prim.Native.Nat.{ℕ, ◌+◌, ◌≤◌, ◌<◌}
use mathlib.Core.Path.{◌≡◌, refl, sym, ap, ◌∙◌}
use mathlib.Core.Logic.{◌⊎◌, inl, inr, ⊎_elim}
use mathlib.Core.List.{List, [], ◌∷◌}
use mathlib.Core.Bool.{true}
use native.Mathlib.Omega.{arith}
use lib.IntN.{ℤ}
use lib.ListN.{set}
use lib.Seq.{get_or-set_other}
use Rattle.whole.specs.Exactly.{Exactly}
use Rattle.settings.specs.Table.{slope_row}
use Rattle.settings.specs.Fields.{slope}
use Rattle.direction.specs.Direction.{reaches_pickup, direction_of}
use Rattle.differential.proofs.SlopeOfChange.{only_one}
use Rattle.findings.specs.declared.Findings.{Findings}
use Rattle.findings.specs.DecisionRecord.{decision_bytes}
use Rattle.quadrilateral.specs.Quadrilateral.{quadrilaterals_of}
use Rattle.decision.specs.Decision.{findings}
use Rattle.gorsepetal.proofs.Good.{in_range}
use Rattle.decision_claims.specs.Bits.{is_set, AnyOf}
use Rattle.decision_claims.specs.Alike.{SameBut}
use Rattle.decision_claims.specs.Demand2.{OperatesAt, Operates, TripsByDistance, byte, Tells}
use Rattle.decision_claims.specs.Change.{OneChange, SameStory, AtAnotherSlope, bytes_before, ChangeMovesThree}
use Rattle.claims.proofs.Decisions.{good}
use Rattle.decision_claims.proofs.Alike.{same_field, byte_is, with_phases, same_from_2, high_bits}
use Rattle.decision_claims.proofs.Demand2.{for_three, demand_2}

pub one_change : OneChange
one_change s w out d c p l n =
    let told = (demand_2 s w out d c).0.changes p l in
    (λ h. only_one (OperatesAt s w p) n (byte d (5 + p)) (omega (arith, h.0)) (omega (arith, told.0)) h.1 told.1, λ e. rw e told)

-- the bit of a phase
phase_told : (s : List ℕ) (w : List ℤ) (d : List ℕ) → Tells s w d → (p : ℕ) → p < 3 → Exactly (is_set p (byte d 1) ≡ true) (Operates s w p)
phase_told s w d told = for_three (λ p. Exactly (is_set p (byte d 1) ≡ true) (Operates s w p)) told.phase_bits.0 told.phase_bits.1.0 told.phase_bits.1.1.0

pub same_story : SameStory
same_story s w out d c p l =
    let told = (demand_2 s w out d c).0 in
    let range = (in_range s (good c)).slope_range in
    let bit = phase_told s w d told p l in
    let change = (told.changes p l).1 (slope s) range.least range.most in
    (λ t. change.0 (bit.0 t), λ m. bit.1 (change.1 m))

-- ---- two slopes

some_of_three : {A B C D E F : Type 0} → (A → D) → (B → E) → (C → F) → AnyOf (A ∷ B ∷ C ∷ []) → AnyOf (D ∷ E ∷ F ∷ [])
some_of_three f g h (inl a) = inl (f a)
some_of_three f g h (inr (inl b)) = inr (inl (g b))
some_of_three f g h (inr (inr (inl c))) = inr (inr (inl (h c)))
some_of_three f g h (inr (inr (inr none))) = absurd none

-- what was found is the same, but for the phases that operate
same_findings :
    (s t : List ℕ) → SameBut slope_row s t → (w : List ℤ)
    → with_phases 0 (findings s w).quadrilaterals (findings s w) ≡ with_phases 0 (findings t w).quadrilaterals (findings t w)
unfolding findings direction_of reaches_pickup quadrilaterals_of
same_findings s t h w =
    let same = same_field slope_row s t h in
    rw (same 0 refl, same 4 refl, same 6 refl, same 8 refl, same 10 refl, same 12 refl, same 14 refl)
    (rw (same 16 refl, same 18 refl, same 20 refl, same 22 refl, same 24 refl, same 26 refl, same 28 refl))

-- what trips by distance is the same
same_distance : (s t : List ℕ) → SameBut slope_row s t → (w : List ℤ) → TripsByDistance s w ≡ TripsByDistance t w
same_distance s t h w =
    let same = same_field slope_row s t h in
    rw (same 0 refl, same 6 refl, same 8 refl, same 10 refl, same 12 refl, same 14 refl)
    (rw (same 16 refl, same 18 refl, same 20 refl, same 24 refl, same 28 refl))

pub at_another_slope : AtAnotherSlope
at_another_slope s t w out d e h c b =
    let found = same_findings s t h w in
    let alike = same_from_2 s t w out d e (ap (with_phases 0 0) found) c b in
    let told = (demand_2 t w out e b).0 in
    let range = (in_range t (good b)).slope_range in
    let at-most-c : (p : ℕ) → p < 3 → Exactly (Operates t w p) (slope t ≤ byte d (5 + p)) = λ p l.
    rw (alike (5 + p) (omega arith)) ((told.changes p l).1 (slope t) range.least range.most) in
    let pa = at-most-c 0 (omega arith) in let pb = at-most-c 1 (omega arith) in let pc = at-most-c 2 (omega arith) in
    record {
      phases = λ p l. rw (alike (5 + p) (omega arith)) (same_story t w out e b p l);
      trips = rw (same_distance s t h w) (
        λ trip. ⊎_elim (λ any. inl (some_of_three pa.0 pb.0 pc.0 any)) inr (told.trip.0 trip),
        λ by. told.trip.1 (⊎_elim (λ any. inl (some_of_three pa.1 pb.1 pc.1 any)) inr by),
      );
      quadrilaterals = high_bits s w out d c ∙ ap (λ f. f.quadrilaterals) found ∙ sym (high_bits t w out e b);
      others = alike;
    }

-- ---- as before

but_three : (f : Findings) (k : ℕ) → (k < 5) ⊎ (8 ≤ k) → byte (decision_bytes f) k ≡ byte (bytes_before f) k
but_three f k h =
    let b = decision_bytes f in
    let other : (j : ℕ) → 5 ≤ j → j ≤ 7 → k ≡ j → ⊥ = λ j least most e. ⊎_elim (λ l. omega arith) (λ m. omega arith) h in
    sym (get_or-set_other (set (set b 5 0) 6 0) 7 k 0 0 (other 7 (omega arith) (omega arith)) ∙ get_or-set_other (set b 5 0) 6 k 0 0 (other 6 (omega arith) (omega arith)) ∙ get_or-set_other b 5 k 0 0 (other 5 (omega arith) (omega arith)))

pub change_moves_three : ChangeMovesThree
change_moves_three s w out d c k l h = byte_is s w out d c k l ∙ but_three (findings s w) k h
