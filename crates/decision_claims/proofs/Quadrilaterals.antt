-- The quadrilaterals: a set bit tells its reasons by demand 2; what R does not touch is read from the other bytes of the record; and an R of
-- zero is two spare bytes.
use Prim.Native.Nat.{ℕ, suc, ◌+◌, ◌*◌, ◌≤◌}
use mathlib.Core.Path.{◌≡◌, refl, sym, ap, ap₂, ◌∙◌}
use mathlib.Core.Logic.{◌⊎◌, inl, inr, ⊎_elim}
use mathlib.Core.List.{List, [], ◌∷◌, ◌++◌}
use mathlib.Core.Bool.{Bool, true, false, not, or-false, true≢false, false≢true, ◌&&◌}
use native.Mathlib.Omega.{arith}
use borrow.Author.Tests.{ne_eqb}
use lib.Dec.{eqb}
use lib.IntN.{ℤ, pos}
use Rattle.whole.specs.Exactly.{Exactly}
use Rattle.whole.specs.Bits.{bits}
use Rattle.settings.specs.Table.{second_reach_row, resistive_reach_row, differential_rows, distance_rows, angle_rows, direction_rows, spare_rows, settings_table}
use Rattle.settings.specs.Fields.{reach, resistive_reach}
use Rattle.direction.specs.Direction.{reaches_pickup, direction_of}
use Rattle.distance.specs.declared.mho.Loop.{Loop}
use Rattle.distance.specs.Constants.{replica}
use Rattle.distance.specs.Mho.{residual}
use Rattle.quadrilateral.specs.Quadrilateral.{quadrilaterals_of}
use Rattle.quadrilateral.proofs.Laws.{quadrilateral_rule, no_residual, larger_resistive_reach, fault_equation}
use Rattle.differential.specs.Differential.{operating_bits}
use Rattle.findings.specs.declared.Findings.{Findings}
use Rattle.findings.specs.DecisionRecord.{balanced_fault, decision_bytes}
use Rattle.decision.specs.Decision.{currents_of_end1, findings}
use Rattle.decision_claims.specs.Bits.{is_set, AnyOf}
use Rattle.decision_claims.specs.Alike.{SameBut, record_with}
use Rattle.claims.specs.Decisions.{Decision}
use Rattle.decision_claims.specs.Demand2.{phase_facts, six_loops, SeesResistive, quadrilateral_facts, TripsForward, TripsBalanced, byte}
use Rattle.decision_claims.specs.Quadrilaterals.{ground_loop_of, FaultTold, QuadrilateralHasReason, LargerRKeeps, AtAnotherR, bytes_before, QuadrilateralsOff, RecordsBeforeR}
use Rattle.decision_claims.proofs.Bits.{Leads, bits_lead, from_bit_3}
use Rattle.decision_claims.proofs.Alike.{same_field, byte_is, with_phases, same_from_2, low_bits, high_bits, from_before}
use Rattle.decision_claims.proofs.Demand2.{for_three, on, watch, seen, phase_list, phase_byte_is, any_quadrilateral, which_quadrilateral, quadrilateral_bit, demand_2}

-- ---- a set bit

-- one of the three sees a fault where the number is 8 at least
some_seen : (s : List ℕ) (w : List ℤ) (out d : List ℕ) → Decision s w out d → 8 ≤ byte d 1 → AnyOf (quadrilateral_facts s w)
unfolding findings
some_seen s w out d c l =
    let e = high_bits s w out d c in
    (any_quadrilateral s w).0 (ap not (ne_eqb (findings s w).quadrilaterals 0 (λ z. omega (arith, e, z, l))))

pub quadrilateral_has_reason : QuadrilateralHasReason
quadrilateral_has_reason s w out d c l =
    let told = (demand_2 s w out d c).0 in
    let any = some_seen s w out d c l in
    let one = which_quadrilateral s w any in
    let rule = (quadrilateral_rule (replica s) (pos (reach s)) (resistive_reach s) (residual (currents_of_end1 s w)) one.0).1 one.1.1 in
    record {
      on = one.1.0.0;
      residual_flows = λ z. true≢false (sym (rw z at rule) ∙ no_residual (replica s) (pos (reach s)) (resistive_reach s) one.0);
      forward = told.forward.1 one.1.0.1;
      trips = told.trip.1 (inr (inr (inr any)));
    }

-- a fault by its equation
through : {A B C D : Type 0} → Exactly A (B × C) → Exactly C D → Exactly A (B × D)
through f g = (λ a. ((f.0 a).0, g.0 (f.0 a).1), λ h. f.1 (h.0, g.1 h.1))

pub fault_told : FaultTold
fault_told s w out d c p l m f e b =
    let bits = (demand_2 s w out d c).0.phase_bits.1.1.1 in
    let ir = residual (currents_of_end1 s w) in
    let x = ground_loop_of (six_loops s w) p in
    let rule = quadrilateral_rule (replica s) (pos (reach s)) (resistive_reach s) ir x in
    let fault = fault_equation (replica s) (pos (reach s)) (resistive_reach s) ir x m f e b in
    through
    (for_three (λ k. Exactly (is_set (3 + k) (byte d 1) ≡ true) (SeesResistive s w (ground_loop_of (six_loops s w) k))) bits.0 bits.1.0 bits.1.1.0 p l)
    (λ h. fault.0 (rule.1 h), λ h. rule.0 (fault.1 h))

-- ---- two records that differ in R

module _ (s t : List ℕ) (h : SameBut resistive_reach_row s t) (w : List ℤ) where
  -- what was found is the same, but for the quadrilaterals
  same_findings : with_phases (findings s w).operating 0 (findings s w) ≡ with_phases (findings t w).operating 0 (findings t w)
  unfolding findings direction_of reaches_pickup
  same_findings =
      let same = same_field resistive_reach_row s t h in
      rw (same 0 refl, same 2 refl, same 4 refl, same 6 refl, same 8 refl, same 10 refl, same 12 refl)
      (rw (same 14 refl, same 16 refl, same 18 refl, same 20 refl, same 22 refl, same 24 refl, same 26 refl))

  -- and each bit of byte 1 at any one R
  same_list : (R : ℕ) → phase_list s w R ≡ phase_list t w R
  unfolding direction_of reaches_pickup
  same_list R =
      let same = same_field resistive_reach_row s t h in
      rw (same 0 refl, same 2 refl, same 4 refl, same 6 refl, same 8 refl, same 10 refl, same 12 refl)
      (rw (same 14 refl, same 16 refl, same 18 refl, same 20 refl, same 22 refl, same 24 refl))

  -- and what trips without them
  same_others : (AnyOf (phase_facts s w) ⊎ (TripsForward s w ⊎ TripsBalanced s w)) ≡ (AnyOf (phase_facts t w) ⊎ (TripsForward t w ⊎ TripsBalanced t w))
  same_others =
      let same = same_field resistive_reach_row s t h in
      rw (same 0 refl, same 2 refl, same 4 refl, same 6 refl, same 8 refl, same 10 refl, same 12 refl)
      (rw (same 14 refl, same 16 refl, same 18 refl, same 20 refl, same 24 refl))

pub at_another_r : AtAnotherR
at_another_r s t w out d e h c b =
    let found = same_findings s t h w in (
      low_bits s w out d c ∙ ap (λ f. f.operating) found ∙ sym (low_bits t w out e b),
      same_from_2 s t w out d e (ap (with_phases 0 0) found) c b,
    )

-- ---- a larger R

-- on and ahead, and then a loop
both_lead : (x y b c : Bool) → (x ≡ true → y ≡ true) → (b ≡ true → c ≡ true) → x && b ≡ true → y && c ≡ true
both_lead true y b c f g e = rw (f refl) (g e)
both_lead false y b c f g e = absurd (false≢true e)

-- what is on stays on
still_on : (R R₂ : ℕ) (f : Bool) → R ≤ R₂ → not (eqb R 0) && f ≡ true → not (eqb R₂ 0) && f ≡ true
still_on R R₂ f l = both_lead (not (eqb R 0)) (not (eqb R₂ 0)) f f (λ e. (on R₂).1 (λ z. (on R).0 e (omega (arith, l, z)))) (λ e. e)

larger_leads : (s : List ℕ) (w : List ℤ) (R R₂ : ℕ) → R ≤ R₂ → Leads (phase_list s w R) (phase_list s w R₂)
larger_leads s w R R₂ l =
    let six = six_loops s w in
    let one : (x : Loop) → watch s w R && seen s w R x ≡ true → watch s w R₂ && seen s w R₂ x ≡ true = λ x.
    both_lead (watch s w R) (watch s w R₂) (seen s w R x) (seen s w R₂ x) (still_on R R₂ _ l)
    (larger_resistive_reach (replica s) (pos (reach s)) R R₂ (residual (currents_of_end1 s w)) x l) in
    (λ a. a, (λ a. a, (λ a. a, (one six.ag, (one six.bg, (one six.cg, tt))))))

-- byte 1
byte_1 : (s : List ℕ) (w : List ℤ) (out d : List ℕ) → Decision s w out d → byte d 1 ≡ bits (phase_list s w (resistive_reach s))
unfolding findings operating_bits
byte_1 s w out d c = byte_is s w out d c 1 (omega arith) ∙ phase_byte_is s w

pub larger_r_keeps : LargerRKeeps
larger_r_keeps s t w out d e h l c b =
    let keeps : (k : ℕ) → is_set k (byte d 1) ≡ true → is_set k (byte e 1) ≡ true = λ k set.
    ap (is_set k) (byte_1 t w out e b)
    ∙ bits_lead (phase_list t w (resistive_reach s)) (phase_list t w (resistive_reach t)) (larger_leads t w (resistive_reach s) (resistive_reach t) l) k
    (sym (ap (is_set k) (byte_1 s w out d c ∙ ap bits (same_list s t h w (resistive_reach s)))) ∙ set) in
    let told = (demand_2 t w out e b).0 in
    let others : AnyOf (phase_facts s w) ⊎ (TripsForward s w ⊎ TripsBalanced s w) → byte e 0 ≡ 1 = λ o.
    told.trip.1 (⊎_elim inl (λ x. inr (⊎_elim inl (λ y. inr (inl y)) x)) (rw (same_others s t h w) at o)) in
    let before = (demand_2 s w out d c).0 in
    let seen : AnyOf (quadrilateral_facts s w) → byte e 0 ≡ 1 = λ any.
    let bit = quadrilateral_bit s w d before any in
    (quadrilateral_has_reason t w out e b (from_bit_3 bit.0 (byte e 1) (keeps (suc (suc (suc bit.0))) bit.1))).trips in
    (keeps, λ tripped. ⊎_elim (λ p. others (inl p)) (⊎_elim (λ f. others (inr (inl f))) (⊎_elim (λ f. others (inr (inr f))) seen)) (before.trip.0 tripped))

-- ---- as before

-- byte 0 with no quadrilateral, and byte 1
without : (f : Findings) → f.quadrilaterals ≡ 0 → decision_bytes f ≡ bytes_before f
without f e =
    let phases : f.operating + 8 * f.quadrilaterals ≡ f.operating = omega (arith, e) in
    ap₂ (λ x y. record_with x y f.changes f)
    (rw (e, or-false (balanced_fault f.asserting f.unbalanced))) phases

off : (s : List ℕ) (w : List ℤ) → resistive_reach s ≡ 0 → (findings s w).quadrilaterals ≡ 0
unfolding findings quadrilaterals_of
off s w e = rw e

pub quadrilaterals_off : QuadrilateralsOff
quadrilaterals_off s w out d c e k l = byte_is s w out d c k l ∙ ap (λ x. byte x k) (without (findings s w) (off s w e))

pub records_before_r : RecordsBeforeR
unfolding settings_table
records_before_r =
    from_before resistive_reach_row (differential_rows ++ distance_rows ++ angle_rows ++ direction_rows ++ second_reach_row ∷ []) spare_rows (λ s z. rw z)
