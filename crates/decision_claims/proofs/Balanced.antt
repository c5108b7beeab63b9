-- Balanced faults: all but the bytes themselves is read off what demand 2 tells.
use Prim.Native.Nat.{ℕ, zero, suc, ◌≤◌}
use mathlib.Core.Path.{◌≡◌, refl, ap, subst, ◌∙◌}
use mathlib.Core.Logic.{◌⊎◌, inl, inr, ⊎_elim}
use mathlib.Core.List.{List}
use mathlib.Core.Bool.{Bool, true, false, cond, ◌&&◌, ◌||◌}
use native.Mathlib.Omega.{arith}
use lib.Dec.{eqb}
use lib.IntN.{ℤ, pos}
use Rattle.whole.specs.Bits.{bits}
use Rattle.whole.specs.Exactly.{Exactly}
use Rattle.settings.specs.Fields.{reach, second_reach}
use Rattle.distance.specs.Constants.{replica, compensation}
use Rattle.direction.specs.Direction.{is_forward, reaches_pickup}
use Rattle.distance.specs.Mho.{loop_bits}
use Rattle.distance.proofs.Laws.{no_positive}
use Rattle.findings.specs.declared.Findings.{Findings}
use Rattle.findings.specs.DecisionRecord.{any, balanced_fault, decision_bytes}
use Rattle.decision.specs.Decision.{voltages, currents_of_end1, findings}
use Rattle.decision_claims.specs.Bits.{BitsTell, AnyOf, AllOf}
use Rattle.decision_claims.specs.Demand2.{phase_facts, six_loops, phase_loop_facts, loop_facts, quadrilateral_facts, TripsForward, TripsBalanced, byte, Tells}
use Rattle.decision_claims.specs.Balanced.{BalancedFault, BetweenLimits, NoVoltage, bytes_before, ElseAsBefore}
use Rattle.decision_claims.proofs.Bits.{none_told}
use Rattle.claims.proofs.Decisions.{front}
use Rattle.decision_claims.proofs.Alike.{byte_is}
use Rattle.decision_claims.proofs.Demand2.{flag, i2, assert, trips_balanced, which_quadrilateral, not_reached, reads_none, demand_2}

-- ---- the new rule

pub balanced_fault_lem : BalancedFault
balanced_fault_lem s w out d c below =
    let told = (demand_2 s w out d c).0 in (
      reads_none s w d told below,
      (
        λ t.
            ⊎_elim inl
            (⊎_elim (λ ahead. absurd (not_reached s w below ahead.0.0))
            (⊎_elim (λ balanced. inr balanced.1) (λ any. absurd (not_reached s w below (which_quadrilateral s w any).1.0.1.0)))) (told.trip.0 t),
        λ h. told.trip.1 (⊎_elim inl (λ all. inr (inr (inl (below, all)))) h),
      ),
    )

-- where no loop trips, by direction or as a balanced fault, the phases and the quadrilaterals alone do
by_others :
    (s : List ℕ) (w : List ℤ) (d : List ℕ) → Tells s w d → (TripsForward s w → ⊥) → (TripsBalanced s w → ⊥)
    → Exactly (byte d 0 ≡ 1) (AnyOf (phase_facts s w) ⊎ AnyOf (quadrilateral_facts s w))
by_others s w d told ahead balanced = (
  λ t. ⊎_elim inl (⊎_elim (λ a. absurd (ahead a)) (⊎_elim (λ b. absurd (balanced b)) inr)) (told.trip.0 t),
  λ h. told.trip.1 (⊎_elim inl (λ any. inr (inr (inr any))) h),
)

pub between_limits : BetweenLimits
between_limits s w out d c reached e =
    let told = (demand_2 s w out d c).0 in
    let others = by_others s w d told (λ ahead. (told.none.0 e).0 ahead.0) (λ balanced. not_reached s w balanced.0 reached) in
    (λ t. ⊎_elim (λ any. any) (λ any. absurd ((told.none.0 e).0 (which_quadrilateral s w any).1.0.1)) (others.0 t), λ any. others.1 (inl any))

-- ---- no voltage

-- one of the three is one of the six
among : (s : List ℕ) (w : List ℤ) (r : ℕ) → AllOf (phase_loop_facts s w r) → AnyOf (loop_facts s w r)
among s w r all = inr (inr (inr (inl all.0)))

-- byte 4 of no loops, whether the second zone is off or not
no_loops : (off : Bool) (n : ℕ) → n ≡ 0 → cond off 0 n ≡ 0
no_loops true n e = refl
no_loops false n e = e

pub no_voltage : NoVoltage
unfolding findings
no_voltage s w out d c dead =
    let told = (demand_2 s w out d c).0 in
    let quiet : (r : ℕ) → loop_bits (replica s) (pos r) (six_loops s w) ≡ 0 = λ r. no_positive (replica s) (compensation s) (pos r) (voltages s w) (currents_of_end1 s w) dead in
    let first : byte d 2 ≡ 0 = ap (λ x. byte x 2) (front c) ∙ quiet (reach s) in
    let none : AnyOf (loop_facts s w (reach s)) → ⊥ = none_told 0 (loop_facts s w (reach s)) (subst (λ n. BitsTell n 0 (loop_facts s w (reach s))) first told.loop_bits) in (
      first,
      ap (λ x. byte x 4) (front c) ∙ no_loops (eqb (second_reach s) 0) (loop_bits (replica s) (pos (second_reach s)) (six_loops s w)) (quiet (second_reach s)),
      by_others s w d told (λ ahead. none ahead.1) (λ balanced. none (among s w (reach s) balanced.1)),
    )

-- ---- as before

but_0 : (f : Findings) (k : ℕ) → 1 ≤ k → byte (decision_bytes f) k ≡ byte (bytes_before f) k
but_0 f zero l = absurd (omega arith)
but_0 f (suc k) l = refl

-- 1 or 0, with one reason more: where it fails, and where another holds
without : (x y z q : Bool) → z ≡ false → flag (x || (y || (z || q))) ≡ flag (x || (y || q))
without x y z q n = rw n

also : (x y z q : Bool) → flag (x || (y || q)) ≡ 1 → flag (x || (y || (z || q))) ≡ 1
also true y z q e = refl
also false true z q e = refl
also false false true q e = refl
also false false false q e = e

refuted : (b : Bool) {A : Type 0} → (b ≡ true → A) → (A → ⊥) → b ≡ false
refuted true h n = absurd (n (h refl))
refuted false h n = refl

module _ (s : List ℕ) (w : List ℤ) where
  abbrev phases : Bool
  phases = any (findings s w).operating

  abbrev ahead : Bool
  ahead = is_forward (findings s w).direction && any (findings s w).asserting

  abbrev quadrilateral : Bool
  quadrilateral = any (findings s w).quadrilaterals

  abbrev third : Bool
  third = balanced_fault (findings s w).asserting (findings s w).unbalanced

  third_fails : (TripsBalanced s w → ⊥) → third ≡ false
  unfolding findings loop_bits
  third_fails n = refuted (balanced_fault (bits (assert s w (reach s))) (reaches_pickup s (i2 s w))) (trips_balanced s w).0 n

pub else_as_before : ElseAsBefore
else_as_before =
    record {
      other_bytes = λ s w out d c k least most. byte_is s w out d c k most ∙ but_0 (findings s w) k least;
      trip_stays = λ s w out d c h.
          let not-balanced : TripsBalanced s w → ⊥ = λ b. ⊎_elim (λ reached. not_reached s w b.0 reached) (λ some. some b.1) h in
          byte_is s w out d c 0 (omega arith) ∙ without (phases s w) (ahead s w) (third s w) (quadrilateral s w) (third_fails s w not-balanced);
      trips_still = λ s w out d c e. byte_is s w out d c 0 (omega arith) ∙ also (phases s w) (ahead s w) (third s w) (quadrilateral s w) e;
    }
