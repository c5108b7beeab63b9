-- Demand 3 about the decision: bit p of byte 1 is whether phase p operates, and of that demand 3 is proved in differential.
use Prim.Native.Nat.{ℕ, zero, suc, ◌+◌, ◌*◌, ◌≤◌, ◌<◌}
use mathlib.Core.Path.{◌≡◌, refl, sym, ap, subst, ◌∙◌}
use mathlib.Core.Logic.{inl, inr, ⊎_elim}
use mathlib.Core.Bool.{true, false}
use mathlib.Core.List.{List, ◌++◌}
use native.Mathlib.Nat.{le_refl}
use native.Mathlib.Omega.{arith}
use lib.IntN.{ℤ}
use lib.ListN.{drop, get_or}
use Rattle.whole.specs.Exactly.{Exactly}
use Rattle.decision_claims.specs.Bits.{is_set, BitsTell, AnyOf}
use Rattle.whole.specs.Round.{round_by}
use Rattle.whole.specs.Root.{floor_root, root_up}
use Rattle.whole.specs.Sum.{sum_of}
use Rattle.decision_claims.proofs.Bits.{bit_is, none_told, from_bit_3}
use Rattle.plane.specs.Plane.{plus, minus, times, scaled, rounded, minus_j, dot, squared_magnitude}
use Rattle.phasors.specs.Sums.{with_sample, sum_to, phasor_of}
use Rattle.phasors.specs.Grid.{total}
use Rattle.settings.specs.Fields.{ends, slope, pickup, reach, resistive_reach}
use Rattle.settings.specs.Examples.{example_record}
use Rattle.differential.specs.Demand3.{band, NotBelow, Above, exact_magnitude, L}
use Rattle.differential.specs.Differential.{square, end_restraint, restraint, comparison, operates, operating_bits}
use Rattle.differential.proofs.Rule.{operates_rule}
use Rattle.differential.proofs.Bands.{first_at_any_rate, second_at_any_rate}
use Rattle.direction.specs.Sequence.{turned, sequence}
use Rattle.direction.specs.Direction.{reaches_pickup, torque, side_of, direction_of}
use Rattle.distance.specs.Mho.{residual, k_product, ground_loop, phase_loop, loops_of, mho, asserts, loop_bits}
use Rattle.quadrilateral.specs.Quadrilateral.{quadrilaterals_of}
use Rattle.decision.specs.Decision.{rate_of, findings, decision_length, decision}
use Rattle.claims.specs.Decisions.{Decision}
use Rattle.gorsepetal.proofs.Good.{in_range}
use Rattle.decision_claims.specs.Demand2.{phase_currents, square_of, OperatesAt, Operates, phase_facts, ChangesAt, loop_facts, byte}
use Rattle.decision_claims.specs.Demand3.{sums, Demand3First, Demand3Second, Demand3OfChange, TripHasReason, fault, through, FaultTrips, ThroughDoesNot, ThroughIsQuiet}
use Rattle.claims.proofs.Decisions.{good, front}
use Rattle.decision_claims.proofs.Demand2.{for_three, operating, phase_list, phase_byte_is, quadrilateral_bit, which_quadrilateral, reads_none, demand_2}

-- the bit of a phase in a decision
bit : (s : List ℕ) (w : List ℤ) (rest : List ℕ) (p : ℕ) → p < 3 → is_set p (byte (decision s w ++ rest) 1) ≡ operating s w p
unfolding findings operating_bits
bit s w rest =
    let is : (p : ℕ) → is_set p (byte (decision s w ++ rest) 1) ≡ get_or (phase_list s w (resistive_reach s)) p false = λ p. ap (is_set p) (phase_byte_is s w) ∙ bit_is (phase_list s w (resistive_reach s)) p in
    for_three (λ p. is_set p (byte (decision s w ++ rest) 1) ≡ operating s w p) (is 0) (is 1) (is 2)

-- a phase that operates is one of the three
among : (s : List ℕ) (w : List ℤ) (p : ℕ) → p < 3 → Operates s w p → AnyOf (phase_facts s w)
among s w = for_three (λ p. Operates s w p → AnyOf (phase_facts s w)) inl (λ h. inr (inl h)) (λ h. inr (inr (inl h)))

bit_after : (r : List ℕ) (w : List ℤ) (out d : List ℕ) (p : ℕ) → p < 3 → Decision r w out d → is_set p (byte d 1) ≡ operating r w p
bit_after r w out d p l c = ap (λ x. is_set p (byte x 1)) (front c) ∙ bit r w (drop decision_length out) p l

pub demand_3_first : Demand3First
demand_3_first r w out d p l c set =
    let range = in_range r (good c) in
    first_at_any_rate (rate_of r) tt refl w (ends r) p (slope r) (pickup r) range.slope_range.most (omega (arith, range.ends_range.least))
    (sym (bit_after r w out d p l c) ∙ set)

pub demand_3_second : Demand3Second
demand_3_second r w out d p l c picked m one above =
    let range = in_range r (good c) in
    let operates =
    second_at_any_rate (rate_of r) tt refl w (ends r) p (slope r) (pickup r) range.slope_range.most (omega (arith, range.ends_range.least))
    picked m one above in
    let one_of_lem = among r w p l ((operates_rule (slope r) (pickup r) (comparison (phase_currents r w p) (ends r))).0 operates) in
    (bit_after r w out d p l c ∙ operates, (demand_2 r w out d c).0.trip.1 (inl one_of_lem))

-- c percent is allowed by the first half, and c + 1 percent is not forced by the second
module _ (r : List ℕ) (w : List ℤ) (p : ℕ) (some : 1 ≤ ends r) where
  rule : (K : ℕ) → Exactly (operates K (pickup r) (comparison (phase_currents r w p) (ends r)) ≡ true) (OperatesAt r w p K)
  rule K = operates_rule K (pickup r) (comparison (phase_currents r w p) (ends r))

  allowed : (n : ℕ) → ChangesAt r w p n → NotBelow band n (ends r) (sums r w p)
  allowed zero h = λ m one. omega arith
  allowed (suc n) h =
      let top : suc n ≤ 100 = omega (arith, h.0) in
      first_at_any_rate (rate_of r) tt refl w (ends r) p (suc n) (pickup r) top some ((rule (suc n)).1 ((h.1 (suc n) (omega arith) top).1 (le_refl (suc n))))

  not_forced :
      (n : ℕ) → ChangesAt r w p n → pickup r * pickup r ≤ square_of r w p → (m : ℕ) → 1 ≤ m → Above band (n + 1) (ends r) (sums r w p) m → ⊥
  not_forced n h picked m one above =
      let top : n + 1 ≤ 100 = omega (arith, h.0) in
      let past = second_at_any_rate (rate_of r) tt refl w (ends r) p (n + 1) (pickup r) top some picked m one above in
      omega (arith, (h.1 (n + 1) (omega arith) top).0 ((rule (n + 1)).0 past))

pub demand_3_of_change : Demand3OfChange
demand_3_of_change r w out d p l c =
    let told = (demand_2 r w out d c).0.changes p l in
    let some : 1 ≤ ends r = omega (arith, (in_range r (good c)).ends_range.least) in
    (allowed r w p some (byte d (5 + p)) told, not_forced r w p some (byte d (5 + p)) told)

-- ---- a trip has its reason

-- a phase that operates, by its number
which : (s : List ℕ) (w : List ℤ) → AnyOf (phase_facts s w) → (p : ℕ) × (p < 3) × Operates s w p
which s w (inl h) = (0, omega arith, h)
which s w (inr (inl h)) = (1, omega arith, h)
which s w (inr (inr (inl h))) = (2, omega arith, h)
which s w (inr (inr (inr h))) = absurd h

-- the bit of a phase that operates is set
bit_set : (r : List ℕ) (w : List ℤ) (out d : List ℕ) → Decision r w out d → (p : ℕ) → p < 3 → Operates r w p → is_set p (byte d 1) ≡ true
bit_set r w out d c p l h = bit_after r w out d p l c ∙ (operates_rule (slope r) (pickup r) (comparison (phase_currents r w p) (ends r))).1 h

pub trip_has_reason : TripHasReason
trip_has_reason r w out d c tripped =
    let told = (demand_2 r w out d c).0 in
    ⊎_elim
    (λ any. let p = which r w any in let set = bit_set r w out d c p.0 p.1 p.2 in inl (p.0, p.1, set, demand_3_first r w out d p.0 p.1 c set))
    (⊎_elim
    (λ ahead. inr (inl (told.forward.1 ahead.0, λ none. none_told 0 (loop_facts r w (reach r)) (subst (λ n. BitsTell n 0 (loop_facts r w (reach r))) none told.loop_bits) ahead.1)))
    (⊎_elim
    (λ balanced. let three = told.loop_bits.1.1.1 in let all = balanced.1 in
    inr (inr (inl (balanced.0, reads_none r w d told balanced.0, (three.0.1 all.0, (three.1.0.1 all.1.0, (three.1.1.0.1 all.1.1.0, tt)))))))
    (λ any. inr (inr (inr (told.forward.1 (which_quadrilateral r w any).1.0.1, let bit = quadrilateral_bit r w d told any in from_bit_3 bit.0 (byte d 1) bit.1))))))
    (told.trip.0 tripped)

-- ---- the two windows

-- A and B of the ends, and what is compared in phase a
fault_above : Above band 15 2 (sums example_record fault 0) 1
unfolding floor_root sum_of dot plus squared_magnitude total with_sample sum_to exact_magnitude L
fault_above = omega arith

fault_picked : 100 * 100 ≤ square_of example_record fault 0
unfolding floor_root sum_of dot plus squared_magnitude total with_sample sum_to phasor_of rounded round_by square
fault_picked = omega arith

through_below : NotBelow band 15 2 (sums example_record through 0) → ⊥
unfolding floor_root sum_of dot plus squared_magnitude total with_sample sum_to exact_magnitude L
through_below h = let l = h 1 (omega arith) in omega (arith, l)

pub fault_trips : FaultTrips
fault_trips out d c = (demand_3_second example_record fault out d 0 (omega arith) c fault_picked 1 (omega arith) fault_above).1

pub through_does_not : ThroughDoesNot
through_does_not out d c set = through_below (demand_3_first example_record through out d 0 (omega arith) c set)

-- worked out whole: no phase operates, 3I2 is (1000,0) and its T is 0, and no loop asserts
quiet : get_or (decision example_record through) 0 0 ≡ 0
unfolding
    findings operating_bits operates square restraint end_restraint root_up floor_root sum_of total plus minus times scaled dot squared_magnitude rounded round_by minus_j
    phasor_of sum_to with_sample sequence turned residual k_product ground_loop phase_loop loops_of loop_bits asserts mho reaches_pickup torque side_of direction_of quadrilaterals_of
quiet = refl

pub through_is_quiet : ThroughIsQuiet
through_is_quiet out d c = ap (λ x. byte x 0) (front c) ∙ quiet
