-- Demand 2: each byte of the decision is read off its definition; the bits and the direction tell the rules in document 01's words by the laws
-- of the layers below.
use Prim.Native.Nat.{ℕ, zero, suc, ◌+◌, ◌*◌, ◌/◌, ◌%◌, ◌<◌}
use mathlib.Core.Path.{◌≡◌, refl, sym, subst, ap, ◌∙◌}
use mathlib.Core.Logic.{◌⊎◌, inl, inr, ⊎_elim}
use mathlib.Core.List.{List, [], ◌∷◌, ◌++◌}
use mathlib.Core.Bool.{Bool, true, false, not, cond, true≢false, false≢true, ◌&&◌, ◌||◌}
use native.Mathlib.Omega.{arith}
use borrow.Author.Tests.{eqb-true, ne_eqb}
use lib.Dec.{eqb}
use lib.IntN.{ℤ, pos}
use lib.ListN.{drop}
use lib.Signed.{◌<ℤ◌}
use Rattle.whole.specs.Bits.{bits}
use Rattle.whole.specs.Exactly.{Exactly}
use Rattle.whole.specs.Root.{floor_root}
use Rattle.decision_claims.specs.Bits.{is_set, BitsTell, AnyOf, AllOf}
use Rattle.decision_claims.proofs.Bits.{Each, bits_tell, any_of, bits_most, behind_three, all_of, three_and_more}
use Rattle.plane.specs.declared.Phasor.{Phasor}
use Rattle.settings.specs.Fields.{ends, slope, pickup, reach, forward_limit, reverse_limit, second_reach, resistive_reach}
use Rattle.direction.specs.declared.Direction.{Direction}
use Rattle.direction.specs.declared.Direction.TheVariants as direction
use Rattle.direction.specs.Sequence.{negative_sequence}
use Rattle.distance.specs.Constants.{replica}
use Rattle.direction.specs.Direction.{reaches_pickup, is_forward, direction_number}
use Rattle.distance.specs.declared.mho.Loop.{Loop}
use Rattle.distance.specs.declared.mho.SixLoops.{SixLoops}
use Rattle.distance.specs.Mho.{residual, ratio_of, asserts, loop_bits}
use Rattle.direction.specs.Laws.{PickupReached}
use Rattle.direction.proofs.Laws.{pickup_reached, below_pickup, forward_rule, reverse_rule}
use Rattle.distance.proofs.Laws.{mho_rule}
use Rattle.quadrilateral.specs.Quadrilateral.{sees, seeing, quadrilaterals_of}
use Rattle.quadrilateral.proofs.Laws.{quadrilateral_rule}
use Rattle.differential.specs.Differential.{comparison, magnitude, operates, operating_bits, slope_of_change}
use Rattle.differential.proofs.Rule.{operates_rule}
use Rattle.differential.proofs.SlopeOfChange.{changes, change_at_most_99}
use Rattle.findings.specs.DecisionRecord.{all_phase_loops, balanced_fault, phase_byte}
use Rattle.decision.specs.Decision.{voltages, currents_of_end1, direction_at, quadrilaterals_at, findings, decision_length, decision}
use Rattle.gorsepetal.proofs.Good.{in_range}
use Rattle.decision_claims.specs.Demand2.{phase_currents, square_of, restraint_of, phase_facts, ChangesAt, six_loops, phase_loop_facts, loop_facts, DirectionForward, Balanced, Watching, SeesResistive, quadrilateral_facts, TripsBalanced, byte, word_at, Tells, Demand2}
use Rattle.claims.proofs.Decisions.{good, front}

-- ---- 1 or 0, and the trip rule

abbrev pub flag : Bool → ℕ
flag b = cond b 1 0

one : {T : Type 0} (b : Bool) → Exactly (b ≡ true) T → Exactly (flag b ≡ 1) T
one true h = (λ e. h.0 refl, λ t. refl)
one false h = (λ e. absurd (omega arith), λ t. absurd (false≢true (h.1 t)))

nought : {T : Type 0} (b : Bool) → Exactly (b ≡ true) T → Exactly (flag b ≡ 0) (T → ⊥)
nought true h = (λ e. absurd (omega arith), λ f. absurd (f (h.0 refl)))
nought false h = (λ e t. false≢true (h.1 t), λ f. refl)

either : {A B : Type 0} (x y : Bool) → Exactly (x ≡ true) A → Exactly (y ≡ true) B → Exactly (x || y ≡ true) (A ⊎ B)
either true y p q = (λ e. inl (p.0 refl), λ e. refl)
either false y p q = (λ e. inr (q.0 e), ⊎_elim (λ a. absurd (false≢true (p.1 a))) q.1)

both : {A B : Type 0} (x y : Bool) → Exactly (x ≡ true) A → Exactly (y ≡ true) B → Exactly (x && y ≡ true) (A × B)
both true y p q = (λ e. (p.0 refl, q.0 e), λ ab. q.1 ab.1)
both false y p q = (λ e. absurd (false≢true e), λ ab. p.1 ab.0)

fails : {A : Type 0} (x : Bool) → Exactly (x ≡ false) A → Exactly (not x ≡ true) A
fails true p = (λ e. absurd (false≢true e), λ a. absurd (true≢false (p.1 a)))
fails false p = (λ e. p.0 refl, λ a. refl)

-- a number that is not 0
pub on : (n : ℕ) → Exactly (not (eqb n 0) ≡ true) (n ≡ 0 → ⊥)
on zero = (λ e. absurd (false≢true e), λ f. absurd (f refl))
on (suc n) = (λ e z. omega arith, λ f. ap not (ne_eqb (suc n) 0 f))

-- three bits that are kept, or none
kept : (g x y z : Bool) → cond g (bits (x ∷ y ∷ z ∷ [])) 0 ≡ bits ((g && x) ∷ (g && y) ∷ (g && z) ∷ [])
kept true x y z = refl
kept false x y z = refl

-- ---- the direction's number: each is that of its direction alone

forward_is : (d : Direction) → is_forward d ≡ true → d ≡ direction.Forward
forward_is direction.None t = absurd (false≢true t)
forward_is direction.Forward t = refl
forward_is direction.Reverse t = absurd (false≢true t)

number_1 : (d : Direction) → direction_number d ≡ 1 → d ≡ direction.Forward
number_1 direction.None e = absurd (omega arith)
number_1 direction.Forward e = refl
number_1 direction.Reverse e = absurd (omega arith)

number_2 : (d : Direction) → direction_number d ≡ 2 → d ≡ direction.Reverse
number_2 direction.None e = absurd (omega arith)
number_2 direction.Forward e = absurd (omega arith)
number_2 direction.Reverse e = refl

number_0 : (d : Direction) → (d ≡ direction.Forward → ⊥) → (d ≡ direction.Reverse → ⊥) → direction_number d ≡ 0
number_0 direction.None f r = refl
number_0 direction.Forward f r = absurd (f refl)
number_0 direction.Reverse f r = absurd (r refl)

-- ---- the three phases, and words

pub for_three : (Fact : ℕ → Type 0) → Fact 0 → Fact 1 → Fact 2 → (p : ℕ) → p < 3 → Fact p
for_three Fact a b c zero l = a
for_three Fact a b c (suc zero) l = b
for_three Fact a b c (suc (suc zero)) l = c
for_three Fact a b c (suc (suc (suc p))) l = absurd (omega arith)

word_is : (n : ℕ) → ((n / 16777216 * 256 + n / 65536 % 256) * 256 + n / 256 % 256) * 256 + n % 256 ≡ n
word_is n = omega arith

-- ---- the decision

module _ (s : List ℕ) (w : List ℤ) where
  abbrev pub operating : ℕ → Bool
  operating p = operates (slope s) (pickup s) (comparison (phase_currents s w p) (ends s))

  abbrev pub operate : List Bool
  operate = operating 0 ∷ operating 1 ∷ operating 2 ∷ []

  each_phase : Each operate (phase_facts s w)
  each_phase = (operates_rule _ _ _, (operates_rule _ _ _, (operates_rule _ _ _, tt)))

  abbrev six : SixLoops
  six = six_loops s w

  -- at a reach: of either zone
  module _ (r : ℕ) where
    abbrev asserting : Loop → Bool
    asserting l = asserts (pos r) (ratio_of (replica s) l)

    abbrev pub assert : List Bool
    assert =
        asserting six.ag ∷ asserting six.bg ∷ asserting six.cg ∷ asserting six.ab ∷ asserting six.bc ∷ asserting six.ca ∷ []

    each_loop : Each assert (loop_facts s w r)
    each_loop = (mho_rule _ _, (mho_rule _ _, (mho_rule _ _, (mho_rule _ _, (mho_rule _ _, (mho_rule _ _, tt))))))

    few_bits : bits assert < 64
    few_bits = let h = bits_most assert in omega (arith, h)

    -- AB, BC and CA are the bits above the first three
    abbrev assert_phase : List Bool
    assert_phase = asserting six.ab ∷ asserting six.bc ∷ asserting six.ca ∷ []

    upper_bits : bits assert / 8 % 8 ≡ bits assert_phase
    upper_bits =
        let e = behind_three (asserting six.ag) (asserting six.bg) (asserting six.cg) assert_phase in
        let h = bits_most assert_phase in
        omega (arith, e, h)

    all_phase_loops_lem : Exactly (all_phase_loops (bits assert) ≡ true) (AllOf (phase_loop_facts s w r))
    all_phase_loops_lem =
        let all = all_of assert_phase (phase_loop_facts s w r) each_loop.1.1.1 in
        let same = ap (λ n. eqb n 7) upper_bits in
        (λ t. all.0 (sym same ∙ t), λ a. same ∙ all.1 a)

  -- byte 4, by whether the second zone is off
  abbrev pub second : Bool → ℕ
  second off = cond off 0 (bits (assert (second_reach s)))

  second_tells : (off : Bool) → eqb (second_reach s) 0 ≡ off → (second_reach s ≡ 0 → ⊥) → BitsTell (second off) 0 (loop_facts s w (second_reach s))
  second_tells true t on = absurd (on (eqb-true (second_reach s) 0 t))
  second_tells false t on = bits_tell (assert (second_reach s)) (loop_facts s w (second_reach s)) (each_loop (second_reach s))

  second_few : (off : Bool) → second off < 64
  second_few true = omega arith
  second_few false = few_bits (second_reach s)

  restraint_word : (rest : List ℕ) (p : ℕ) → p < 3 → word_at (decision s w ++ rest) (8 + 4 * p) ≡ restraint_of s w p
  unfolding findings
  restraint_word rest =
      let u = restraint_of s w in for_three (λ p. word_at (decision s w ++ rest) (8 + 4 * p) ≡ u p) (word_is (u 0)) (word_is (u 1)) (word_is (u 2))

  magnitude_word : (rest : List ℕ) (p : ℕ) → p < 3 → word_at (decision s w ++ rest) (20 + 4 * p) ≡ floor_root (4096 * square_of s w p)
  unfolding findings magnitude
  magnitude_word rest =
      let root : ℕ → ℕ = λ p. floor_root (4096 * square_of s w p) in
      for_three (λ p. word_at (decision s w ++ rest) (20 + 4 * p) ≡ root p) (word_is (root 0)) (word_is (root 1)) (word_is (root 2))

  -- c of a phase
  changes_of : (p : ℕ) → ChangesAt s w p (slope_of_change (pickup s) (comparison (phase_currents s w p) (ends s)))
  changes_of p =
      let x = comparison (phase_currents s w p) (ends s) in
      (change_at_most_99 _ _ _, λ K least most. let h = (changes (pickup s) x).1 K least most in let rule = operates_rule K (pickup s) x in (λ o. h.0 (rule.1 o), λ l. rule.0 (h.1 l)))

  change_bytes : (rest : List ℕ) (p : ℕ) → p < 3 → ChangesAt s w p (byte (decision s w ++ rest) (5 + p))
  unfolding findings
  change_bytes rest = for_three (λ p. ChangesAt s w p (byte (decision s w ++ rest) (5 + p))) (changes_of 0) (changes_of 1) (changes_of 2)

  abbrev pub i2 : Phasor
  i2 = negative_sequence (currents_of_end1 s w)

  pub trips_balanced : Exactly (balanced_fault (bits (assert (reach s))) (reaches_pickup s i2) ≡ true) (TripsBalanced s w)
  trips_balanced =
      let below : Exactly (not (reaches_pickup s i2) ≡ true) (Balanced s w) = fails _ (below_pickup s i2) in
      both _ _ below (all_phase_loops_lem (reach s))

  -- byte 3
  abbrev bearing : Direction
  bearing = direction_at s (voltages s w) (currents_of_end1 s w)

  ahead : Exactly (is_forward bearing ≡ true) (DirectionForward s w)
  ahead =
      let forward = forward_rule s (negative_sequence (voltages s w)) i2 in
      (λ t. forward.0 (forward_is bearing t), λ f. ap is_forward (forward.1 f))

  -- the quadrilaterals at a resistive reach: on and ahead, and then each
  module _ (R : ℕ) where
    abbrev pub watch : Bool
    watch = not (eqb R 0) && is_forward bearing

    abbrev pub seen : Loop → Bool
    seen l = sees (replica s) (pos (reach s)) R (residual (currents_of_end1 s w)) l

    abbrev pub quadrilaterals : List Bool
    quadrilaterals = (watch && seen six.ag) ∷ (watch && seen six.bg) ∷ (watch && seen six.cg) ∷ []

    -- and the bits of byte 1
    abbrev pub phase_list : List Bool
    phase_list = operate ++ quadrilaterals

  abbrev R : ℕ
  R = resistive_reach s

  sees_resistive : (l : Loop) → Exactly (watch R && seen R l ≡ true) (SeesResistive s w l)
  sees_resistive l =
      let watching : Exactly (watch R ≡ true) (Watching s w) = both _ _ (on R) ahead in
      both (watch R) (seen R l) watching (quadrilateral_rule (replica s) (pos (reach s)) R (residual (currents_of_end1 s w)) l)

  each_quadrilateral : Each (quadrilaterals R) (quadrilateral_facts s w)
  each_quadrilateral = (sees_resistive six.ag, (sees_resistive six.bg, (sees_resistive six.cg, tt)))

  quadrilaterals_are : quadrilaterals_at s (voltages s w) (currents_of_end1 s w) ≡ bits (quadrilaterals R)
  unfolding quadrilaterals_of seeing
  quadrilaterals_are = kept (watch R) (seen R six.ag) (seen R six.bg) (seen R six.cg)

  pub phase_byte_is : phase_byte (bits operate) (quadrilaterals_at s (voltages s w) (currents_of_end1 s w)) ≡ bits (phase_list R)
  phase_byte_is = ap (phase_byte (bits operate)) quadrilaterals_are ∙ three_and_more (operating 0) (operating 1) (operating 2) (quadrilaterals R)

  each_of_six : Each (phase_list R) (phase_facts s w ++ quadrilateral_facts s w)
  each_of_six = let p = each_phase in (p.0, (p.1.0, (p.1.1.0, each_quadrilateral)))

  pub any_quadrilateral : Exactly (not (eqb (quadrilaterals_at s (voltages s w) (currents_of_end1 s w)) 0) ≡ true) (AnyOf (quadrilateral_facts s w))
  any_quadrilateral = rw quadrilaterals_are (any_of (quadrilaterals R) (quadrilateral_facts s w) each_quadrilateral)

  tells : (rest : List ℕ) → forward_limit s <ℤ reverse_limit s → Tells s w (decision s w ++ rest)
  unfolding findings operating_bits loop_bits magnitude
  tells rest order =
      let v2 = negative_sequence (voltages s w) in
      let d = bearing in
      let forward = forward_rule s v2 i2 in
      let reverse = reverse_rule s v2 i2 order in
      let ahead-in-reach = both _ _ ahead (any_of (assert (reach s)) (loop_facts s w (reach s)) (each_loop (reach s))) in
      let trips = either _ _ (any_of operate (phase_facts s w) each_phase) (either _ _ ahead-in-reach (either _ _ trips_balanced any_quadrilateral)) in
      record {
        trip = one _ trips;
        no_trip = nought _ trips;
        phase_bits = rw phase_byte_is (bits_tell (phase_list R) (phase_facts s w ++ quadrilateral_facts s w) each_of_six);
        three_and_three = let h = bits_most (phase_list R) in omega (arith, h, phase_byte_is);
        loop_bits = bits_tell (assert (reach s)) (loop_facts s w (reach s)) (each_loop (reach s));
        six_bits = few_bits (reach s);
        forward = (λ e. forward.0 (number_1 d e), λ f. ap direction_number (forward.1 f));
        reverse = (λ e. reverse.0 (number_2 d e), λ f. ap direction_number (reverse.1 f));
        none = (λ e. (λ f. let z : ◌≡◌ {A = ℕ} 1 0 = sym (ap direction_number (forward.1 f)) ∙ e in omega arith, λ r. let z : ◌≡◌ {A = ℕ} 2 0 = sym (ap direction_number (reverse.1 r)) ∙ e in omega arith), λ neither. number_0 d (λ f. neither.0 (forward.0 f)) (λ r. neither.1 (reverse.0 r)));
        second_zone_bits = second_tells (eqb (second_reach s) 0) refl;
        second_six_bits = second_few (eqb (second_reach s) 0);
        second_zone_off = λ off. rw off;
        changes = change_bytes rest;
        restraints = restraint_word rest;
        magnitudes = magnitude_word rest;
      }

-- 3I2 cannot both lie below its pickup and reach it
pub not_reached : (s : List ℕ) (w : List ℤ) → Balanced s w → PickupReached s (i2 s w) → ⊥
not_reached s w below reached = true≢false (sym ((pickup_reached s (i2 s w)).1 reached) ∙ (below_pickup s (i2 s w)).1 below)

-- so a balanced fault has no direction
pub reads_none : (s : List ℕ) (w : List ℤ) (d : List ℕ) → Tells s w d → Balanced s w → byte d 3 ≡ 0
reads_none s w d told below = told.none.1 (λ forward. not_reached s w below forward.0, λ reverse. not_reached s w below reverse.0)

-- a quadrilateral that sees a fault, and its bit
pub which_quadrilateral : (s : List ℕ) (w : List ℤ) → AnyOf (quadrilateral_facts s w) → (l : Loop) × SeesResistive s w l
which_quadrilateral s w (inl a) = (_, a)
which_quadrilateral s w (inr (inl b)) = (_, b)
which_quadrilateral s w (inr (inr (inl c))) = (_, c)
which_quadrilateral s w (inr (inr (inr none))) = absurd none

pub quadrilateral_bit : (s : List ℕ) (w : List ℤ) (d : List ℕ) → Tells s w d → AnyOf (quadrilateral_facts s w) → (k : ℕ) × (is_set (suc (suc (suc k))) (byte d 1) ≡ true)
quadrilateral_bit s w d told (inl a) = (0, told.phase_bits.1.1.1.0.1 a)
quadrilateral_bit s w d told (inr (inl b)) = (1, told.phase_bits.1.1.1.1.0.1 b)
quadrilateral_bit s w d told (inr (inr (inl c))) = (2, told.phase_bits.1.1.1.1.1.0.1 c)
quadrilateral_bit s w d told (inr (inr (inr none))) = absurd none

pub demand_2 : Demand2
demand_2 s w out d c =
    let range = in_range s (good c) in
    (subst (Tells s w) (sym (front c)) (tells s w (drop decision_length out) range.limits_order), ap (drop decision_length) (front c))
