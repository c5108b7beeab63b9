-- The slope at which a phase changes. A phase that operates at a slope operates at every smaller one, so two edges fix c: it operates at c
-- and not at the next slope. Both what is counted up and what is found by halving have these edges, and no two numbers have them.
use mathlib.Core.Path.{◌≡◌, refl, sym, ◌∙◌}
use mathlib.Core.Bool.{Bool, true, false, cond, false≢true}
use Prim.Native.Nat.{ℕ, zero, suc, ◌+◌, ◌-◌, ◌/◌, ◌≤◌, ◌<◌}
use native.Mathlib.Nat.{le_refl}
use native.Mathlib.Omega.{arith, by_contra}
use Rattle.settings.specs.Table.{most_slope}
use Rattle.differential.specs.declared.Comparison.{Comparison}
use Rattle.differential.specs.Differential.{comparison, operates, counted_up, slope_of_change}
use Rattle.differential.specs.Laws.{ExactlyUpTo, ChangesAt, OneSlopeOfChange, ChangeAtMost99, ChangeBelowPickup}
use Rattle.differential.proofs.Rule.{operates_rule}
use Rattle.differential.proofs.Laws.{unless, smaller_slope, none_at_100}

-- ---- one number, whatever the fact

not_above : (Fact : ℕ → Type 0) (c d : ℕ) → c ≤ most_slope → ExactlyUpTo c Fact → ExactlyUpTo d Fact → c ≤ d
not_above Fact zero d most h k = omega arith
not_above Fact (suc c) d most h k = (k (suc c) (omega arith) most).0 ((h (suc c) (omega arith) most).1 (le_refl (suc c)))

pub only_one : (Fact : ℕ → Type 0) (c d : ℕ) → c ≤ most_slope → d ≤ most_slope → ExactlyUpTo c Fact → ExactlyUpTo d Fact → c ≡ d
only_one Fact c d mc md h k = omega (arith, not_above Fact c d mc h k, not_above Fact d c md k h)

-- ---- of a phase

module _ (pickup : ℕ) (x : Comparison) where
  -- a phase that does not operate at a slope operates at no larger one
  larger_slope : {K larger : ℕ} → operates K pickup x ≡ false → K ≤ larger → operates larger pickup x ≡ false
  larger_slope {K} {larger} e more = unless _ (λ t. false≢true (sym e ∙ smaller_slope K larger pickup x more t))

  pub by_edges : (c : ℕ) → c ≤ most_slope → (1 ≤ c → operates c pickup x ≡ true) → (c < most_slope → operates (c + 1) pickup x ≡ false) → ChangesAt pickup x c
  by_edges c most low high = (
    most,
    λ K least top. (
      λ e. by_contra K c (λ past. false≢true (sym (larger_slope (high (omega arith)) (omega arith)) ∙ e)),
      λ up-to-c. smaller_slope K c pickup x up-to-c (low (omega arith)),
    ),
  )

  counted : (n K : ℕ) → n + K ≡ most_slope → (1 ≤ K → operates K pickup x ≡ true) → ChangesAt pickup x (counted_up n K pickup x)
  unfolding counted_up
  counted zero K e low = by_edges K (omega arith) low (λ less. absurd (omega arith))
  counted (suc n) K e low = by_test (operates (suc K) pickup x) refl (λ t. counted n (suc K) (omega arith) (λ one. t))
    where
      by_test :
          (b : Bool) → operates (suc K) pickup x ≡ b → (operates (suc K) pickup x ≡ true → ChangesAt pickup x (counted_up n (suc K) pickup x))
          → ChangesAt pickup x (cond b (counted_up n (suc K) pickup x) K)
      by_test true t further = further t
      by_test false t further = by_edges K (omega arith) low (λ less. larger_slope t (omega arith))

  pub changes : ChangesAt pickup x (slope_of_change pickup x)
  changes = counted most_slope 0 refl (λ one. absurd (omega arith))

  is_the_one : (c : ℕ) → ChangesAt pickup x c → c ≡ slope_of_change pickup x
  is_the_one c h = only_one (λ K. operates K pickup x ≡ true) c _ h.0 changes.0 h.1 changes.1

  -- ---- halving

  -- c is at least `least` and below `least` + `width`
  pub record Between (least width : ℕ) : Type 0 where
    pub low : 1 ≤ least → operates least pickup x ≡ true
    pub high : least + width ≤ most_slope → operates (least + width) pickup x ≡ false
    pub some : 1 ≤ width
    pub most : least + width ≤ most_slope + 1

  pub any_number : Between 0 101
  any_number = record { low = λ one. absurd (omega arith); high = λ top. absurd (omega arith); some = omega arith; most = omega arith }

  -- b is what is found at the middle
  module _ (least width : ℕ) (h : Between least width) where
    pub upper_half : {b : Bool} → b ≡ operates (least + width / 2) pickup x → b ≡ true → Between (least + width / 2) (width - width / 2)
    upper_half e t =
        let same : least + width / 2 + (width - width / 2) ≡ least + width = omega arith in
        record { low = λ one. sym e ∙ t; high = rw same h.high; some = omega (arith, h.some); most = omega (arith, h.most) }

    pub lower_half : {b : Bool} → b ≡ operates (least + width / 2) pickup x → b ≡ false → Between least (width - width / 2)
    lower_half e t =
        record { low = h.low; high = λ top. larger_slope (sym e ∙ t) (omega arith); some = omega (arith, h.some); most = omega (arith, h.most) }

    pub found : width ≤ 1 → least ≡ slope_of_change pickup x
    found end =
        let one : width ≡ 1 = omega (arith, h.some) in
        is_the_one least (by_edges least (omega (arith, h.most)) h.low (λ less. rw one at h.high (omega arith)))

pub one_slope_of_change : OneSlopeOfChange
one_slope_of_change pickup c x = (is_the_one pickup x c, λ e. rw e (changes pickup x))

pub change_at_most_99 : ChangeAtMost99
change_at_most_99 i n pickup =
    let compared = comparison i n in
    let h = changes pickup compared in
    by_contra (slope_of_change pickup compared) 99 (λ past. false≢true (sym (none_at_100 i n pickup) ∙ (h.1 100 (omega arith) (le_refl 100)).1 (omega arith)))

pub change_below_pickup : ChangeBelowPickup
change_below_pickup pickup x below =
    let not-at-1 = unless (operates 1 pickup x) (λ t. let reached = ((operates_rule 1 pickup x).0 t).0 in omega (arith, reached, below)) in
    sym (is_the_one pickup x 0 (by_edges pickup x 0 (omega arith) (λ one. absurd (omega arith)) (λ less. not-at-1)))
