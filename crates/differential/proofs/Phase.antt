-- What is compared in one phase, from the current of each end: equal currents give the same, and how large the sums get.
use mathlib.Core.Path.{◌≡◌, refl, ap, ◌∙◌}
use Prim.Native.Nat.{ℕ, zero, suc, ◌+◌, ◌*◌, ◌^◌, ◌<◌, ◌≤◌}
use native.Mathlib.Omega.{arith}
use lib.Dec.{le→leb}
use Rattle.whole.specs.Sum.{sum_of}
use Rattle.plane.specs.declared.Phasor.{Phasor}
use Rattle.plane.specs.Plane.{plus, squared_magnitude}
use Rattle.plane.specs.Sizes.{Inside, phasor_size}
use Rattle.plane.proofs.Bounds.{inside_wider, inside_along}
use Rattle.plane.proofs.Laws.{squared_magnitude_most}
use Rattle.phasors.specs.Grid.{total}
use Rattle.phasors.proofs.Totals.{total_next, total_same, inside_total}
use Rattle.differential.specs.Differential.{square, end_restraint, restraint, comparison}
use Rattle.differential.specs.Sizes.{Sized, end_most}
use Rattle.differential.proofs.Sizes.{restraint_next}

-- equal terms have equal sums
sum_same : (f g : ℕ → ℕ) (n : ℕ) → ((k : ℕ) → k < n → f k ≡ g k) → sum_of f n ≡ sum_of g n
unfolding sum_of
sum_same f g zero h = refl
sum_same f g (suc n) h = λ i. sum_same f g n (λ k l. h k (omega arith)) i + h n (omega arith) i

pub comparison_same : (f g : ℕ → Phasor) (n : ℕ) → ((k : ℕ) → k < n → f k ≡ g k) → comparison f n ≡ comparison g n
unfolding square restraint
comparison_same f g n h =
    let s = ap squared_magnitude (total_same f g n h) in
    let u = sum_same (λ e. end_restraint (f e)) (λ e. end_restraint (g e)) n (λ e k. ap end_restraint (h e k)) in
    λ i. record { square = s i; restraint = u i }

-- ---- one turn of the loop over the ends, whose end has the current x, and what the loop leaves

module _ (i : ℕ → Phasor) (n : ℕ) {x : Phasor} (e : x ≡ i n) where
  pub one_more : {sum r : Phasor} → sum ≡ total i n → r ≡ plus sum x → r ≡ total i (n + 1)
  one_more f g = rw (g, f, e, total_next i n)

  pub restrained_more : {u v : ℕ} → u ≡ restraint i n → v ≡ end_restraint x → u + v ≡ restraint i (n + 1)
  restrained_more f g = rw (g, f, e, restraint_next i n)

  pub no_larger : Inside phasor_size (i n) → Inside (2 ^ 61) x
  no_larger h = inside_along e (inside_wider h tt)

module _ (i : ℕ → Phasor) (ends : ℕ) (h : (ends ≤ 6) × ((e : ℕ) → e < ends → Inside phasor_size (i e))) where
  pub sum_inside : {n : ℕ} {sum : Phasor} → sum ≡ total i n → n ≤ ends → Inside 252000 sum
  sum_inside {n} e l =
      let most : 42000 * n ≤ 252000 = omega (arith, h.0) in
      inside_along e (inside_wider (inside_total i 42000 n (λ k m. h.1 k (omega arith))) (le→leb _ _ most))

  pub compared :
      {n u q : ℕ} {sum : Phasor} → sum ≡ total i n → u ≡ restraint i n → u ≤ end_most * n → n ≡ ends →
      q ≡ squared_magnitude sum →
      (record { square = q; restraint = u } ≡ comparison i ends) × Sized (record { square = q; restraint = u })
  unfolding square
  compared {n} {u} {q} {sum} e f most past g = (
    rw (← past) (λ t. record { square = (g ∙ ap squared_magnitude e) t; restraint = f t }),
    record {
      square_size = omega (arith, g, squared_magnitude_most (sum_inside e (omega arith)));
      restraint_size = omega (arith, h.0);
    },
  )
