-- The sum of a phase over the ends: how it grows, how large it gets, that the sum of a filled grid is that of the currents in the window,
-- what stands at end 1 of one, and the triangle inequality over the ends.
use mathlib.Core.Path.{◌≡◌, refl, ◌∙◌}
use mathlib.Core.List.{List, [], ◌∷◌}
use Prim.Native.Nat.{ℕ, zero, suc, ◌+◌, ◌*◌, ◌<◌, ◌≤◌, zero-le}
use native.Mathlib.Numerals.{add-one}
use native.Mathlib.Omega.{arith}
use lib.Dec.{le→leb}
use lib.IntN.{ℤ, ◌+ℤ◌, ◌-ℤ◌, ◌*ℤ◌}
use Rattle.whole.specs.Sum.{sum_of}
use Rattle.whole.proofs.Certificate.{quo, ring! }
use Rattle.plane.proofs.Triangle.{len_zero, len_add}
use Rattle.plane.specs.declared.Phasor.{Phasor}
use Rattle.plane.specs.Plane.{plus, minus, scaled}
use Rattle.plane.specs.Sizes.{Inside, AllInside, phasor_size, Long}
use Rattle.plane.proofs.Bounds.{inside_plus, inside_wider}
use Rattle.plane.proofs.Made.{pair}
use Rattle.phasors.specs.Rate.{Rate}
use Rattle.phasors.specs.Grid.{cell, current, local_currents, local_of, total, Filled}
use Rattle.phasors.specs.Sizes.{GridInside}

pub total_next : (f : ℕ → Phasor) (n : ℕ) → total f (n + 1) ≡ plus (total f n) (f n)
unfolding total
total_next f n = rw (add-one n)

-- equal currents have equal sums
pub total_same : (f g : ℕ → Phasor) (n : ℕ) → ((k : ℕ) → k < n → f k ≡ g k) → total f n ≡ total g n
unfolding total
total_same f g zero h = refl
total_same f g (suc n) h = λ i. plus (total_same f g n (λ k l. h k (omega arith)) i) (h n (omega arith) i)

-- n currents, each within b of zero
pub inside_total : (f : ℕ → Phasor) (b n : ℕ) → ((k : ℕ) → k < n → Inside b (f k)) → Inside (b * n) (total f n)
unfolding total
inside_total f b zero h = record { real = record { size = zero-le }; imag = record { size = zero-le } }
inside_total f b (suc n) h =
    let more : b * n + b ≤ b * suc n = omega arith in
    inside_wider (inside_plus (inside_total f b n (λ k l. h k (omega arith))) (h n (omega arith))) (le→leb _ _ more)

-- a phase of a filled grid has the sum of its currents in the window
pub filled_total :
    {rate : Rate} {w : List ℤ} {ends : ℕ} {g : List (List Phasor)} → Filled rate w ends g → (p : ℕ) → p < 3 →
    total (cell g p) ends ≡ total (current rate w ends p) ends
filled_total {rate} {w} {ends} {g} h p l = total_same (cell g p) (current rate w ends p) ends (λ e k. h.measured p e l k)

-- and end 1 of it has the currents of end 1, each within 42000 of zero
pub filled_local :
    {rate : Rate} {w : List ℤ} {ends : ℕ} {g : List (List Phasor)} → Filled rate w ends g → GridInside g ends → 0 < ends →
    (local_of g ≡ local_currents rate w ends) × AllInside phasor_size (local_of g)
filled_local h small n =
    let a : 0 < 3 = omega arith in
    let b : 1 < 3 = omega arith in
    let c : 2 < 3 = omega arith in (
      (λ i. record { a = h.measured 0 0 a n i; b = h.measured 1 0 b n i; c = h.measured 2 0 c n i }),
      record { inside_a = small 0 0 a n; inside_b = small 1 0 b n; inside_c = small 2 0 c n },
    )

-- ---- sums of multiples and of differences, and the triangle inequality over the ends

pub total_scaled : (k : ℤ) (f : ℕ → Phasor) (n : ℕ) → total (λ e. scaled k (f e)) n ≡ scaled k (total f n)
unfolding total plus scaled
total_scaled k f zero = pair (ring! (k ∷ []) (search quo depth 40) tt) (ring! (k ∷ []) (search quo depth 40) tt)
total_scaled k f (suc n) = (λ i. plus (total_scaled k f n i) (scaled k (f n))) ∙ pair (out (total f n).re (f n).re) (out (total f n).im (f n).im)
  where
    out : (x y : ℤ) → k *ℤ x +ℤ k *ℤ y ≡ k *ℤ (x +ℤ y)
    out x y = ring! (k ∷ x ∷ y ∷ []) (search quo depth 40) tt

pub total_minus : (f g : ℕ → Phasor) (n : ℕ) → total (λ e. minus (f e) (g e)) n ≡ minus (total f n) (total g n)
unfolding total plus minus
total_minus f g zero = refl
total_minus f g (suc n) =
    (λ i. plus (total_minus f g n i) (minus (f n) (g n)))
    ∙ pair (apart (total f n).re (total g n).re (f n).re (g n).re) (apart (total f n).im (total g n).im (f n).im (g n).im)
  where
    apart : (x y z w : ℤ) → (x -ℤ y) +ℤ (z -ℤ w) ≡ (x +ℤ z) -ℤ (y +ℤ w)
    apart x y z w = ring! (x ∷ y ∷ z ∷ w ∷ []) (search quo depth 40) tt

-- a sum is at most as long as its terms together
pub long_total : (f : ℕ → Phasor) (a : ℕ → ℕ) (n : ℕ) → ((e : ℕ) → Long (f e) (a e)) → Long (total f n) (sum_of a n)
unfolding total plus sum_of
long_total f a zero h = len_zero
long_total f a (suc n) h = len_add (long_total f a n h) (h n)
