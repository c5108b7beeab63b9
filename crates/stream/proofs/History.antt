-- What a window holds after frames were fed. Each frame takes one off the front and adds one at the end. So after k frames the window's n
-- frames are what stood there, followed by all that was fed, without the first k of them.
use Prim.Native.Nat.{ℕ, zero, suc, ◌+◌, ◌*◌, ◌-◌, ◌≤◌, min}
use mathlib.Core.Path.{◌≡◌, refl, sym, ap, ◌∙◌}
use mathlib.Core.List.{List, [], ◌∷◌, ◌++◌, append_assoc, append-nil, flatten}
use native.Mathlib.Nat.{zero-add, zero-mul}
use native.Mathlib.Omega.{arith}
use lib.IntN.{ℤ}
use lib.ListN.{length, drop, length-append}
use lib.Seq.{drop-nil, drop-drop, drop-append-le, drop-append-add, length-take-le}
use Rattle.stream.specs.declared.Window.{Window}
use Rattle.stream.specs.Window.{newest_part, shifted, counted, moved_on}
use Rattle.stream.specs.History.{after, Frames, newest, Remembers}
use Rattle.stream.proofs.Moving.{moved_length, moved_newest}

-- ---- any window, any frames

pub fed_newest :
    (n m : ℕ) (w : Window) (fs : List (List ℤ)) → n * m ≤ length w.numbers → Frames m fs →
    newest_part n m (after n m w fs).numbers ≡ drop (length fs * m) (newest_part n m w.numbers ++ flatten fs)
unfolding after flatten
fed_newest n m w [] room h = rw (zero-mul m, append-nil (newest_part n m w.numbers))
fed_newest n m w (f ∷ fs) room h =
    let S : List ℤ = newest_part n m w.numbers in
    let k : ℕ = length fs in
    let room₁ : n * m ≤ length (shifted n m w.numbers f) = omega (arith, moved_length n m w.numbers f room h.0) in
    let times : m + k * m ≡ suc k * m = omega arith in
    fed_newest n m (moved_on n m w f) fs room₁ h.1
    ∙ ap (λ (l : List ℤ). drop (k * m) (l ++ flatten fs)) (moved_newest n m w.numbers f room h.0)
    ∙ ap (drop (k * m)) (sym (drop-append-le m (S ++ f) (flatten fs) (simp length-append (omega (arith, h.0)))))
    ∙ rw (drop-drop (k * m) m, append_assoc S f (flatten fs), times)

pub fed_count : (n m : ℕ) (w : Window) (fs : List (List ℤ)) → w.count ≤ n → (after n m w fs).count ≡ min n (w.count + length fs)
unfolding after
fed_count n m w [] few = omega arith
fed_count n m w (f ∷ fs) few =
    let next : counted n w.count ≤ n = omega arith in
    fed_count n m (moved_on n m w f) fs next ∙ omega arith

-- the frames one after another, without the first of them
flat_drop : (m : ℕ) (fs : List (List ℤ)) (d : ℕ) → Frames m fs → drop (d * m) (flatten fs) ≡ flatten (drop d fs)
unfolding flatten
flat_drop m fs zero h = rw (zero-mul m)
flat_drop m [] (suc d) h = drop-nil (suc d * m)
flat_drop m (f ∷ fs) (suc d) h =
    let times : suc d * m ≡ length f + d * m = omega (arith, h.0) in
    rw times (drop-append-add f (flatten fs) (d * m) ∙ flat_drop m fs d h.1)

-- ---- from an empty window

module _ (n m : ℕ) (w : Window) (fs : List (List ℤ)) (room : n * m ≤ length w.numbers) (h : Frames m fs) where
  last_frames : drop ((n - min n (length fs)) * m) (newest_part n m (after n m w fs).numbers) ≡ flatten (newest n fs)
  last_frames =
      let k : ℕ = length fs in
      let g : ℕ = n - min n k in
      let d : ℕ = k - n in
      let S : List ℤ = newest_part n m w.numbers in
      let long : length S ≡ n * m = length-take-le (n * m) w.numbers room in
      let gap : k + g ≡ n + d = omega arith in
      let left : k * m + g * m ≡ (k + g) * m = omega arith in
      let right : (n + d) * m ≡ length S + d * m = omega (arith, long) in
      ap (drop (g * m)) (fed_newest n m w fs room h) ∙ drop-drop (g * m) (k * m) (S ++ flatten fs)
      ∙ ap (λ (i : ℕ). drop i (S ++ flatten fs)) (left ∙ ap (λ (i : ℕ). i * m) gap ∙ right)
      ∙ drop-append-add S (flatten fs) (d * m) ∙ flat_drop m fs d h

  -- whatever stood in it: a window whose count is 0 remembers what is fed from then on
  pub fed : w.count ≡ 0 → Remembers n m fs (after n m w fs)
  fed e =
      record {
        counts = fed_count n m w fs (omega arith) ∙ rw (e, zero-add (length fs));
        last = last_frames;
        all = λ many.
            let none : n - min n (length fs) ≡ 0 = omega arith in
            rw (none, zero-mul m) at last_frames;
      }

-- ---- one frame more

pub after_more : (n m : ℕ) (w : Window) (fs : List (List ℤ)) (f : List ℤ) → after n m w (fs ++ (f ∷ [])) ≡ moved_on n m (after n m w fs) f
unfolding after
after_more n m w [] f = refl
after_more n m w (g ∷ fs) f = after_more n m (moved_on n m w g) fs f
