-- Windows in a state: what was put is read again and changes nothing else, what was read changes nothing when it is put, and every window that
-- is made is one that a struct holds. A frame that is kept writes the count and the frames only: behind them stands what is right already.
use Prim.Native.Nat.{ℕ, ◌+◌, ◌*◌, ◌/◌, ◌-◌, ◌≤◌}
use mathlib.Core.Path.{◌≡◌, refl, sym, ap, ap₂, ◌∙◌}
use mathlib.Core.List.{List, ◌++◌}
use native.Mathlib.Nat.{add-zero}
use native.Mathlib.Omega.{arith}
use lib.IntN.{ℤ, pos}
use lib.ListN.{length, take, drop, get_or, replicate, length-drop, take-append-drop, drop_of_length-le}
use lib.Seq.{drop-drop, get_or-drop, take_all, take-append-add}
use Rattle.lent.specs.Lent.{over}
use Rattle.lent.proofs.Over.{over_from, over_same, take_drop}
use Rattle.samples.specs.Window.{window_length, numbers_of}
use Rattle.samples.proofs.Bytes.{held, numbers_drop}
use Rattle.stream.specs.declared.Window.{Window}
use Rattle.stream.specs.Window.{newest_part, behind, moved_on, none, HasRoom}
use Rattle.stream.specs.Stored.{number_bytes, stored_length, word, bytes_of, stored_first, stored, window_at, kept, Sample, Sound}
use Rattle.lent.specs.Bytes.{Every}
use Rattle.lent.proofs.Every.{every_append, every_take, every_drop, every_copy}
use Rattle.stream.proofs.Bytes.{bytes_first, two_bytes, written_read}
use Rattle.stream.proofs.Moving.{moved_length, moved_behind}
use Rattle.stream.proofs.Reading.{part_holds}

-- ---- the windows that are made

pub none_sound : Sound none
none_sound = record { full = refl; samples = every_copy Sample (window_length 6) (pos 0) (omega arith); counts = omega arith }

pub moved_sound :
    (n m : ℕ) (w : Window) (frame : List ℤ) → HasRoom n m → length frame ≡ m → Every Sample frame → Sound w → Sound (moved_on n m w frame)
moved_sound n m w frame few whole new old =
    let xs : List ℤ = w.numbers in
    let all = old.samples in
    let fed = every_append Sample (newest_part n m xs) frame (every_take Sample (n * m) xs all) new in
    record {
      full = moved_length n m xs frame (omega (arith, few.1, old.full)) whole ∙ old.full;
      samples =
          every_append Sample (drop m (newest_part n m xs ++ frame)) (behind n m xs) (every_drop Sample m (newest_part n m xs ++ frame) fed)
          (every_drop Sample (n * m) xs all);
      counts = omega (arith, few.0);
    }

-- ---- the count and the first k numbers of a window, put where the numbers behind them stand already

module _ (s : List ℕ) (at k : ℕ) (w : Window) (ok : Sound w) (few : k ≤ window_length 6) (room : at + stored_length ≤ length s) where
  abbrev front : List ℕ
  front = bytes_of (take k w.numbers)

  -- what is put, and what stands behind it
  abbrev X : List ℕ
  X = stored_first k w

  abbrev rest : List ℕ
  rest = drop (at + length X) s

  front_length : length front ≡ 2 * k
  front_length = bytes_first w.numbers k (omega (arith, ok.full))

  -- from `at` on stand these bytes, and then what stood there
  there : drop at (over s at X) ≡ X ++ rest
  there = over_from s at X (omega arith)

  byte_there : (i : ℕ) → get_or (over s at X) (at + i) 0 ≡ get_or (X ++ rest) i 0
  byte_there i = sym (get_or-drop at (over s at X) i 0) ∙ ap (λ (l : List ℕ). get_or l i 0) there

  numbers_there : take number_bytes (drop (at + 2) (over s at X)) ≡ front ++ drop (2 * k) (take number_bytes (drop (at + 2) s))
  numbers_there =
      let D : List ℕ = drop (at + 2) s in
      let left : ℕ = number_bytes - 2 * k in
      let all : 2 * k + left ≡ number_bytes = omega arith in
      let deep : 2 * k ≤ length D = omega (arith, length-drop (at + 2) s) in
      let far : at + length X ≡ at + 2 + 2 * k = omega (arith, front_length) in
      let behind : rest ≡ drop (2 * k) D = ap (λ (i : ℕ). drop i s) far ∙ sym (drop-drop (2 * k) (at + 2) s) in
      let long : length front + left ≡ number_bytes = omega (arith, front_length) in
      rw (← drop-drop 2 at (over s at X), there, behind)
      (ap (λ (i : ℕ). take i (front ++ drop (2 * k) D)) (sym long) ∙ take-append-add front (drop (2 * k) D) left
      ∙ ap (λ (l : List ℕ). front ++ l) (take_drop (2 * k) left D deep ∙ ap (λ (i : ℕ). drop (2 * k) (take i D)) all))

  -- reading gives the window
  first_read : drop k w.numbers ≡ drop k (window_at s at).numbers → window_at (over s at X) at ≡ w
  first_read same =
      let xs : List ℤ = w.numbers in
      let P : List ℕ = take number_bytes (drop (at + 2) s) in
      let high : get_or (over s at X) at 0 ≡ w.count / 256 = rw (add-zero at) at (byte_there 0) in
      let numbers : numbers_of (take number_bytes (drop (at + 2) (over s at X))) ≡ xs =
      ap numbers_of numbers_there ∙ written_read (take k xs) (drop (2 * k) P) (every_take Sample k xs ok.samples)
      ∙ ap (λ (l : List ℤ). take k xs ++ l) (numbers_drop k P ∙ sym same) ∙ take-append-drop k xs in
      ap₂ (λ (ys : List ℤ) (c : ℕ). record { numbers = ys; count = c }) numbers
      (ap₂ (λ (x y : ℕ). x * 256 + y) high (byte_there 1) ∙ two_bytes w.count)

-- ---- a whole window put

-- its first 336 numbers are all it has
pub all_first : (w : Window) → length w.numbers ≡ window_length 6 → stored w ≡ stored_first (window_length 6) w
all_first w full = ap (λ (xs : List ℤ). word w.count ++ bytes_of xs) (sym (take_all (window_length 6) w.numbers (omega arith)))

module _ (s : List ℕ) (at : ℕ) (w : Window) (ok : Sound w) (room : at + stored_length ≤ length s) where
  -- reading what was put gives the same window
  pub put_read : window_at (over s at (stored w)) at ≡ w
  put_read =
      let there : length (window_at s at).numbers ≡ window_length 6 = held (window_length 6) _ (part_holds s at room) in
      let none-behind : drop (window_length 6) w.numbers ≡ drop (window_length 6) (window_at s at).numbers =
      drop_of_length-le w.numbers {i = window_length 6} (omega (arith, ok.full))
      ∙ sym (drop_of_length-le (window_at s at).numbers {i = window_length 6} (omega (arith, there))) in
      ap (λ (x : List ℕ). window_at (over s at x) at) (all_first w ok.full) ∙ first_read s at (window_length 6) w ok (omega arith) room none-behind

-- ---- a frame kept in a state

module _ (s : List ℕ) (at n m : ℕ) (f : List ℤ) (ok : Sound (window_at s at)) (room : at + stored_length ≤ length s) (few : HasRoom n m) (whole : length f ≡ m) (new : Every Sample f) where
  abbrev w : Window
  w = moved_on n m (window_at s at) f

  pub kept_sound : Sound w
  kept_sound = moved_sound n m (window_at s at) f few whole new ok

  -- the window that is read afterwards has moved on
  pub kept_read : window_at (kept n m at s f) at ≡ w
  kept_read =
      first_read s at (n * m) w kept_sound few.1 room
      (moved_behind n m (window_at s at).numbers f (omega (arith, few.1, ok.full)) whole)

-- ---- no frame

-- an empty window is zero bytes, and zero bytes are one
pub none_stored : stored none ≡ replicate stored_length 0
unfolding bytes_of
none_stored = refl

pub fresh_none :
    (s : List ℕ) (at : ℕ) → at + stored_length ≤ length s → take stored_length (drop at s) ≡ replicate stored_length 0 → window_at s at ≡ none
fresh_none s at room h =
    ap (λ (l : List ℕ). window_at l at) (sym (over_same s at stored_length room) ∙ ap (over s at) (h ∙ sym none_stored)) ∙ put_read s at none none_sound room
