-- What one frame does to a window's numbers, as the code does it: the frames but the oldest are copied to the front, and the new frame behind
-- them.
use Prim.Native.Nat.{ℕ, ◌+◌, ◌*◌, ◌≤◌}
use mathlib.Core.Path.{◌≡◌, ap, ◌∙◌}
use mathlib.Core.List.{List, ◌++◌}
use native.Mathlib.Nat.{zero-add}
use native.Mathlib.Omega.{arith}
use lib.IntN.{ℤ}
use lib.ListN.{length, take, drop, length-drop, length-append}
use lib.Seq.{take_at, drop_at, drop-drop, drop-append-le, length-take-le}
use Rattle.lent.specs.Lent.{over}
use Rattle.lent.proofs.Over.{take_drop}
use Rattle.stream.specs.Window.{newest_part, behind, shifted}

-- Both writes: the frames but the oldest, of `rest` numbers, at the front, and behind them the new frame.
pub moved :
    (n rest : ℕ) (old frame : List ℤ) → length frame + rest ≡ n * length frame → n * length frame ≤ length old →
    over (over old 0 (take rest (drop (length frame) old))) rest frame ≡ shifted n (length frame) old frame
moved n rest old frame all room =
    let m : ℕ = length frame in
    let S : List ℤ = newest_part n m old in
    let P : List ℤ = drop m S in
    let deep : length S ≡ n * m = length-take-le (n * m) old room in
    let long : length P ≡ rest = length-drop m S ∙ omega (arith, deep) in
    let is : take rest (drop m old) ≡ P = take_drop m rest old (omega arith) ∙ ap (λ (k : ℕ). drop m (take k old)) all in
    let also : rest + m ≡ n * m = omega arith in
    rw (is, zero-add (length P), long, take_at P (drop rest old) rest long, ← drop-drop m rest (P ++ drop rest old))
    (rw (drop_at P (drop rest old) rest long, drop-drop m rest old, also, drop-append-le m S frame (omega (arith, deep))))

-- the n frames after a frame, and the numbers behind them
module _ (n m : ℕ) (xs f : List ℤ) (room : n * m ≤ length xs) (whole : length f ≡ m) where
  pub moved_length : length (shifted n m xs f) ≡ length xs
  moved_length = simp (length-append, length-drop, length-append, length-take-le (n * m) xs room) (omega arith)

  front_length : length (drop m (newest_part n m xs ++ f)) ≡ n * m
  front_length = simp (length-drop, length-append, length-take-le (n * m) xs room) (omega arith)

  pub moved_newest : newest_part n m (shifted n m xs f) ≡ drop m (newest_part n m xs ++ f)
  moved_newest = take_at (drop m (newest_part n m xs ++ f)) (behind n m xs) (n * m) front_length

  pub moved_behind : behind n m (shifted n m xs f) ≡ behind n m xs
  moved_behind = drop_at (drop m (newest_part n m xs ++ f)) (behind n m xs) (n * m) front_length
