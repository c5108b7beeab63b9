-- The two parts of a relay's state: what is written over one leaves the other, and each is read from its own bytes alone.
use Prim.Native.Nat.{ℕ, ◌+◌, ◌*◌, ◌≤◌}
use mathlib.Core.Path.{◌≡◌, sym, ap, ap₂, ◌∙◌}
use mathlib.Core.List.{List, ◌++◌}
use native.Mathlib.Omega.{arith}
use lib.ListN.{length, take, drop, get_or, length-append}
use lib.Seq.{take-take, drop-drop, get_or-drop}
use Rattle.lent.specs.Lent.{over}
use Rattle.lent.proofs.Over.{over_before, over_behind, over_length, take_drop}
use Rattle.samples.specs.Window.{numbers_of}
use Rattle.stream.specs.Stored.{number_bytes, stored_length}
use Rattle.entry.specs.Pair.{Pair}
use Rattle.entry.proofs.Done.{FullPair}
use Rattle.gorsepetal.specs.State.{state_length, window_offset, settings_of, with_settings, window_of}
use Rattle.claims.specs.Unmoved.{pair_part, window_part}

-- the pair is read from its part
pub same_pair : (s t : List ℕ) → length s ≡ state_length → length t ≡ state_length → pair_part s ≡ pair_part t → settings_of s ≡ settings_of t
same_pair s t l k e =
    ap₂
    (λ (f p : List ℕ). record { force = f; pending = p })
    (sym (take-take 32 window_offset s (omega arith)) ∙ ap (take 32) e ∙ take-take 32 window_offset t (omega arith))
    (take_drop 32 32 s (omega arith) ∙ ap (drop 32) e ∙ sym (take_drop 32 32 t (omega arith)))

-- and the window from its own
pub same_window : (s t : List ℕ) → window_part s ≡ window_part t → window_of s ≡ window_of t
same_window s t e =
    let numbers : drop (window_offset + 2) s ≡ drop (window_offset + 2) t = sym (drop-drop 2 window_offset s) ∙ ap (drop 2) e ∙ drop-drop 2 window_offset t in
    let byte : (i : ℕ) → get_or s (window_offset + i) 0 ≡ get_or t (window_offset + i) 0 =
    λ i. sym (get_or-drop window_offset s i 0) ∙ ap (λ (l : List ℕ). get_or l i 0) e ∙ get_or-drop window_offset t i 0 in
    ap₂
    (λ (x : List ℕ) (n : ℕ). record { numbers = numbers_of (take number_bytes x); count = n })
    numbers
    (ap₂ (λ (x y : ℕ). x * 256 + y) (byte 0) (byte 1))

-- bytes written over the window
module _ (s x : List ℕ) (l : length s ≡ state_length) where
  pub pair_stays : pair_part (over s window_offset x) ≡ pair_part s
  pair_stays = over_before s window_offset x (omega arith)

  module _ (few : length x ≤ stored_length) where
    pub over_window_length : length (over s window_offset x) ≡ state_length
    over_window_length = over_length s window_offset x (omega arith) ∙ l

    pub settings_stay : settings_of (over s window_offset x) ≡ settings_of s
    settings_stay = same_pair (over s window_offset x) s over_window_length l pair_stays

-- a pair written at the front
pub part_stays : (s : List ℕ) (p : Pair) → FullPair p → window_part (with_settings s p) ≡ window_part s
part_stays s p w =
    let hf = w.force in
    let hp = w.pending in
    let x : List ℕ = p.force ++ p.pending in
    let end : 0 + length x + 0 ≡ window_offset = simp (length-append, hf, hp) (omega arith) in
    ap (λ (n : ℕ). drop n (over s 0 x)) (sym end) ∙ over_behind s 0 x (omega arith) 0 ∙ ap (λ (n : ℕ). drop n s) end
