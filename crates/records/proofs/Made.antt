-- A record made and taken apart, and taken apart and made again.
use Prim.Native.Nat.{ℕ, ◌+◌, ◌*◌, ◌/◌, ◌%◌, ◌<◌}
use mathlib.Core.Path.{◌≡◌, ap, ap₂, ◌∙◌}
use mathlib.Core.List.{List, [], ◌∷◌, ◌++◌}
use native.Mathlib.Omega.{arith}
use lib.ListN.{length, take}
use lib.Seq.{take_all}
use Rattle.lent.specs.Bytes.{Every, Byte}
use Rattle.samples.specs.Window.{channels}
use Rattle.records.specs.Record.{word_at, four_bytes, swapped, narrow, record_length, number_in, time_in, frame_in, record_of}
use Rattle.records.proofs.Swapped.{swapped_length, swapped_twice}

number_again : (v : ℕ) → v < 4294967296 → v % 256 + 256 * (v / 256 % 256 + 256 * (v / 256 / 256 % 256 + 256 * (v / 256 / 256 / 256 % 256))) ≡ v
number_again v l = omega arith

bytes_again : (a b c d : ℕ) → a < 256 → b < 256 → c < 256 → d < 256 → four_bytes (a + 256 * (b + 256 * (c + 256 * d))) ≡ a ∷ b ∷ c ∷ d ∷ []
bytes_again a b c d h i j k =
    let past : (x y : ℕ) → x < 256 → (x + 256 * y) / 256 ≡ y = λ x y q. omega arith in
    let first : (x y : ℕ) → x < 256 → (x + 256 * y) % 256 ≡ x = λ x y q. omega arith in
    rw (past a (b + 256 * (c + 256 * d)) h, past b (c + 256 * d) i, past c d j, first a (b + 256 * (c + 256 * d)) h, first b (c + 256 * d) i, first c d j)
    (ap (λ (x : ℕ). a ∷ b ∷ c ∷ x ∷ []) (omega arith))

module _ (ends number time : ℕ) (frame : List ℕ) (long : length frame ≡ 2 * channels ends) where
  pub made_length : length (record_of number time frame) ≡ record_length (narrow ends 0)
  made_length = omega (arith, swapped_length (channels ends) frame long)

  pub made_number : number < 4294967296 → number_in (record_of number time frame) ≡ number
  unfolding word_at
  made_number l = number_again number l

  pub made_time : time < 4294967296 → time_in (record_of number time frame) ≡ time
  unfolding word_at
  made_time l = number_again time l

  pub made_frame : frame_in ends (record_of number time frame) ≡ frame
  made_frame =
      ap swapped (take_all (2 * channels ends) (swapped frame) (omega (arith, swapped_length (channels ends) frame long))) ∙ swapped_twice (channels ends) frame long

pub made_again : (ends : ℕ) (g : List ℕ) → Every Byte g → length g ≡ record_length (narrow ends 0) → record_of (number_in g) (time_in g) (frame_in ends g) ≡ g
unfolding word_at
made_again ends [] p l = absurd (omega arith)
made_again ends (a ∷ []) p l = absurd (omega arith)
made_again ends (a ∷ b ∷ []) p l = absurd (omega arith)
made_again ends (a ∷ b ∷ c ∷ []) p l = absurd (omega arith)
made_again ends (a ∷ b ∷ c ∷ d ∷ []) p l = absurd (omega arith)
made_again ends (a ∷ b ∷ c ∷ d ∷ e ∷ []) p l = absurd (omega arith)
made_again ends (a ∷ b ∷ c ∷ d ∷ e ∷ f ∷ []) p l = absurd (omega arith)
made_again ends (a ∷ b ∷ c ∷ d ∷ e ∷ f ∷ h ∷ []) p l = absurd (omega arith)
made_again ends (a ∷ b ∷ c ∷ d ∷ e ∷ f ∷ h ∷ i ∷ g) p l =
    let q = p.1.1.1.1 in
    let n : ℕ = channels ends in
    let number = bytes_again a b c d p.0 p.1.0 p.1.1.0 p.1.1.1.0 in
    let time = bytes_again e f h i q.0 q.1.0 q.1.1.0 q.1.1.1.0 in
    let some : length g ≡ 2 * n = omega arith in
    let frame : swapped (swapped (take (2 * n) g)) ≡ g = ap (λ (t : List ℕ). swapped (swapped t)) (take_all (2 * n) g (omega arith)) ∙ swapped_twice n g some in
    ap₂ ◌++◌ (ap₂ ◌++◌ number time) frame
