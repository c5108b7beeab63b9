-- What a caller knows of a call by how many bytes it lent; and the last number there is.
use Prim.Native.Nat.{ℕ, ◌+◌, ◌*◌, ◌-◌, min}
use mathlib.Core.Path.{◌≡◌, ap, ◌∙◌}
use mathlib.Core.List.{List, [], ◌∷◌}
use mathlib.Core.Bool.{Bool, true, false, cond}
use native.Mathlib.Omega.{arith}
use borrow.Author.Tests.{le-leb, lt-leb, ne_eqb}
use lib.ListN.{length, take, length-append, length-take}
use Rattle.records.specs.Record.{Shape, word_at, record_length}
use Rattle.files.specs.Reader.{OtherNumber, Ended, Reading, Stopped, More, Whole, wrong_number, in_hand}
use Rattle.files.specs.Cutting.{NoWrap, CallerKnows}

-- by the two tests, an outcome is neither of the others
not_whole : (a : Bool) (i : ℕ) (sh : Shape) (g : List ℕ) → cond a (Stopped (OtherNumber i)) More ≡ Whole sh g → ⊥
not_whole true i sh g k = cc
not_whole false i sh g k = cc

not_more : (a : Bool) (i : ℕ) (sh : Shape) (g : List ℕ) → cond a (Stopped (OtherNumber i)) (Whole sh g) ≡ More → ⊥
not_more true i sh g k = cc
not_more false i sh g k = cc

pub caller_knows : CallerKnows
caller_knows (Ended e) piece f = record { fewer = λ l. absurd (omega arith); enough = λ l. absurd (omega arith) }
caller_knows (Reading sh i h) piece f =
    let n : ℕ = record_length sh in
    let g : List ℕ = in_hand sh h piece in
    let long : length g ≡ length h + min (n - length h) (length piece) =
    length-append h (take (n - length h) piece) ∙ ap (λ (k : ℕ). length h + k) (length-take (n - length h) piece) in
    record {
      fewer = λ l s x k. not_whole (wrong_number i g) i s x (rw (lt-leb n (length g) (omega (arith, long))) at k);
      enough = λ p l k. not_more (wrong_number i g) i sh g (rw (le-leb n (length g) (omega (arith, long))) at k);
    }

pub no_wrap : NoWrap
unfolding word_at
no_wrap sh [] p l = absurd (omega arith)
no_wrap sh (a ∷ []) p l = absurd (omega arith)
no_wrap sh (a ∷ b ∷ []) p l = absurd (omega arith)
no_wrap sh (a ∷ b ∷ c ∷ []) p l = absurd (omega arith)
no_wrap sh (a ∷ b ∷ c ∷ d ∷ h) p l =
    let other = ne_eqb (a + 256 * (b + 256 * (c + 256 * d))) 4294967296 (λ e. omega (arith, p.0, p.1.0, p.1.1.0, p.1.1.1.0, e)) in
    rw (le-leb 4 (length (a ∷ b ∷ c ∷ d ∷ h)) l, other)
