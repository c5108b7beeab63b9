-- Records joined and read, both ways. Records handed over whole, which by `pieces` is any way of cutting, are each whole at once. What was read is
-- followed byte by byte: the bytes so far are those of the records noted, and those in hand.
use Prim.Native.Nat.{ℕ, suc, ◌+◌, ◌<◌, ◌≤◌}
use mathlib.Core.Path.{◌≡◌, refl, sym, ap, ap₂, subst, ◌∙◌}
use mathlib.Core.List.{List, [], ◌∷◌, ◌++◌, append_assoc, append-nil}
use mathlib.Core.Bool.{Bool, true, false, cond}
use native.Mathlib.Omega.{arith}
use borrow.Author.Tests.{leb-true, leb-false, le-leb, eq-eqb}
use lib.Dec.{leb}
use lib.ListN.{length, length-append}
use Rattle.std.specs.Prelude.{Ok}
use Rattle.records.specs.Record.{Shape, record_length, number_in}
use Rattle.files.specs.Reader.{OtherNumber, Stopped, More, Whole, wrong_number, after, end_answer}
use Rattle.files.specs.Caller.{Caller, hears, call, hand, together, heard_of, notes}
use Rattle.files.specs.Cutting.{Numbered, ReadAsJoined, JoinedAsRead}
use Rattle.files.proofs.Cut.{some_length, right_number, all_taken, bytewise, bytewise_append, reading, at_once, ended_bytes, pieces}

module _ (sh : Shape) where
  -- the caller when k records were read, and noted in hs, with the bytes h in hand
  abbrev noted : ℕ → List (List ℕ) → List ℕ → Caller Unit (List ℕ)
  noted k hs h = reading notes tt hs sh k h

  one_record : (k : ℕ) (hs : List (List ℕ)) (g : List ℕ) → length g ≡ record_length sh → number_in g ≡ suc k → bytewise notes (noted k hs []) g ≡ noted (suc k) (hs ++ g ∷ []) []
  one_record k hs [] l n = absurd (omega (arith, some_length sh))
  one_record k hs (b ∷ p) l n =
      let g : List ℕ = b ∷ p in
      sym (at_once notes tt hs sh k [] b p (omega arith)) ∙
      rw (all_taken sh [] g (omega arith), le-leb 4 (length g) (omega (arith, some_length sh)), eq-eqb (number_in g) (suc k) n, le-leb (record_length sh) (length g) (omega arith))

  joined :
      (k : ℕ) (hs gs : List (List ℕ)) → Numbered sh k gs → bytewise notes (noted k hs []) (together gs) ≡ noted (k + length gs) (hs ++ gs) []
  unfolding together bytewise
  joined k hs [] n = ap₂ (λ (m : ℕ) (r : List (List ℕ)). noted m r []) (omega arith) (sym (append-nil hs))
  joined k hs (g ∷ gs) n =
      bytewise_append notes (noted k hs []) g (together gs) ∙
      ap (λ (c : Caller Unit (List ℕ)). bytewise notes c (together gs)) (one_record k hs g n.0 n.1) ∙
      joined (suc k) (hs ++ g ∷ []) gs n.2 ∙
      ap₂ (λ (m : ℕ) (r : List (List ℕ)). noted m r []) (omega arith) (append_assoc hs (g ∷ []) gs)

  -- the bytes from those in hand on are those of the records noted from now on
  record Kept (k : ℕ) (hs : List (List ℕ)) (b : List ℕ) (c : Caller Unit (List ℕ)) : Type 0 where
    pub gs : List (List ℕ)
    pub heard : c.heard ≡ hs ++ gs
    pub numbered : Numbered sh k gs
    pub bytes : together gs ≡ b

  abbrev Keeps : List ℕ → Type 0
  Keeps bs =
      (k : ℕ) (hs : List (List ℕ)) (h : List ℕ) → length h < record_length sh →
      end_answer (bytewise notes (noted k hs h) bs).reader ≡ Ok tt → Kept k hs (h ++ bs) (bytewise notes (noted k hs h) bs)

  -- the caller with the bytes g in hand, by the two tests
  abbrev tested : ℕ → List (List ℕ) → List ℕ → Bool → Bool → Caller Unit (List ℕ)
  tested k hs g wrong whole =
      let o = cond wrong (Stopped (OtherNumber k)) (cond whole (Whole sh g) More) in
      hears notes tt hs (after sh k g o) o

  -- one byte more in hand, and then the rest
  kept_step :
      (bs : List ℕ) → Keeps bs → (k : ℕ) (hs : List (List ℕ)) (g : List ℕ) → length g ≤ record_length sh →
      (wrong whole : Bool) → wrong_number k g ≡ wrong → leb (record_length sh) (length g) ≡ whole →
      end_answer (bytewise notes (tested k hs g wrong whole) bs).reader ≡ Ok tt → Kept k hs (g ++ bs) (bytewise notes (tested k hs g wrong whole) bs)
  unfolding together
  kept_step bs on k hs g l true whole t u a = let e = rw (ended_bytes notes tt (hs ++ []) (OtherNumber k) bs) at a in cc
  kept_step bs on k hs g l false true t u a =
      let rest = on (suc k) (hs ++ g ∷ []) [] (omega (arith, some_length sh)) a in
      let full : record_length sh ≤ length g = leb-true (record_length sh) (length g) u in
      record {
        gs = g ∷ rest.gs;
        heard = rest.heard ∙ append_assoc hs (g ∷ []) rest.gs;
        numbered = (omega arith, right_number k g (omega (arith, some_length sh)) t, rest.numbered);
        bytes = ap (λ (r : List ℕ). g ++ r) rest.bytes;
      }
  kept_step bs on k hs g l false false t u a = on k hs g (leb-false (record_length sh) (length g) u) a

  kept : (bs : List ℕ) → Keeps bs
  unfolding bytewise together
  kept [] k hs [] f a = record { gs = []; heard = sym (append-nil hs); numbered = tt; bytes = refl }
  kept [] k hs (x ∷ h) f a = absurd cc
  kept (b ∷ bs) k hs h f a =
      let g : List ℕ = h ++ b ∷ [] in
      let snoc : h ++ b ∷ bs ≡ g ++ bs = sym (append_assoc h (b ∷ []) bs) in
      let called : call notes (noted k hs h) (b ∷ []) ≡ tested k hs g (wrong_number k g) (leb (record_length sh) (length g)) = rw (all_taken sh h (b ∷ []) (omega arith)) in
      let rest = kept_step bs (kept bs) k hs g (simp length-append (omega arith)) (wrong_number k g) (leb (record_length sh) (length g)) refl refl (subst (λ (c : Caller Unit (List ℕ)). end_answer (bytewise notes c bs).reader ≡ Ok tt) called a) in
      rw snoc (subst (λ (c : Caller Unit (List ℕ)). Kept k hs (g ++ bs) (bytewise notes c bs)) (sym called) rest)

pub read_as_joined : ReadAsJoined
read_as_joined sh gs ps n e =
    ap heard_of
    (pieces notes ps (noted sh 0 [] []) (omega (arith, some_length sh)) ∙
    ap (bytewise notes (noted sh 0 [] [])) e ∙
    joined sh 0 [] gs n)

pub joined_as_read : JoinedAsRead
joined_as_read sh ps a =
    let start = noted sh 0 [] [] in
    let same : hand notes start ps ≡ bytewise notes start (together ps) = pieces notes ps start (omega (arith, some_length sh)) in
    let k = kept sh (together ps) 0 [] [] (omega (arith, some_length sh)) (rw same at a) in
    rw (same, k.heard) (k.numbered, k.bytes)
