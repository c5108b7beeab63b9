-- Cut anywhere. Every way of handing a file over comes to the same as handing it over byte by byte: bytes taken one by one end up in hand as
-- those taken at once, a wrong number stays wrong whatever follows its four bytes, and a record is whole at its last byte alone.
use Prim.Native.Nat.{ℕ, zero, suc, ◌+◌, ◌-◌, ◌<◌, ◌≤◌}
use mathlib.Core.Path.{◌≡◌, refl, sym, ap, ◌∙◌}
use mathlib.Core.List.{List, [], ◌∷◌, ◌++◌, append_assoc}
use mathlib.Core.Bool.{Bool, true, false, false≢true, cond, not, ◌&&◌}
use native.Mathlib.Omega.{arith}
use borrow.Author.Tests.{leb-true, leb-false, le-leb, lt-leb, eqb-true}
use lib.Dec.{eqb, leb}
use lib.ListN.{length, take, drop, length-append, length-take, length-drop, take-append-drop, get_or-append}
use lib.Seq.{take_all, take-take}
use Rattle.records.specs.Record.{Shape, word_at, record_length, number_in}
use Rattle.files.specs.Reader.{Reader, Ended, Reading, Ending, OtherNumber, Outcome, Stopped, More, Whole, wanted, wrong_number, outcome, after, in_hand, read_next, Fits}
use Rattle.files.specs.Caller.{Caller, Hears, hears, call_on, call, wants, hand_turns, hand_all, hand, together}
use Rattle.files.specs.Cutting.{CutAnywhere, AlwaysWants}

-- a record has at least its number and its time
pub some_length : (sh : Shape) → 8 ≤ record_length sh
some_length sh = omega arith

pub always_wants : AlwaysWants
always_wants sh i h f = omega arith

-- a number goes by its four bytes, whatever follows
pub number_on : (h q : List ℕ) → 4 ≤ length h → number_in (h ++ q) ≡ number_in h
unfolding word_at
number_on h q l =
    let byte : (k : ℕ) → k < 4 → _ = λ k m. get_or-append h q 0 k (omega arith) in
    rw (byte 0 (omega arith), byte 1 (omega arith), byte 2 (omega arith), byte 3 (omega arith))

-- a wrong number stays wrong
wrong_on : (i : ℕ) (h q : List ℕ) → wrong_number i h ≡ true → wrong_number i (h ++ q) ≡ true
wrong_on i h q w = by_test (leb 4 (length h)) refl w
  where
    by_test : (a : Bool) → leb 4 (length h) ≡ a → (a && not (eqb (number_in h) (suc i))) ≡ true → wrong_number i (h ++ q) ≡ true
    by_test true t w =
        let four : 4 ≤ length h = leb-true 4 (length h) t in
        let more : 4 ≤ length (h ++ q) = simp length-append (omega arith) in
        rw (le-leb 4 (length (h ++ q)) more, number_on h q four) w
    by_test false t w = absurd (false≢true w)

-- one that is not wrong is one above the index
pub right_number : (i : ℕ) (g : List ℕ) → 4 ≤ length g → wrong_number i g ≡ false → number_in g ≡ suc i
right_number i g l t = by_test (eqb (number_in g) (suc i)) refl (rw (le-leb 4 (length g) l) at t)
  where
    by_test : (b : Bool) → eqb (number_in g) (suc i) ≡ b → not b ≡ false → number_in g ≡ suc i
    by_test true e n = eqb-true (number_in g) (suc i) e
    by_test false e n = absurd (false≢true (sym n))

-- the bytes in hand after a piece that is wanted to its end
pub all_taken : (sh : Shape) (h p : List ℕ) → length h + length p ≤ record_length sh → in_hand sh h p ≡ h ++ p
all_taken sh h p l = ap (λ q. h ++ q) (take_all (record_length sh - length h) p (omega arith))

-- the bytes in hand stay fewer than a record's
pub fits_next : (r : Reader) (p : List ℕ) → Fits r → Fits (read_next r p)
fits_next (Ended e) p f = tt
fits_next (Reading sh i h) p f = by_tests (in_hand sh h p)
  where
    by_tests : (g : List ℕ) → Fits (after sh i g (outcome sh i g))
    by_tests g = by_test (wrong_number i g) (leb (record_length sh) (length g)) refl
      where
        by_test :
            (a b : Bool) → leb (record_length sh) (length g) ≡ b →
            Fits (after sh i g (cond a (Stopped (OtherNumber i)) (cond b (Whole sh g) More)))
        by_test true b t = tt
        by_test false true t = omega (arith, some_length sh)
        by_test false false t = leb-false (record_length sh) (length g) t

module _ {S I : Type 0} (does : Hears S I) where
  -- a file handed over byte by byte
  unfoldable pub bytewise : Caller S I → List ℕ → Caller S I
  bytewise c [] = c
  bytewise c (b ∷ bs) = bytewise (call does c (b ∷ [])) bs

  bytewise_none : (c : Caller S I) → c ≡ bytewise c []
  unfolding bytewise
  bytewise_none c = refl

  pub bytewise_append : (c : Caller S I) (xs ys : List ℕ) → bytewise c (xs ++ ys) ≡ bytewise (bytewise c xs) ys
  unfolding bytewise
  bytewise_append c [] ys = refl
  bytewise_append c (x ∷ xs) ys = bytewise_append (call does c (x ∷ [])) xs ys

  -- after the reading has ended
  abbrev pub ended : S → List I → Ending → Caller S I
  ended s hs e = record { state = s; reader = Ended e; heard = hs }

  pub ended_bytes : (s : S) (hs : List I) (e : Ending) (bs : List ℕ) → bytewise (ended s hs e) bs ≡ ended s hs e
  unfolding bytewise
  ended_bytes s hs e [] = refl
  ended_bytes s hs e (b ∷ bs) = ended_bytes s hs e bs

  ended_turns : (s : S) (hs : List I) (e : Ending) (n : ℕ) (bs : List ℕ) → hand_turns wants (call does) n (ended s hs e) bs ≡ ended s hs e
  unfolding hand_turns
  ended_turns s hs e zero bs = refl
  ended_turns s hs e (suc n) [] = refl
  ended_turns s hs e (suc n) (b ∷ bs) = ended_turns s hs e n (b ∷ bs)

  module _ (s : S) (hs : List I) (sh : Shape) (i : ℕ) where
    -- with the bytes g in hand
    abbrev with : List ℕ → Caller S I
    with g = hears does s hs (after sh i g (outcome sh i g)) (outcome sh i g)

    -- bytes taken at once, and one by one
    one_by_one : (p h : List ℕ) (b : ℕ) → length h + suc (length p) ≤ record_length sh → with (h ++ b ∷ p) ≡ bytewise (with (h ++ b ∷ [])) p
    unfolding bytewise
    one_by_one [] h b l = refl
    one_by_one (d ∷ p) h b l = by_test (wrong_number i (h ++ b ∷ [])) refl (one_by_one p (h ++ b ∷ []) d (simp length-append (omega arith)))
      where
        snoc : h ++ b ∷ d ∷ p ≡ (h ++ b ∷ []) ++ d ∷ p
        snoc = sym (append_assoc h (b ∷ []) (d ∷ p))

        few : length (h ++ b ∷ []) < record_length sh
        few = simp length-append (omega arith)

        by_test :
            (a : Bool) → wrong_number i (h ++ b ∷ []) ≡ a →
            with ((h ++ b ∷ []) ++ d ∷ p) ≡ bytewise (with ((h ++ b ∷ []) ++ d ∷ [])) p →
            with (h ++ b ∷ d ∷ p) ≡ bytewise (with (h ++ b ∷ [])) (d ∷ p)
        by_test true t on =
            rw (snoc, wrong_on i (h ++ b ∷ []) (d ∷ p) t, t) (sym (ended_bytes s (hs ++ does.stopped s (OtherNumber i)) (OtherNumber i) (d ∷ p)))
        by_test false t on = rw (t, lt-leb (record_length sh) (length (h ++ b ∷ [])) few, all_taken sh (h ++ b ∷ []) (d ∷ []) (omega (arith, few)), snoc) on

  -- a reading, and a piece that is wanted to its end, at once and byte by byte
  abbrev pub reading : S → List I → Shape → ℕ → List ℕ → Caller S I
  reading s hs sh i h = record { state = s; reader = Reading sh i h; heard = hs }

  pub at_once :
      (s : S) (hs : List I) (sh : Shape) (i : ℕ) (h : List ℕ) (b : ℕ) (p : List ℕ) → length h + suc (length p) ≤ record_length sh →
      call does (reading s hs sh i h) (b ∷ p) ≡ bytewise (reading s hs sh i h) (b ∷ p)
  unfolding bytewise
  at_once s hs sh i h b p l =
      rw (all_taken sh h (b ∷ p) l, all_taken sh h (b ∷ []) (omega arith)) (one_by_one s hs sh i p h b l)

  -- a turn takes as many bytes as are wanted, as if one by one
  turn_reading :
      (s : S) (hs : List I) (sh : Shape) (i : ℕ) (h : List ℕ) (b : ℕ) (p : List ℕ) (w : ℕ) → length h < record_length sh → record_length sh - length h ≡ w →
      call does (reading s hs sh i h) (b ∷ p) ≡ bytewise (reading s hs sh i h) (take w (b ∷ p))
  turn_reading s hs sh i h b p zero f e = absurd (omega arith)
  turn_reading s hs sh i h b p (suc w) f e =
      let l : length (take w p) ≤ w = simp length-take (omega arith) in
      let some : ℕ = record_length sh - length h in
      let c : Caller S I = reading s hs sh i h in
      let no_more : call does c (b ∷ p) ≡ call does c (take some (b ∷ p)) = rw (take-take some some (b ∷ p) (omega arith)) in
      no_more ∙ ap (λ (n : ℕ). call does c (take n (b ∷ p))) e ∙ at_once s hs sh i h b (take w p) (omega arith)

  fits_call : (s : S) (hs : List I) (r : Reader) (p : List ℕ) → Fits r → Fits (call_on does s hs r p).reader
  fits_call s hs (Ended e) p f = tt
  fits_call s hs (Reading sh i h) p f = by_outcome (outcome sh i (in_hand sh h p)) (fits_next (Reading sh i h) p f)
    where
      by_outcome : (o : Outcome) → Fits (after sh i (in_hand sh h p) o) → Fits (hears does s hs (after sh i (in_hand sh h p) o) o).reader
      by_outcome (Stopped e) g = g
      by_outcome More g = g
      by_outcome (Whole sh₁ g₁) g = g

  -- a piece handed over until all of it is taken: a turn, and then the rest
  more_turns :
      (n : ℕ) (s : S) (hs : List I) (r : Reader) (b : ℕ) (p : List ℕ) → Fits r → length p ≤ n →
      ((c : Caller S I) (q : List ℕ) → Fits c.reader → length q ≤ n → hand_turns wants (call does) n c q ≡ bytewise c q) →
      hand_turns wants (call does) n (call_on does s hs r (b ∷ p)) (drop (wanted r) (b ∷ p)) ≡ bytewise (record { state = s; reader = r; heard = hs }) (b ∷ p)
  more_turns n s hs (Ended e) b p f l on = ended_turns s hs e n (b ∷ p) ∙ sym (ended_bytes s hs e (b ∷ p))
  more_turns n s hs (Reading sh i h) b p f l on =
      let c : Caller S I = reading s hs sh i h in
      let w : ℕ = record_length sh - length h in
      on (call does c (b ∷ p)) (drop w (b ∷ p)) (fits_call s hs (Reading sh i h) (b ∷ p) f) (simp length-drop (omega arith)) ∙
      ap (λ (d : Caller S I). bytewise d (drop w (b ∷ p))) (turn_reading s hs sh i h b p w f refl) ∙
      sym (bytewise_append c (take w (b ∷ p)) (drop w (b ∷ p))) ∙
      ap (bytewise c) (take-append-drop w (b ∷ p))

  turns : (n : ℕ) (c : Caller S I) (p : List ℕ) → Fits c.reader → length p ≤ n → hand_turns wants (call does) n c p ≡ bytewise c p
  unfolding hand_turns
  turns zero c [] f l = bytewise_none c
  turns zero c (b ∷ p) f l = absurd (omega arith)
  turns (suc n) c [] f l = bytewise_none c
  turns (suc n) c (b ∷ p) f l = more_turns n c.state c.heard c.reader b p f (omega arith) (λ d q. turns n d q)

  fits_bytes_lem : (c : Caller S I) (p : List ℕ) → Fits c.reader → Fits (bytewise c p).reader
  unfolding bytewise
  fits_bytes_lem c [] f = f
  fits_bytes_lem c (b ∷ p) f = fits_bytes_lem (call does c (b ∷ [])) p (fits_call c.state c.heard c.reader (b ∷ []) f)

  -- however a file is cut, it is as if byte by byte
  pub pieces : (ps : List (List ℕ)) (c : Caller S I) → Fits c.reader → hand does c ps ≡ bytewise c (together ps)
  unfolding hand_all together
  pieces [] c f = bytewise_none c
  pieces (p ∷ ps) c f =
      ap (λ (d : Caller S I). hand does d ps) (turns (length p) c p f (omega arith)) ∙
      pieces ps (bytewise c p) (fits_bytes_lem c p f) ∙
      sym (bytewise_append c p (together ps))

pub cut_anywhere : CutAnywhere
cut_anywhere S I does c ps qs f e = pieces does ps c f ∙ ap (bytewise does c) e ∙ sym (pieces does qs c f)
