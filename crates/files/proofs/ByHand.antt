-- What is done with a file's records is what would be done with them by hand: one who does and one who notes go along byte by byte.
use Prim.Native.Nat.{ℕ, suc}
use mathlib.Core.Path.{◌≡◌, refl, sym, ap, ◌∙◌}
use mathlib.Core.List.{List, [], ◌∷◌, ◌++◌, append-nil}
use mathlib.Core.Bool.{Bool, true, false, cond}
use lib.Dec.{leb}
use lib.ListN.{length}
use Rattle.records.specs.Record.{Shape, record_length}
use Rattle.files.specs.Reader.{Reading, OtherNumber, Stopped, More, Whole, wrong_number, in_hand, after}
use Rattle.files.specs.Caller.{Hears, starts, hears, together, notes, by_hand, after_all}
use Rattle.files.specs.Cutting.{DoneByHand, AsByHand}
use Rattle.files.proofs.Cut.{some_length, bytewise, pieces, ended_bytes}
use native.Mathlib.Omega.{arith}

module _ {S I : Type 0} (does : Hears S I) (sh : Shape) where
  after_snoc : (s : S) (gs : List (List ℕ)) (g : List ℕ) → after_all does sh s (gs ++ g ∷ []) ≡ (does.whole (after_all does sh s gs) sh g).0
  unfolding after_all
  after_snoc s [] g = refl
  after_snoc s (x ∷ gs) g = after_snoc (does.whole s sh x).0 gs g

  by_hand_snoc : (s : S) (gs : List (List ℕ)) (g : List ℕ) → by_hand does sh s (gs ++ g ∷ []) ≡ by_hand does sh s gs ++ (does.whole (after_all does sh s gs) sh g).1 ∷ []
  unfolding by_hand after_all
  by_hand_snoc s [] g = refl
  by_hand_snoc s (x ∷ gs) g = ap (λ r. (does.whole s sh x).1 ∷ r) (by_hand_snoc (does.whole s sh x).0 gs g)

  module _ (s : S) where
    -- the two callers in a reading
    abbrev Along : ℕ → List ℕ → S → List I → List (List ℕ) → Type 0
    Along i h t hs gs =
        DoneByHand does sh s (record { state = t; reader = Reading sh i h; heard = hs }) (record { state = tt; reader = Reading sh i h; heard = gs })

    -- what the bytes bs come to from there on
    abbrev On : List ℕ → Type 0
    On bs =
        (i : ℕ) (h : List ℕ) (t : S) (hs : List I) (gs : List (List ℕ)) → Along i h t hs gs →
        DoneByHand does sh s (bytewise does (record { state = t; reader = Reading sh i h; heard = hs }) bs)
        (bytewise notes (record { state = tt; reader = Reading sh i h; heard = gs }) bs)

    step :
        (bs : List ℕ) → On bs → (i : ℕ) (g : List ℕ) (t : S) (hs : List I) (gs : List (List ℕ)) (a b : Bool) →
        t ≡ after_all does sh s gs → hs ≡ by_hand does sh s gs →
        let o = cond a (Stopped (OtherNumber i)) (cond b (Whole sh g) More) in
        DoneByHand does sh s (bytewise does (hears does t hs (after sh i g o) o) bs) (bytewise notes (hears notes tt gs (after sh i g o) o) bs)
    step bs on i g t hs gs true b x y =
        rw (ended_bytes does t (hs ++ does.stopped t (OtherNumber i)) (OtherNumber i) bs, ended_bytes notes tt (gs ++ []) (OtherNumber i) bs, append-nil gs)
        (record { reader = refl; state = x; heard = ap (λ (l : List I). l ++ does.stopped t (OtherNumber i)) y })
    step bs on i g t hs gs false true x y =
        on (suc i) [] (does.whole t sh g).0 (hs ++ (does.whole t sh g).1 ∷ []) (gs ++ g ∷ [])
        (record {
          reader = refl;
          state = rw (after_snoc s gs g, x);
          heard = rw (by_hand_snoc s gs g, ← x, y) (sym (append-nil _));
        })
    step bs on i g t hs gs false false x y = on i g t hs gs (record { reader = refl; state = x; heard = y ∙ sym (append-nil (by_hand does sh s gs)) })

    along : (bs : List ℕ) → On bs
    unfolding bytewise
    along [] i h t hs gs k = k
    along (b ∷ bs) i h t hs gs k =
        let g : List ℕ = in_hand sh h (b ∷ []) in
        step bs (along bs) i g t hs gs (wrong_number i g) (leb (record_length sh) (length g)) k.state (k.heard ∙ append-nil (by_hand does sh s gs))

pub as_by_hand : AsByHand
unfolding by_hand after_all
as_by_hand S I does s sh ps =
    let f = some_length sh in
    rw (pieces does ps (starts s (Reading sh 0 [])) (omega (arith, f)), pieces notes ps (starts tt (Reading sh 0 [])) (omega (arith, f)))
    (along does sh s (together ps) 0 [] s [] [] (record { reader = refl; state = refl; heard = refl }))
