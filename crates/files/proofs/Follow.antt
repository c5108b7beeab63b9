-- Two callers who want the same and whose calls go along hear the same of a file, however it is cut.
use Prim.Native.Nat.{ℕ, zero, suc}
use mathlib.Core.Path.{◌≡◌, refl, ap, ap₂, ◌∙◌}
use mathlib.Core.List.{List, [], ◌∷◌}
use lib.ListN.{length, drop}
use Rattle.files.specs.Caller.{hand_turns, hand_all}

module _ {C D : Type 0} (wc : C → ℕ) (cc : C → List ℕ → C) (wd : D → ℕ) (cd : D → List ℕ → D) (seen : C → D) (Ok : C → Type 0)
    (same : (c : C) → Ok c → wc c ≡ wd (seen c)) (step : (c : C) (p : List ℕ) → Ok c → seen (cc c p) ≡ cd (seen c) p) (keeps : (c : C) (p : List ℕ) → Ok c → Ok (cc c p)) where
  turns_ok : (n : ℕ) (c : C) (p : List ℕ) → Ok c → Ok (hand_turns wc cc n c p)
  unfolding hand_turns
  turns_ok zero c p k = k
  turns_ok (suc n) c [] k = k
  turns_ok (suc n) c (b ∷ p) k = turns_ok n (cc c (b ∷ p)) (drop (wc c) (b ∷ p)) (keeps c (b ∷ p) k)

  turns_follow : (n : ℕ) (c : C) (p : List ℕ) → Ok c → seen (hand_turns wc cc n c p) ≡ hand_turns wd cd n (seen c) p
  unfolding hand_turns
  turns_follow zero c p k = refl
  turns_follow (suc n) c [] k = refl
  turns_follow (suc n) c (b ∷ p) k =
      turns_follow n (cc c (b ∷ p)) (drop (wc c) (b ∷ p)) (keeps c (b ∷ p) k) ∙
      ap₂ (λ (d : D) (m : ℕ). hand_turns wd cd n d (drop m (b ∷ p))) (step c (b ∷ p) k) (same c k)

  pub follow : (ps : List (List ℕ)) (c : C) → Ok c → seen (hand_all wc cc c ps) ≡ hand_all wd cd (seen c) ps
  unfolding hand_all
  follow [] c k = refl
  follow (p ∷ ps) c k =
      follow ps (hand_turns wc cc (length p) c p) (turns_ok (length p) c p k) ∙ ap (λ (d : D). hand_all wd cd d ps) (turns_follow (length p) c p k)

  pub follow_ok : (ps : List (List ℕ)) (c : C) → Ok c → Ok (hand_all wc cc c ps)
  unfolding hand_all
  follow_ok [] c k = k
  follow_ok (p ∷ ps) c k = follow_ok ps (hand_turns wc cc (length p) c p) (turns_ok (length p) c p k)
