-- Polynomials over whole numbers, in a form that computes: sums, products, and the monomials that are left of one.
-- `nothing_total`: a polynomial of which nothing is left comes to 0, whatever the unknowns are.
use mathlib.Core.Path.{◌≡◌, refl, ◌∙◌}
use mathlib.Core.List.{List, [], ◌∷◌}
use Prim.Native.Nat.{ℕ, zero, suc}
use native.Mathlib.Omega.{arith}
use lib.IntN.{ℤ, pos, negsuc, neg_ℤ, ◌+ℤ◌, ◌*ℤ◌, +ℤ_assoc, +ℤ_comm, +ℤ_idr, *ℤ-zero}
use Rattle.whole.proofs.Difference.{diff, d_atom, d_eq}

-- ---- polynomials

-- a number; or b + x a with x the first unknown: a is again in all of the unknowns, b in those after the first
pub data Poly : Type 0 where
  con : ℤ → Poly
  more : Poly → Poly → Poly

abbrev pub plus : Poly → Poly → Poly
plus (con c) (con d) = con (c +ℤ d)
plus (con c) (more b a) = more (plus (con c) b) a
plus (more b a) (con d) = more (plus b (con d)) a
plus (more b a) (more d c) = more (plus b d) (plus a c)

-- a polynomial times one without the first unknown, given how others without it are multiplied by that one
abbrev each : (Poly → Poly) → Poly → Poly
each f (con d) = more (f (con d)) (con (pos 0))
each f (more b a) = more (f b) (each f a)

abbrev pub times : Poly → Poly → Poly
times (con c) (con d) = con (c *ℤ d)
times (con c) (more b a) = more (times (con c) b) (times (con c) a)
times (more b a) q = plus (each (times b) q) (more (con (pos 0)) (times a q))

-- ---- what is left: monomials, each a coefficient that is not 0 and the places of the factors

-- those of a polynomial in the unknowns from place i on, times m, and then others
abbrev monomials : ℕ → List ℕ → Poly → List (ℤ × List ℕ) → List (ℤ × List ℕ)
monomials i m (con (pos zero)) others = others
monomials i m (con (pos (suc n))) others = (pos (suc n), m) ∷ others
monomials i m (con (negsuc n)) others = (negsuc n, m) ∷ others
monomials i m (more b a) others = monomials (suc i) m b (monomials i (i ∷ m) a others)

-- nothing proves `Left`: a refusal prints what is left
pub data Left (ms : List (ℤ × List ℕ)) : Type 0 where

abbrev pub None : List (ℤ × List ℕ) → Type 0
None [] = Unit {0}
None (m ∷ ms) = Left (m ∷ ms)

-- nothing is left of p: `tt` proves it, by computation
abbrev pub Nothing : Poly → Type 0
Nothing p = None (monomials 0 [] p [])

-- ---- the identities of ℤ that the steps above rest on

termwise : (b d x a c : ℤ) → (b +ℤ d) +ℤ x *ℤ (a +ℤ c) ≡ (b +ℤ x *ℤ a) +ℤ (d +ℤ x *ℤ c)
termwise b d x a c =
    let db = d_atom b in let dd = d_atom d in let dx = d_atom x in let da = d_atom a in let dc = d_atom c in d_eq (search diff) (omega arith)

scaled : (c b x a : ℤ) → c *ℤ b +ℤ x *ℤ (c *ℤ a) ≡ c *ℤ (b +ℤ x *ℤ a)
scaled c b x a = let dc = d_atom c in let db = d_atom b in let dx = d_atom x in let da = d_atom a in d_eq (search diff) (omega arith)

split : (b x a q : ℤ) → b *ℤ q +ℤ (pos 0 +ℤ x *ℤ (a *ℤ q)) ≡ (b +ℤ x *ℤ a) *ℤ q
split b x a q = let db = d_atom b in let dx = d_atom x in let da = d_atom a in let dq = d_atom q in d_eq (search diff) (omega arith)

pub alone : (x : ℤ) → pos 0 +ℤ x *ℤ pos 1 ≡ x
alone x = let dx = d_atom x in d_eq (search diff) (omega arith)

pub minus_one : (x : ℤ) → negsuc 0 *ℤ x ≡ neg_ℤ x
minus_one x = let dx = d_atom x in d_eq (search diff) (omega arith)

-- ---- what a polynomial comes to where the unknowns are v 0, v 1, ..; each step keeps it

abbrev after : (ℕ → ℤ) → ℕ → ℤ
after v i = v (suc i)

abbrev pub total : (ℕ → ℤ) → Poly → ℤ
total v (con c) = c
total v (more b a) = total (after v) b +ℤ v 0 *ℤ total v a

pub plus_total : (v : ℕ → ℤ) (p q : Poly) → total v (plus p q) ≡ total v p +ℤ total v q
plus_total v (con c) (con d) = refl
plus_total v (con c) (more b a) = rw (plus_total (after v) (con c) b, +ℤ_assoc)
plus_total v (more b a) (con d) = rw (plus_total (after v) b (con d), +ℤ_assoc (total (after v) b) d, +ℤ_comm d, ← +ℤ_assoc)
plus_total v (more b a) (more d c) = rw (plus_total (after v) b d, plus_total v a c, termwise)

each_total :
    (v : ℕ → ℤ) (f : Poly → Poly) (c : ℤ) → ((q : Poly) → total (after v) (f q) ≡ c *ℤ total (after v) q) →
    (q : Poly) → total v (each f q) ≡ c *ℤ total v q
each_total v f c h (con d) = rw (h (con d), *ℤ-zero, +ℤ_idr)
each_total v f c h (more b a) = rw (h b, each_total v f c h a, scaled)

pub times_total : (v : ℕ → ℤ) (p q : Poly) → total v (times p q) ≡ total v p *ℤ total v q
times_total v (con c) (con d) = refl
times_total v (con c) (more b a) = rw (times_total (after v) (con c) b, times_total v (con c) a, scaled)
times_total v (more b a) q =
    plus_total v (each (times b) q) (more (con (pos 0)) (times a q))
    ∙ rw (each_total v (times b) (total (after v) b) (times_total (after v) b) q, times_total v a q, split)

pub nothing_total : (v : ℕ → ℤ) (p : Poly) → Nothing p → total v p ≡ pos 0
nothing_total v p s = (from v 0 [] p [] s).0
  where
    from :
        (v : ℕ → ℤ) (i : ℕ) (m : List ℕ) (p : Poly) (others : List (ℤ × List ℕ)) → None (monomials i m p others) →
        (total v p ≡ pos 0) × None others
    from v i m (con (pos zero)) others s = (refl, s)
    from v i m (con (pos (suc n))) others s = elim s [ ]
    from v i m (con (negsuc n)) others s = elim s [ ]
    from v i m (more b a) others s =
        let h = from (after v) (suc i) m b (monomials i (i ∷ m) a others) s in
        let k = from v i (i ∷ m) a others h.1 in
        (rw (h.0, k.0, *ℤ-zero), k.1)
