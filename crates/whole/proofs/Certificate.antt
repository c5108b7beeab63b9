-- Identities and orders over ℤ, of any degree: `search quo depth 40` finds the expression that a term is, and `tt` checks by computation.
-- A certificate is a proof that some term is not negative, put together from facts, squares and numerals by `⊞` and `⊠`;
-- `le!` proves a ≤ b by a certificate of b - a. To find what one lacks put `?` for `tt`: the goal shows the monomials that are left.
-- A certificate of some fifty parts wants `search quo depth 40 fits 2000`.
use mathlib.Core.Path.{◌≡◌, refl, sym, ap₂, ◌∙◌}
use mathlib.Core.List.{List, ◌∷◌}
use Prim.Native.Nat.{ℕ, suc, ◌+◌, ◌*◌}
use native.Mathlib.Omega.{arith}
use lib.Dec.{T, leb}
use lib.IntN.{ℤ, pos, negsuc, neg_ℤ, ◌+ℤ◌, ◌-ℤ◌, ◌*ℤ◌, +ℤ_idr, *ℤ-zero}
use lib.ListN.{get_or}
use lib.Signed.{◌≤ℤ◌, ◌<ℤ◌}
use Rattle.whole.proofs.Difference.{diff, d_atom, d_le, d_lt, d_eq, of_le, of_lt, of_eq}
use Rattle.whole.proofs.Polynomial.{Poly, con, more, plus, times, Nothing, total, alone, minus_one, plus_total, times_total, nothing_total}

-- ---- quoting: the polynomial in the unknowns ρ that a term is

abbrev nth : List ℤ → ℕ → ℤ
nth ρ i = get_or ρ i (pos 0)

pub record Quo (ρ : List ℤ) (t : ℤ) : Type 0 where
  pub poly : Poly
  pub is : total (nth ρ) poly ≡ t

-- an unknown: one of the first four of ρ, or one after them
pub record Place (ρ : List ℤ) (t : ℤ) : Type 0 where
  pub quo : Quo ρ t

abbrev next : {x t : ℤ} {ρ : List ℤ} → Place ρ t → Place (x ∷ ρ) t
next p = record { quo = record { poly = more p.quo.poly (con (pos 0)); is = rw (*ℤ-zero, +ℤ_idr) p.quo.is } }

abbrev pub p0 : {t : ℤ} {ρ : List ℤ} → Place (t ∷ ρ) t
p0 {t} = record { quo = record { poly = more (con (pos 0)) (con (pos 1)); is = alone t } }

abbrev pub p1 : {x0 t : ℤ} {ρ : List ℤ} → Place (x0 ∷ t ∷ ρ) t
p1 = next p0

abbrev pub p2 : {x0 x1 t : ℤ} {ρ : List ℤ} → Place (x0 ∷ x1 ∷ t ∷ ρ) t
p2 = next p1

abbrev pub p3 : {x0 x1 x2 t : ℤ} {ρ : List ℤ} → Place (x0 ∷ x1 ∷ x2 ∷ t ∷ ρ) t
p3 = next p2

abbrev pub p_after : {x0 x1 x2 x3 t : ℤ} {ρ : List ℤ} → Place ρ t → Place (x0 ∷ x1 ∷ x2 ∷ x3 ∷ ρ) t
p_after p = next (next (next (next p)))

abbrev pub q_var : {ρ : List ℤ} {t : ℤ} → Place ρ t → Quo ρ t
q_var p = p.quo

abbrev pub q_add : {ρ : List ℤ} {a b : ℤ} → Quo ρ a → Quo ρ b → Quo ρ (a +ℤ b)
q_add {ρ} x y =
    record { poly = plus x.poly y.poly; is = plus_total (nth ρ) x.poly y.poly ∙ ap₂ ◌+ℤ◌ x.is y.is }

abbrev pub q_mul : {ρ : List ℤ} {a b : ℤ} → Quo ρ a → Quo ρ b → Quo ρ (a *ℤ b)
q_mul {ρ} x y =
    record { poly = times x.poly y.poly; is = times_total (nth ρ) x.poly y.poly ∙ ap₂ ◌*ℤ◌ x.is y.is }

abbrev pub q_neg : {ρ : List ℤ} {a : ℤ} → Quo ρ a → Quo ρ (neg_ℤ a)
q_neg {ρ} {a} x =
    record { poly = times (con (negsuc 0)) x.poly; is = times_total (nth ρ) (con (negsuc 0)) x.poly ∙ rw x.is (minus_one a) }

-- a numeral, at which alone the test computes, so that `q_yes` proves it
abbrev pub q_num : {ρ : List ℤ} (n : ℕ) → T (leb 0 n) → Quo ρ (pos n)
q_num n t = record { poly = con (pos n); is = refl }

abbrev pub q_below : {ρ : List ℤ} (n : ℕ) → T (leb 0 n) → Quo ρ (negsuc n)
q_below n t = record { poly = con (negsuc n); is = refl }

abbrev pub q_yes : Unit {0}
q_yes = tt

-- sums and products of natural numbers
abbrev pub q_add_ℕ : {ρ : List ℤ} {m n : ℕ} → Quo ρ (pos m) → Quo ρ (pos n) → Quo ρ (pos (m + n))
q_add_ℕ x y = q_add x y

abbrev pub q_mul_ℕ : {ρ : List ℤ} {m n : ℕ} → Quo ρ (pos m) → Quo ρ (pos n) → Quo ρ (pos (m * n))
q_mul_ℕ x y = q_mul x y

pub ruleset quo = (q_var, p0, p1, p2, p3, p_after, q_add, q_mul, q_neg, q_num, q_below, q_yes, q_add_ℕ, q_mul_ℕ)

-- an identity: nothing is left of the difference
pub ring! : (ρ : List ℤ) {a b : ℤ} (k : Quo ρ (a -ℤ b)) → Nothing k.poly → a ≡ b
ring! ρ {a} {b} k n =
    let none : a -ℤ b ≡ pos 0 = sym k.is ∙ nothing_total (nth ρ) k.poly n in
    let da = d_atom a in let db = d_atom b in d_eq (search diff) (omega (arith, of_eq none (search diff)))

-- ---- certificates: what is not negative (a fact 0 ≤ a is one as it stands)

-- from a ≤ b: b - a
pub g_le : {a b : ℤ} → a ≤ℤ b → pos 0 ≤ℤ (b -ℤ a)
g_le {a} {b} h = let da = d_atom a in let db = d_atom b in d_le (search diff) (omega (arith, of_le h (search diff)))

-- from a < b: b - a - 1
pub g_lt : {a b : ℤ} → a <ℤ b → pos 0 ≤ℤ (b -ℤ a -ℤ pos 1)
g_lt {a} {b} h = let da = d_atom a in let db = d_atom b in d_le (search diff) (omega (arith, of_lt h (search diff)))

-- from a ≡ b: b - a times anything
pub g_eq : {a b : ℤ} → a ≡ b → (c : ℤ) → pos 0 ≤ℤ ((b -ℤ a) *ℤ c)
g_eq {a} {b} e c = rw e (let db = d_atom b in let dc = d_atom c in d_le (search diff) (omega arith))

-- a natural number, a square, a sum and a product of two
pub g_num : (n : ℕ) → pos 0 ≤ℤ pos n
g_num n = d_le (search diff) (omega arith)

pub g_sq : (a : ℤ) → pos 0 ≤ℤ (a *ℤ a)
g_sq (pos n) = g_num (n * n)
g_sq (negsuc n) = g_num (suc n * suc n)

infixl 6 ◌⊞◌
infixl 7 ◌⊠◌
pub ◌⊞◌ : {a b : ℤ} → pos 0 ≤ℤ a → pos 0 ≤ℤ b → pos 0 ≤ℤ (a +ℤ b)
◌⊞◌ {a} {b} h k =
    let da = d_atom a in let db = d_atom b in d_le (search diff) (omega (arith, of_le h (search diff), of_le k (search diff)))

pub ◌⊠◌ : {a b : ℤ} → pos 0 ≤ℤ a → pos 0 ≤ℤ b → pos 0 ≤ℤ (a *ℤ b)
◌⊠◌ {a = pos m} {b = pos n} h k = g_num (m * n)
◌⊠◌ {a = pos m} {b = negsuc n} h k = absurd k.le
◌⊠◌ {a = negsuc m} h k = absurd h.le

-- ---- goals

-- from a certificate of b - a
pub le! : (ρ : List ℤ) {a b t : ℤ} → pos 0 ≤ℤ t → (k : Quo ρ (b -ℤ a -ℤ t)) → Nothing k.poly → a ≤ℤ b
le! ρ {a} {b} {t} c k n =
    let da = d_atom a in let db = d_atom b in let dt = d_atom t in
    d_le (search diff) (omega (arith, of_le c (search diff), of_eq (ring! ρ {a = b -ℤ a} {b = t} k n) (search diff)))

-- of b - a - 1
pub lt! : (ρ : List ℤ) {a b t : ℤ} → pos 0 ≤ℤ t → (k : Quo ρ (b -ℤ a -ℤ pos 1 -ℤ t)) → Nothing k.poly → a <ℤ b
lt! ρ {a} {b} {t} c k n =
    let da = d_atom a in let db = d_atom b in
    d_lt (search diff) (omega (arith, of_le (le! ρ {a = pos 1} {b = b -ℤ a} c k n) (search diff)))

-- of -1: a contradiction
pub false! : (ρ : List ℤ) {t : ℤ} → pos 0 ≤ℤ t → (k : Quo ρ (negsuc 0 -ℤ t)) → Nothing k.poly → ⊥
false! ρ c k n = (le! ρ {a = pos 0} {b = negsuc 0} c k n).le
