-- The bits of a number made of yes and no are these; so they tell the facts behind them. It is 0 exactly where none of these holds, and
-- has every bit set exactly where all do.
use Prim.Native.Nat.{ℕ, zero, suc, ◌+◌, ◌*◌, ◌/◌, ◌%◌, ◌≤◌}
use mathlib.Core.Path.{◌≡◌, refl, sym, ap, ◌∙◌}
use mathlib.Core.Logic.{inl, inr, ⊎_elim}
use mathlib.Core.List.{List, [], ◌∷◌}
use mathlib.Core.Bool.{Bool, true, false, not, cond, false≢true}
use native.Mathlib.Omega.{arith}
use borrow.Author.Tests.{eq-eqb, ne_eqb, eqb-true, leb-true, leb-false}
use lib.ListN.{get_or}
use lib.Dec.{eqb, leb}
use Rattle.whole.specs.Bits.{bits}
use Rattle.whole.specs.Exactly.{Exactly}
use Rattle.decision_claims.specs.Bits.{is_set, BitsTell, AnyOf, AllOf}

-- no bit of 0 is set
none_of_zero : (k : ℕ) → is_set k 0 ≡ false
none_of_zero zero = refl
none_of_zero (suc k) = none_of_zero k

first : (b : Bool) (n : ℕ) → eqb ((cond b 1 0 + 2 * n) % 2) 1 ≡ b
first true n = let e : (1 + 2 * n) % 2 ≡ 1 = omega arith in rw e
first false n = let e : (0 + 2 * n) % 2 ≡ 0 = omega arith in rw e

rest : (b : Bool) (n : ℕ) → (cond b 1 0 + 2 * n) / 2 ≡ n
rest true n = omega arith
rest false n = omega arith

pub bit_is : (bs : List Bool) (k : ℕ) → is_set k (bits bs) ≡ get_or bs k false
bit_is [] k = none_of_zero k
bit_is (b ∷ bs) zero = first b (bits bs)
bit_is (b ∷ bs) (suc k) = ap (is_set k) (rest b (bits bs)) ∙ bit_is bs k

-- each yes stands for its fact
abbrev pub Each : List Bool → List (Type 0) → Type 0
Each [] [] = Unit {0}
Each [] (A ∷ As) = ⊥
Each (b ∷ bs) [] = ⊥
Each (b ∷ bs) (A ∷ As) = Exactly (b ≡ true) A × Each bs As

-- bits that are these yes and no tell the facts
tell_from : (n k : ℕ) (bs : List Bool) (As : List (Type 0)) → ((i : ℕ) → is_set (k + i) n ≡ get_or bs i false) → Each bs As → BitsTell n k As
tell_from n k [] [] at es = tt
tell_from n k [] (A ∷ As) at es = absurd es
tell_from n k (b ∷ bs) [] at es = tt
tell_from n k (b ∷ bs) (A ∷ As) at es =
    let same : k + 0 ≡ k = omega arith in
    let here : is_set k n ≡ b = rw same at (at 0) in
    ((λ t. es.0.0 (sym here ∙ t), λ a. here ∙ es.0.1 a), tell_from n (suc k) bs As next es.1)
  where
    next : (i : ℕ) → is_set (suc k + i) n ≡ get_or bs i false
    next i = let e : suc k + i ≡ k + suc i = omega arith in ap (λ j. is_set j n) e ∙ at (suc i)

pub bits_tell : (bs : List Bool) (As : List (Type 0)) → Each bs As → BitsTell (bits bs) 0 As
bits_tell bs As es = tell_from (bits bs) 0 bs As (λ i. let e : 0 + i ≡ i = omega arith in rw e (bit_is bs i)) es

-- twice a number is 0 exactly where the number is
doubled : (n : ℕ) → eqb (0 + 2 * n) 0 ≡ eqb n 0
doubled zero = refl
doubled (suc n) = ne_eqb (0 + 2 * suc n) 0 (λ e. omega arith) ∙ sym (ne_eqb (suc n) 0 (λ e. omega arith))

-- and they are not 0 exactly where one of the facts holds
pub any_of : (bs : List Bool) (As : List (Type 0)) → Each bs As → Exactly (not (eqb (bits bs) 0) ≡ true) (AnyOf As)
any_of [] [] es = (λ t. absurd (false≢true t), λ a. absurd a)
any_of [] (A ∷ As) es = absurd es
any_of (b ∷ bs) [] es = absurd es
any_of (true ∷ bs) (A ∷ As) es =
    let set : eqb (1 + 2 * bits bs) 0 ≡ false = ne_eqb (1 + 2 * bits bs) 0 (λ e. omega arith) in
    (λ t. inl (es.0.0 refl), λ a. ap not set)
any_of (false ∷ bs) (A ∷ As) es =
    let more = any_of bs As es.1 in
    let same = ap not (doubled (bits bs)) in
    (λ t. inr (more.0 (sym same ∙ t)), ⊎_elim (λ a. absurd (false≢true (es.0.1 a))) (λ some. same ∙ more.1 some))

-- the number with as many bits, all set
abbrev pub full : List Bool → ℕ
full [] = 0
full (b ∷ bs) = 1 + 2 * full bs

pub bits_most : (bs : List Bool) → bits bs ≤ full bs
bits_most [] = omega arith
bits_most (true ∷ bs) = let h = bits_most bs in omega (arith, h)
bits_most (false ∷ bs) = let h = bits_most bs in omega (arith, h)

-- three bits more in front: the others are those of an eighth
pub behind_three : (a b c : Bool) (bs : List Bool) → bits (a ∷ b ∷ c ∷ bs) / 8 ≡ bits bs
behind_three a b c bs =
    let first = rest a (bits (b ∷ c ∷ bs)) in let second = rest b (bits (c ∷ bs)) in let third = rest c (bits bs) in
    omega (arith, first, second, third)

pub three_and_more : (a b c : Bool) (bs : List Bool) → bits (a ∷ b ∷ c ∷ []) + 8 * bits bs ≡ bits (a ∷ b ∷ c ∷ bs)
three_and_more a b c bs = omega arith

odd_alike : (n m : ℕ) → eqb (1 + 2 * n) (1 + 2 * m) ≡ eqb n m
odd_alike n m = by_test (eqb n m) refl
  where
    by_test : (b : Bool) → eqb n m ≡ b → eqb (1 + 2 * n) (1 + 2 * m) ≡ b
    by_test true t = let e = eqb-true n m t in eq-eqb (1 + 2 * n) (1 + 2 * m) (omega (arith, e))
    by_test false t = ne_eqb (1 + 2 * n) (1 + 2 * m) (λ e. false≢true (sym t ∙ eq-eqb n m (omega (arith, e))))

-- and they are all set exactly where all of the facts hold
pub all_of : (bs : List Bool) (As : List (Type 0)) → Each bs As → Exactly (eqb (bits bs) (full bs) ≡ true) (AllOf As)
all_of [] [] es = (λ t. tt, λ a. refl)
all_of [] (A ∷ As) es = absurd es
all_of (b ∷ bs) [] es = absurd es
all_of (true ∷ bs) (A ∷ As) es =
    let more = all_of bs As es.1 in
    let same = odd_alike (bits bs) (full bs) in
    (λ t. (es.0.0 refl, more.0 (sym same ∙ t)), λ all. same ∙ more.1 all.1)
all_of (false ∷ bs) (A ∷ As) es =
    let clear : eqb (0 + 2 * bits bs) (1 + 2 * full bs) ≡ false = ne_eqb (0 + 2 * bits bs) (1 + 2 * full bs) (λ e. omega arith) in
    (λ t. absurd (false≢true (sym clear ∙ t)), λ all. absurd (false≢true (es.0.1 all.0)))

-- no bit of 0 tells anything
pub none_told : (k : ℕ) (As : List (Type 0)) → BitsTell 0 k As → AnyOf As → ⊥
none_told k [] h a = a
none_told k (A ∷ As) h (inl a) = false≢true (sym (none_of_zero k) ∙ h.0.1 a)
none_told k (A ∷ As) h (inr more) = none_told (suc k) As h.1 more

-- a bit from the fourth on: the number is not small
pub from_bit_3 : (k n : ℕ) → is_set (suc (suc (suc k))) n ≡ true → 8 ≤ n
from_bit_3 k n t = by_test (leb 8 n) refl
  where
    by_test : (b : Bool) → leb 8 n ≡ b → 8 ≤ n
    by_test true e = leb-true 8 n e
    by_test false e =
        let less = leb-false 8 n e in
        let none : n / 2 / 2 / 2 ≡ 0 = omega (arith, less) in
        absurd (false≢true (sym (none_of_zero k) ∙ sym (ap (is_set k) none) ∙ t))

-- each yes of a list is one of another
abbrev pub Leads : List Bool → List Bool → Type 0
Leads [] cs = Unit {0}
Leads (b ∷ bs) [] = ⊥
Leads (b ∷ bs) (c ∷ cs) = (b ≡ true → c ≡ true) × Leads bs cs

led : (bs cs : List Bool) → Leads bs cs → (k : ℕ) → get_or bs k false ≡ true → get_or cs k false ≡ true
led [] cs h k t = absurd (false≢true t)
led (b ∷ bs) [] h k t = absurd h
led (b ∷ bs) (c ∷ cs) h zero t = h.0 t
led (b ∷ bs) (c ∷ cs) h (suc k) t = led bs cs h.1 k t

-- so a bit that is set in the one number is set in the other
pub bits_lead : (bs cs : List Bool) → Leads bs cs → (k : ℕ) → is_set k (bits bs) ≡ true → is_set k (bits cs) ≡ true
bits_lead bs cs h k t = bit_is cs k ∙ led bs cs h k (sym (bit_is bs k) ∙ t)
