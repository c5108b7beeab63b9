-- The statements of specs/Laws.antt, proved; and that each rounding is document 01's.
use mathlib.Core.Path.{◌≡◌, refl}
use mathlib.Core.Bool.{Bool, true, false, cond}
use mathlib.Core.List.{List, [], ◌∷◌}
use Prim.Native.Nat.{ℕ}
use Rattle.std.proofs.Common.{arith}
use Rattle.std.proofs.lemmas.Int.{ints}
use lib.IntN.{ℤ, pos, ◌*ℤ◌}
use lib.Signed.{◌<ℤ◌, lt_z, le_z}
use Rattle.whole.specs.Exactly.{Exactly}
use Rattle.whole.specs.Round.{Rounded}
use Rattle.whole.proofs.Certificate.{quo, false!, g_lt, g_num, ◌⊞◌, ◌⊠◌}
use Rattle.whole.proofs.Machine.{lt_true, le_true, true_lt, false_lt, true_le}
use Rattle.settings.specs.Fields.{forward_limit, reverse_limit, negative_sequence_pickup}
use Rattle.plane.specs.declared.Phasor.{Phasor}
use Rattle.plane.specs.declared.Phases.{Phases}
use Rattle.plane.specs.Plane.{zero, plus, times, scaled, squared}
use Rattle.plane.proofs.Laws.{squared_nonneg, times_zero, rounded_zero, rounded_is}
use Rattle.direction.specs.declared.Direction.{Direction}
use Rattle.direction.specs.declared.Direction.TheVariants.{None, Forward, Reverse}
use Rattle.direction.specs.Sequence.{scale, sequence, turned}
use Rattle.direction.specs.Direction.{angle, reaches_pickup, torque, side_of, direction_of}
use Rattle.direction.specs.Laws.{PickupReached, BelowPickup, NoneBelowPickup, NeverBoth, ForwardRule, ReverseRule}

-- ---- direction

pub never_both : NeverBoth
never_both s v2 i2 h f g =
    let zf = forward_limit s in
    let zr = reverse_limit s in
    let t = torque (angle s) v2 i2 in
    let q = squared i2 in
    let q-least = squared_nonneg i2 in
    false! (zf ∷ zr ∷ t ∷ q ∷ []) (g_lt f ⊞ g_lt g ⊞ g_lt h ⊠ q-least ⊞ q-least ⊞ g_num 1) (search quo depth 40) tt

-- x <= y fails exactly where y < x
le_fails : (x y : ℤ) → Exactly (le_z x y ≡ false) (y <ℤ x)
le_fails x y = (λ e. omega (arith, ints), λ h. grind (arith, ints))

-- what the test of the pickup tells
pub pickup_reached : (s : List ℕ) (i2 : Phasor) → Exactly (reaches_pickup s i2 ≡ true) (PickupReached s i2)
unfolding reaches_pickup
pickup_reached s i2 = (le_true, true_le)

pub below_pickup : (s : List ℕ) (i2 : Phasor) → Exactly (reaches_pickup s i2 ≡ false) (BelowPickup s i2)
unfolding reaches_pickup
below_pickup s i2 = le_fails (pos (negative_sequence_pickup s) *ℤ pos (negative_sequence_pickup s)) (squared i2)

pub none_below_pickup : NoneBelowPickup
unfolding direction_of
none_below_pickup s v2 i2 below = rw ((below_pickup s i2).1 below)

-- the direction by its three tests
abbrev by_tests : Bool → Bool → Bool → Direction
by_tests reaches forward reverse = cond reaches (cond forward Forward (cond reverse Reverse None)) None

is_forward_lem : (b c d : Bool) → by_tests b c d ≡ Forward → (b ≡ true) × (c ≡ true)
is_forward_lem true true d e = (refl, refl)
is_forward_lem true false true e = cc
is_forward_lem true false false e = cc
is_forward_lem false c d e = cc

is_reverse : (b c d : Bool) → by_tests b c d ≡ Reverse → (b ≡ true) × (d ≡ true)
is_reverse true true d e = cc
is_reverse true false true e = (refl, refl)
is_reverse true false false e = cc
is_reverse false c d e = cc

-- the three tests
module _ (s : List ℕ) (v2 i2 : Phasor) where
  abbrev reaches : Bool
  reaches = reaches_pickup s i2

  abbrev forward : Bool
  forward = lt_z (torque (angle s) v2 i2) (forward_limit s *ℤ squared i2)

  abbrev reverse : Bool
  reverse = lt_z (reverse_limit s *ℤ squared i2) (torque (angle s) v2 i2)

pub forward_rule : ForwardRule
unfolding direction_of side_of reaches_pickup
forward_rule s v2 i2 = (
  λ e. (let h = is_forward_lem (reaches s v2 i2) (forward s v2 i2) (reverse s v2 i2) e in (le_true h.0, lt_true h.1)),
  λ h. rw (true_le h.0, true_lt h.1),
)

pub reverse_rule : ReverseRule
unfolding direction_of side_of reaches_pickup
reverse_rule s v2 i2 limits = (
  λ e. (let h = is_reverse (reaches s v2 i2) (forward s v2 i2) (reverse s v2 i2) e in (le_true h.0, lt_true h.1)),
  λ h. rw (true_le h.0, false_lt (λ f. never_both s v2 i2 limits f h.1), true_lt h.1),
)

-- ---- sequence quantities

-- aP and a²P of 0
pub turned_zero : (f : Phasor) → turned f zero ≡ zero
unfolding turned
turned_zero f = rw (times_zero f) (rounded_zero scale tt)

-- what is rounded is document 01's one whole number

pub sequence_is :
    (f g : Phasor) (x : Phases Phasor) → let sum = plus (plus (scaled (pos scale) x.a) (times f x.b)) (times g x.c) in
    Rounded scale sum.re (sequence f g x).re × Rounded scale sum.im (sequence f g x).im
unfolding sequence
sequence_is f g x = rounded_is scale tt refl _

pub turned_is : (f p : Phasor) → Rounded scale (times f p).re (turned f p).re × Rounded scale (times f p).im (turned f p).im
unfolding turned
turned_is f p = rounded_is scale tt refl _
