-- What a good record is: every rule of the table is kept, which is that every field lies in its range; and what the first fault of another is.
use Prim.Native.Nat.{ℕ}
use mathlib.Core.Path.{◌≡◌, refl}
use mathlib.Core.List.{List, [], ◌∷◌}
use mathlib.Core.Logic.{◌⊎◌}
use mathlib.Core.Bool.{true}
use native.Mathlib.Omega.{arith}
use borrow.Author.Rules.{rules}
use lib.IntN.{ℤ}
use Rattle.std.proofs.Common.{◌++◌, Ok, ap, ◌∙◌}
use Rattle.std.specs.Result.{result_and}
use Rattle.std.proofs.lemmas.Bool.Decides.{nat_tests}
use Rattle.std.proofs.lemmas.Int.{ints}
use Rattle.settings.specs.Record.{field_at}
use Rattle.settings.specs.Table.{Rule, Unsigned, Signed, Squares, Below, OffOrFrom, Byte, differential_rows, distance_rows, angle_rows, direction_rows, tail_rows, settings_table}
use Rattle.settings.specs.Check.{between, between_signed, off_or_between, holds, fault, checked_by, FirstFault, here, later, checked}
use Rattle.settings.specs.Fields.{From, FromSigned, Keeps, AllKept, Ranges}

-- ---- a test of a rule, and what it says of the numbers

from : (low high v : ℕ) → between low high v ≡ true → From low high v
from low high v t = grind (arith, nat_tests)

from_signed : (low high v : ℤ) → between_signed low high v ≡ true → FromSigned low high v
from_signed low high v t = grind (arith, ints)

off_or_from : (low high v : ℕ) → off_or_between low high v ≡ true → (v ≡ 0) ⊎ From low high v
off_or_from low high v t = grind (arith, nat_tests)

keeps : (s : List ℕ) (r : Rule) → holds s r ≡ true → Keeps s r
keeps s (Unsigned at low high) t = from low high _ t
keeps s (Signed at low high) t = from_signed low high _ t
keeps s (Squares x y low high) t = from low high _ t
keeps s (Below x y) t = grind (arith, ints)
keeps s (OffOrFrom x y high) t = off_or_from (field_at s x) high (field_at s y) t
keeps s (Byte at low high) t = from low high _ t

in_from : (low high v : ℕ) → From low high v → between low high v ≡ true
in_from low high v f = grind (arith, nat_tests)

in_from_signed : (low high v : ℤ) → FromSigned low high v → between_signed low high v ≡ true
in_from_signed low high v f = grind (arith, ints)

in_off_or_from : (low high v : ℕ) → (v ≡ 0) ⊎ From low high v → off_or_between low high v ≡ true
in_off_or_from low high v h = grind (arith, nat_tests)

kept : (s : List ℕ) (r : Rule) → Keeps s r → holds s r ≡ true
kept s (Unsigned at low high) k = in_from low high _ k
kept s (Signed at low high) k = in_from_signed low high _ k
kept s (Squares x y low high) k = in_from low high _ k
kept s (Below x y) k = grind (arith, ints)
kept s (OffOrFrom x y high) k = in_off_or_from (field_at s x) high (field_at s y) k
kept s (Byte at low high) k = in_from low high _ k

-- ---- a record is good by a table exactly where it keeps every rule

pub all_kept : (rs : List Rule) (s : List ℕ) → checked_by rs s ≡ Ok tt → AllKept rs s
unfolding checked_by
all_kept [] s g = tt
all_kept (r ∷ rs) s g = grind (arith, keeps s r, all_kept rs s)

pub good : (rs : List Rule) (s : List ℕ) → AllKept rs s → checked_by rs s ≡ Ok tt
unfolding checked_by
good [] s h = refl
good (r ∷ rs) s h = rw (kept s r h.0) (good rs s h.1)

-- The named ranges of every good record.
pub ranges : (s : List ℕ) → checked s ≡ Ok tt → Ranges s
unfolding settings_table
ranges s g = let a = all_kept settings_table s g in search rules

-- ---- and the other way: a record in these ranges is good

pub in_ranges_good : (s : List ℕ) → Ranges s → checked s ≡ Ok tt
unfolding settings_table
in_ranges_good s r = good settings_table s (search rules depth 40)

-- ---- the first fault

-- the check finds a fault at k exactly where a rule placed there is broken and every rule before it holds
pub fault_found : (rs : List Rule) (s : List ℕ) (k : ℕ) → checked_by rs s ≡ fault k → FirstFault rs s k
unfolding checked_by
fault_found [] s k g = absurd (grind arith)
fault_found (r ∷ rs) s k g = grind (arith, here, later, fault_found rs s k)

pub fault_is : (rs : List Rule) (s : List ℕ) (k : ℕ) → FirstFault rs s k → checked_by rs s ≡ fault k
unfolding checked_by
fault_is rs s k (here t) = rw t
fault_is rs s k (later t f) = rw t (fault_is _ s k f)

-- ---- a table in parts

-- a table in two parts: what the check finds in the first, and where that is nothing, what it finds in the second
pub in_two : (rs us : List Rule) (s : List ℕ) → checked_by (rs ++ us) s ≡ result_and (checked_by rs s) (checked_by us s)
unfolding checked_by
in_two [] us s = refl
in_two (r ∷ rs) us s = grind (arith, in_two rs us s)

-- the parts of the settings table, each where the earlier ones find nothing
pub in_parts : (s : List ℕ) → checked s ≡
    result_and (checked_by differential_rows s) (result_and (checked_by distance_rows s)
    (result_and (checked_by angle_rows s) (result_and (checked_by direction_rows s) (checked_by tail_rows s))))
unfolding settings_table
in_parts s =
    in_two differential_rows _ s ∙ ap (result_and _) (in_two distance_rows _ s ∙ ap (result_and _) (in_two angle_rows _ s
    ∙ ap (result_and _) (in_two direction_rows tail_rows s)))
