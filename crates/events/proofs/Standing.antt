-- Whether a slice is a reading that has not ended, and what it is then and else.
use Prim.Native.Nat.{ℕ, ◌-◌, ◌<◌, ◌≤◌}
use mathlib.Core.Path.{◌≡◌, refl}
use mathlib.Core.List.{List, [], ◌∷◌}
use mathlib.Core.Bool.{Bool, true, false}
use native.Mathlib.Omega.{arith}
use Rattle.std.proofs.lemmas.Bool.Decides.{nat_tests}
use lib.ListN.{length, drop, length-drop}
use lib.Seq.{length-take-le}
use Rattle.records.specs.Record.{good_file, record_length}
use Rattle.files.specs.Reader.{wanted, end_next, InsideRecord, Ended, Reading, Fits}
use Rattle.events.specs.Slice.{reader_length, hand_at, ended_by, ends_in, status_in, ended_in, held_in, index_in, shape_in, hand_in, is_reading, reader_of}

-- ---- what a reading holds

pub record Held (s : List ℕ) : Type 0 where
  pub ended : ended_in s ≡ 0
  pub good : good_file (ends_in s) (status_in s) ≡ true
  pub most : ends_in s ≤ 6
  pub status : status_in s ≤ 96
  pub short : held_in s < record_length (shape_in s)
  pub small : record_length (shape_in s) ≤ 62

pub holds : (s : List ℕ) → is_reading s ≡ true → Held s
unfolding is_reading
holds s t = grind (arith, nat_tests)

pub held_is : (s : List ℕ) → is_reading s ≡ true → reader_of s ≡ Reading (shape_in s) (index_in s) (hand_in s)
unfolding reader_of
held_is s t = rw t

pub ended_is : (s : List ℕ) → is_reading s ≡ false → reader_of s ≡ Ended (ended_by (ended_in s) (index_in s))
unfolding reader_of
ended_is s t = rw t

pub hand_length : (s : List ℕ) → length s ≡ reader_length → is_reading s ≡ true → length (hand_in s) ≡ held_in s
hand_length s l y = let h = holds s y in length-take-le (held_in s) (drop hand_at s) (simp length-drop (omega (arith, h.short, h.small)))

-- any bytes are a defined reader, of which fewer are in hand than a record has
pub slice_fits : (s : List ℕ) → length s ≡ reader_length → Fits (reader_of s)
slice_fits s l = by_test (is_reading s) refl
  where
    by_test : (b : Bool) → is_reading s ≡ b → Fits (reader_of s)
    by_test true t = rw (held_is s t, hand_length s l t) (holds s t).short
    by_test false t = rw (ended_is s t) tt

-- ---- what a reading wants, and what the end of the file is to it

pub wanted_is : (s : List ℕ) → length s ≡ reader_length → is_reading s ≡ true → wanted (reader_of s) ≡ record_length (shape_in s) - held_in s
wanted_is s l y = rw (held_is s y, hand_length s l y)

pub none_wanted : (s : List ℕ) → is_reading s ≡ false → wanted (reader_of s) ≡ 0
none_wanted s n = rw (ended_is s n)

pub end_between : (s : List ℕ) → is_reading s ≡ true → held_in s ≡ 0 → end_next (reader_of s) ≡ Reading (shape_in s) (index_in s) []
end_between s y z = rw (held_is s y, z)

pub end_inside : (s : List ℕ) → length s ≡ reader_length → is_reading s ≡ true → 0 < held_in s → end_next (reader_of s) ≡ Ended (InsideRecord (index_in s))
end_inside s l y n = rw (held_is s y) (inside (hand_in s) (omega (arith, hand_length s l y)))
  where
    inside : (h : List ℕ) → 0 < length h → end_next (Reading (shape_in s) (index_in s) h) ≡ Ended (InsideRecord (index_in s))
    inside [] n = absurd (omega arith)
    inside (b ∷ h) n = refl
