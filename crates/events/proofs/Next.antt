-- What the calls do to the bytes is what the definitions say of the reader; and a whole record is what the slice shows.
use Prim.Native.Nat.{ℕ, suc, ◌+◌, ◌*◌, ◌<◌, ◌≤◌}
use mathlib.Core.Path.{◌≡◌, refl, sym, ap, ap₂, ◌∙◌}
use mathlib.Core.List.{List, [], ◌++◌}
use mathlib.Core.Bool.{Bool, true, false, cond}
use native.Mathlib.Omega.{arith}
use borrow.Author.Tests.{ne_eqb, le-leb, lt-ltb, leb-true, leb-false, eqb-true, eqb-false}
use lib.Dec.{eqb, leb}
use lib.ListN.{length, take, drop, set, get_or, length-set, length-take, length-drop}
use lib.Seq.{get_or-set_same, get_or-set_other, drop-set-lt, length-take-le}
use Rattle.lent.specs.Lent.{over}
use Rattle.lent.proofs.Over.{over_length, over_read, byte_before, byte_in}
use Rattle.samples.specs.Window.{channels}
use Rattle.records.specs.Record.{Shape, word_at, good_file, narrow, record_length, number_in, time_in, frame_in}
use Rattle.records.proofs.Swapped.{swapped_length}
use Rattle.files.specs.Reader.{OtherNumber, Ended, Reading, opened, wanted, Stopped, More, Whole, wrong_number, after, read_outcome, read_next, end_next}
use Rattle.files.proofs.Cut.{some_length, right_number}
use Rattle.events.specs.Slice.{reader_length, hand_at, ends_in, status_in, ended_in, held_in, index_in, shape_in, hand_in, ended_by, is_reading, reader_of, opened_bytes, end_left, front_of, finished, left_by, taken_outcome, taken_left, read_left, time_shown, frame_end}
use Rattle.events.proofs.Standing.{holds, held_is, ended_is, wanted_is, end_between, end_inside}
use Rattle.events.proofs.TakeIn.{take_fits, t_length, g_length, in_hand_lem}

-- ---- what bytes are which reader

reads : (s : List ℕ) (ends status held i : ℕ) → ends_in s ≡ ends → status_in s ≡ status → ended_in s ≡ 0 → held_in s ≡ held → index_in s ≡ i →
    good_file ends status ≡ true → held < record_length (narrow ends status) → reader_of s ≡ Reading (narrow ends status) i (take held (drop hand_at s))
unfolding is_reading reader_of
reads s ends status held i a b c d e good few = rw (a, b, c, d, e, good, lt-ltb held (record_length (narrow ends status)) few)

ended : (s : List ℕ) (v i : ℕ) → ended_in s ≡ v → (v ≡ 0 → ⊥) → index_in s ≡ i → reader_of s ≡ Ended (ended_by v i)
unfolding is_reading reader_of
ended s v i e n d = rw (e, ne_eqb v 0 n, d)

index_same : (s t : List ℕ) → ((k : ℕ) → 4 ≤ k → k < 8 → get_or t k 0 ≡ get_or s k 0) → index_in t ≡ index_in s
unfolding word_at
index_same s t byte = rw (byte 4 (omega arith) (omega arith), byte 5 (omega arith) (omega arith), byte 6 (omega arith) (omega arith), byte 7 (omega arith) (omega arith))

-- one byte written
now_ended : (s : List ℕ) (v : ℕ) → length s ≡ reader_length → (v ≡ 0 → ⊥) → reader_of (set s 2 v) ≡ Ended (ended_by v (index_in s))
now_ended s v l n =
    ended (set s 2 v) v (index_in s) (get_or-set_same s 2 v 0 (omega arith)) n (index_same s (set s 2 v) (λ k a b. get_or-set_other s 2 k v 0 (λ e. omega arith)))

-- ---- open

pub opened_reads : (ends status : ℕ) → reader_of (opened_bytes ends status) ≡ opened (narrow ends status)
unfolding is_reading reader_of word_at
opened_reads ends status = by_test (good_file ends status) refl
  where
    by_test : (b : Bool) → good_file ends status ≡ b → reader_of (opened_bytes ends status) ≡ opened (narrow ends status)
    by_test true t = rw (t, t, lt-ltb 0 (record_length (narrow ends status)) (omega (arith, some_length (narrow ends status))))
    by_test false t = rw t

-- ---- end

pub end_reads : (s : List ℕ) → length s ≡ reader_length → reader_of (end_left s) ≡ end_next (reader_of s)
end_reads s l = by_test (is_reading s) refl (eqb (held_in s) 0) refl
  where
    by_test : (b : Bool) → is_reading s ≡ b → (c : Bool) → eqb (held_in s) 0 ≡ c → reader_of (end_left s) ≡ end_next (reader_of s)
    by_test true t true u =
        let z = eqb-true (held_in s) 0 u in
        rw (t, u, end_between s t z) (held_is s t ∙ ap (λ (n : ℕ). Reading (shape_in s) (index_in s) (take n (drop hand_at s))) z)
    by_test true t false u =
        let some : 0 < held_in s = omega (arith, eqb-false (held_in s) 0 u) in
        rw (t, u, end_inside s l t some) (now_ended s 11 l (λ e. omega arith))
    by_test false t c u = rw (t, ended_is s t)

-- ---- read

-- the fields before the bytes in hand, with a piece behind these
module _ (s piece : List ℕ) (l : length s ≡ reader_length) (y : is_reading s ≡ true) (room : held_in s + length piece ≤ record_length (shape_in s)) where
  abbrev t : List ℕ
  t = over s (56 + held_in s) piece

  abbrev g : List ℕ
  g = hand_in s ++ piece

  long : length t ≡ reader_length
  long = t_length s piece l y room

  t_byte : (k : ℕ) → k < 56 → get_or t k 0 ≡ get_or s k 0
  t_byte k h = byte_before s (56 + held_in s) piece (omega (arith, take_fits s piece l y room)) k (omega arith)

  t_index : index_in t ≡ index_in s
  t_index = index_same s t (λ k a b. t_byte k (omega arith))

  more_reads : length g < record_length (shape_in s) → reader_of (set t 3 (held_in s + length piece)) ≡ Reading (shape_in s) (index_in s) g
  more_reads few =
      let h = holds s y in
      let n : ℕ = held_in s + length piece in
      let u : List ℕ = set t 3 n in
      let byte : (k : ℕ) → k < 56 → (k ≡ 3 → ⊥) → get_or u k 0 ≡ get_or s k 0 = λ k a b. get_or-set_other t 3 k n 0 b ∙ t_byte k a in
      reads u (ends_in s) (status_in s) n (index_in s) (byte 0 (omega arith) (λ e. omega arith)) (byte 1 (omega arith) (λ e. omega arith))
      (byte 2 (omega arith) (λ e. omega arith) ∙ h.ended) (get_or-set_same t 3 n 0 (omega (arith, long)))
      (index_same s u (λ k a b. byte k (omega arith) (λ e. omega arith))) h.good (omega (arith, g_length s piece l y room)) ∙
      ap (Reading (shape_in s) (index_in s)) (ap (take n) (drop-set-lt 56 t 3 n (omega arith)) ∙ in_hand_lem s piece l y room)

  -- a record finished: the fields, one by one
  abbrev f : List ℕ
  f = finished (ends_in s) g t

  abbrev one : List ℕ
  one = over t 3 (front_of g)

  one_length : length one ≡ reader_length
  one_length = over_length t 3 (front_of g) (omega (arith, long)) ∙ long

  f_before : (k : ℕ) → k < 3 → get_or f k 0 ≡ get_or s k 0
  f_before k h =
      byte_before one 12 (frame_in (ends_in s) g) (omega (arith, one_length)) k (omega arith) ∙
      byte_before t 3 (front_of g) (omega (arith, long)) k h ∙ t_byte k (omega arith)

  f_front : (k : ℕ) → k < 9 → get_or f (3 + k) 0 ≡ get_or (front_of g) k 0
  f_front k h = byte_before one 12 (frame_in (ends_in s) g) (omega (arith, one_length)) (3 + k) (omega arith) ∙ byte_in t 3 (front_of g) (omega (arith, long)) k h

  f_index : index_in f ≡ number_in g
  unfolding word_at
  f_index = rw (f_front 1 (omega arith), f_front 2 (omega arith), f_front 3 (omega arith), f_front 4 (omega arith))

  pub f_time : time_shown f ≡ time_in g
  unfolding word_at
  f_time = rw (f_front 5 (omega arith), f_front 6 (omega arith), f_front 7 (omega arith), f_front 8 (omega arith))

  module _ (whole : record_length (shape_in s) ≤ length g) where
    frame_long : length (frame_in (ends_in s) g) ≡ 2 * channels (ends_in s)
    frame_long =
        swapped_length (channels (ends_in s)) (take (2 * channels (ends_in s)) (drop 8 g))
        (length-take-le (2 * channels (ends_in s)) (drop 8 g) (simp length-drop (omega (arith, whole))))

    pub f_frame : take (2 * channels (ends_in s)) (drop 12 f) ≡ frame_in (ends_in s) g
    f_frame =
        ap (λ (n : ℕ). take n (drop 12 f)) (sym frame_long) ∙
        over_read one 12 (frame_in (ends_in s) g) (omega (arith, one_length))

    pub f_end : frame_end f ≡ 12 + 2 * channels (ends_in s)
    f_end = rw (f_before 0 (omega arith), le-leb (ends_in s) 6 (holds s y).most)

    pub f_length : length f ≡ reader_length
    f_length = over_length one 12 (frame_in (ends_in s) g) (omega (arith, one_length, frame_long, (holds s y).most)) ∙ one_length

  whole_reads : number_in g ≡ suc (index_in s) → reader_of f ≡ Reading (shape_in s) (suc (index_in s)) []
  whole_reads n =
      let h = holds s y in
      reads f (ends_in s) (status_in s) 0 (suc (index_in s)) (f_before 0 (omega arith)) (f_before 1 (omega arith)) (f_before 2 (omega arith) ∙ h.ended)
      (f_front 0 (omega arith)) (f_index ∙ n) h.good (omega (arith, some_length (shape_in s)))

  pub taken_reads : (reader_of (taken_left s piece) ≡ after (shape_in s) (index_in s) g (taken_outcome s piece)) × (length (taken_left s piece) ≡ reader_length)
  taken_reads = by_test (wrong_number (index_in s) g) (leb (record_length (shape_in s)) (length g)) refl refl
    where
      by_test :
          (a b : Bool) → wrong_number (index_in s) g ≡ a → leb (record_length (shape_in s)) (length g) ≡ b →
          let o = cond a (Stopped (OtherNumber (index_in s))) (cond b (Whole (shape_in s) g) More) in
          let left = left_by o (held_in s + length piece) t in (reader_of left ≡ after (shape_in s) (index_in s) g o) × (length left ≡ reader_length)
      by_test true b u v = (now_ended t 12 long (λ e. omega arith) ∙ ap (λ (n : ℕ). Ended (OtherNumber n)) t_index, length-set t 2 12 ∙ long)
      by_test false true u v =
          let full = leb-true (record_length (shape_in s)) (length g) v in
          (whole_reads (right_number (index_in s) g (omega (arith, full, some_length (shape_in s))) u), f_length full)
      by_test false false u v = (more_reads (leb-false (record_length (shape_in s)) (length g) v), length-set t 3 (held_in s + length piece) ∙ long)

-- a call takes as many bytes as are wanted
module _ (s piece : List ℕ) (l : length s ≡ reader_length) (y : is_reading s ≡ true) where
  pub taken_room : held_in s + length (take (wanted (reader_of s)) piece) ≤ record_length (shape_in s)
  taken_room = let k = (holds s y).short in simp length-take (omega (arith, wanted_is s l y, k))

  pub outcome_is : read_outcome (reader_of s) piece ≡ taken_outcome s (take (wanted (reader_of s)) piece)
  outcome_is = rw (held_is s y)

  next_is : read_next (reader_of s) piece ≡ after (shape_in s) (index_in s) (hand_in s ++ take (wanted (reader_of s)) piece) (taken_outcome s (take (wanted (reader_of s)) piece))
  next_is = rw (held_is s y)

pub read_left_lem : (s piece : List ℕ) → length s ≡ reader_length → (reader_of (read_left s piece) ≡ read_next (reader_of s) piece) × (length (read_left s piece) ≡ reader_length)
read_left_lem s piece l = by_test (is_reading s) refl
  where
    by_test : (b : Bool) → is_reading s ≡ b → (reader_of (read_left s piece) ≡ read_next (reader_of s) piece) × (length (read_left s piece) ≡ reader_length)
    by_test true y =
        let p : List ℕ = take (wanted (reader_of s)) piece in
        let k = taken_reads s p l y (taken_room s piece l y) in
        let left : read_left s piece ≡ taken_left s p = rw y in
        (ap reader_of left ∙ k.0 ∙ sym (next_is s piece l y), ap length left ∙ k.1)
    by_test false y = (rw (y, ended_is s y), rw y l)

-- ---- a whole record is what the slice shows

pub record Shows (s piece : List ℕ) (sh : Shape) (g : List ℕ) : Type 0 where
  pub reading : is_reading s ≡ true
  pub shape : sh ≡ shape_in s
  pub time : time_shown (read_left s piece) ≡ time_in g
  pub ends : ends_in (read_left s piece) ≡ sh.ends
  pub frame : take (2 * channels sh.ends) (drop 12 (read_left s piece)) ≡ frame_in sh.ends g
  pub end : frame_end (read_left s piece) ≡ 12 + 2 * channels sh.ends
  pub long : length g ≡ record_length sh
  pub joined : g ≡ hand_in s ++ take (wanted (reader_of s)) piece

whole_of :
    (a b : Bool) (i : ℕ) (sh₀ : Shape) (g₀ : List ℕ) (sh : Shape) (g : List ℕ) → cond a (Stopped (OtherNumber i)) (cond b (Whole sh₀ g₀) More) ≡ Whole sh g →
    (a ≡ false) × (b ≡ true) × (sh ≡ sh₀) × (g₀ ≡ g)
whole_of true b i sh₀ g₀ sh g e = cc
whole_of false true i sh₀ g₀ sh g e = (refl, refl, cc, cc)
whole_of false false i sh₀ g₀ sh g e = cc

pub read_shows : (s piece : List ℕ) (sh : Shape) (g : List ℕ) → length s ≡ reader_length → read_outcome (reader_of s) piece ≡ Whole sh g → Shows s piece sh g
read_shows s piece sh g l o = by_test (is_reading s) refl
  where
    by_test : (b : Bool) → is_reading s ≡ b → Shows s piece sh g
    by_test true y =
        let p : List ℕ = take (wanted (reader_of s)) piece in
        let g₀ : List ℕ = hand_in s ++ p in
        let room = taken_room s piece l y in
        let w = whole_of (wrong_number (index_in s) g₀) (leb (record_length (shape_in s)) (length g₀)) (index_in s) (shape_in s) g₀ sh g (sym (outcome_is s piece l y) ∙ o) in
        let whole : record_length (shape_in s) ≤ length g₀ = leb-true (record_length (shape_in s)) (length g₀) w.1 in
        let left : read_left s piece ≡ finished (ends_in s) g₀ (over s (56 + held_in s) p) = rw (y, w.0, w.1) in
        let same : ends_in s ≡ sh.ends = sym (ap (λ (x : Shape). x.ends) w.2) in
        record {
          reading = y;
          shape = w.2;
          time = ap time_shown left ∙ f_time s p l y room ∙ ap time_in w.3;
          ends = ap ends_in left ∙ f_before s p l y room 0 (omega arith) ∙ same;
          frame =
              ap (λ (n : ℕ). take (2 * channels n) (drop 12 (read_left s piece))) (sym same) ∙ ap (λ (q : List ℕ). take (2 * channels (ends_in s)) (drop 12 q)) left ∙
              f_frame s p l y room whole ∙ ap₂ frame_in same w.3;
          end = ap frame_end left ∙ f_end s p l y room whole ∙ ap (λ (n : ℕ). 12 + 2 * channels n) same;
          long = rw (w.2, ← w.3) (omega (arith, g_length s p l y room, whole, room));
          joined = sym w.3;
        }
    by_test false y = let stopped = rw (ended_is s y) at o in absurd cc
