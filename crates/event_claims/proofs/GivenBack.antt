-- The rows. From the number to its row: the tests that the answer is made of are gone through. And back: each test's outcome is known.
use Prim.Native.Nat.{ℕ, suc, ◌+◌, ◌*◌, ◌≤◌, ◌<◌}
use mathlib.Core.Path.{◌≡◌, refl, sym, ◌∙◌}
use mathlib.Core.List.{List, [], ◌∷◌}
use mathlib.Core.Bool.{Bool, true, false, cond, not, ◌&&◌, false≢true}
use native.Mathlib.Omega.{arith}
use borrow.Author.Tests.{eq-eqb, ne_eqb, le-leb, lt-leb, lt-ltb, le-ltb, eqb-true, eqb-false, leb-true, leb-false, ltb-true, ltb-false}
use lib.Dec.{eqb, leb, ltb}
use lib.ListN.{length}
use Rattle.std.specs.Prelude.{Ok, Err}
use Rattle.answers.specs.declared.Refusal.TheVariants.{NoRoom, OtherFrameLength, OtherNumber, BadFile, NoRelay}
use Rattle.answers.specs.Answers.{given_back}
use Rattle.answers.proofs.Numbers.{else_false}
use Rattle.samples.specs.Window.{channels}
use Rattle.records.specs.Record.{Shape, good_ends, good_file, narrow, record_length, number_in, frame_in}
use Rattle.records.specs.Writer.{last_number}
use Rattle.records.proofs.Writing.{good_ends_lem, good_file_lem}
use Rattle.files.specs.Reader.{Reader, Ended, Reading, Stopped, More, Whole, opened, refusal, wrong_number, outcome, in_hand, end_answer}
use Rattle.files.specs.Reader as reader
use Rattle.files.proofs.Cut.{some_length, right_number}
use Rattle.events.specs.Slice.{reader_length, is_reader, reader_of}
use Rattle.gorsepetal.specs.State.{state_length}
use Rattle.gorsepetal.specs.Calls.{is_relay, feed_answer}
use Rattle.gorsepetal.specs.EventFiles.{both_lent, answer_by}
use Rattle.claims.specs.GivenBack.{FeedRow}
use Rattle.claims.proofs.GivenBack.{both, relay, no_relay}
use Rattle.claims.proofs.Frames.{feed_answers}
use Rattle.event_claims.specs.GivenBack.{GoodEnds, GoodFile, NoReader, OpenRow, ReadRow, EndRow, WriteRow, EventsOpenAnswers, EventsReadAnswers, EventsEndAnswers, EventsWriteAnswers}
use Rattle.event_claims.specs.GivenBack as row

is_reader_lem : (r : List ℕ) → is_reader r ≡ true → length r ≡ reader_length
is_reader_lem r t = eqb-true (length r) reader_length t

not_reader : (r : List ℕ) → is_reader r ≡ false → NoReader r
not_reader r t = eqb-false (length r) reader_length t

ends_are : (ends : ℕ) → good_ends ends ≡ true → GoodEnds ends
ends_are ends t = let h = good_ends_lem ends t in record { fewest = h.0; most = h.1 }

are_ends : (ends : ℕ) → GoodEnds ends → good_ends ends ≡ true
are_ends ends g = rw (le-leb 2 ends g.fewest, le-leb ends 6 g.most)

not_ends : (ends : ℕ) → (GoodEnds ends → ⊥) → good_ends ends ≡ false
not_ends ends n = else_false (good_ends ends) (λ t. n (ends_are ends t))

pub file_is : (ends status : ℕ) → GoodFile ends status → good_file ends status ≡ true
file_is ends status g = rw (are_ends ends g.good_ends, le-leb status 96 g.few_enough)

is_file : (ends status : ℕ) → good_file ends status ≡ true → GoodFile ends status
is_file ends status t = let h = good_file_lem ends status t in record { good_ends = record { fewest = h.0; most = h.1 }; few_enough = h.2 }

not_file : (ends status : ℕ) → (GoodFile ends status → ⊥) → good_file ends status ≡ false
not_file ends status n = else_false (good_file ends status) (λ t. n (is_file ends status t))

open_row : (r : List ℕ) (ends status : ℕ) (a b : Bool) → is_reader r ≡ a → good_file ends status ≡ b →
    OpenRow r ends status (given_back (cond a (refusal (cond b (Reading (narrow ends status) 0 []) (Ended reader.BadFile))) (Err NoRelay)))
open_row r ends status false b t u = row.OpenRow.no_reader (not_reader r t)
open_row r ends status true false t u = row.OpenRow.bad_file (is_reader_lem r t) (λ g. false≢true (sym u ∙ file_is ends status g))
open_row r ends status true true t u = row.OpenRow.done (is_reader_lem r t) (is_file ends status u)

row_open : (r : List ℕ) (ends status m : ℕ) → OpenRow r ends status m → given_back (cond (is_reader r) (refusal (opened (narrow ends status))) (Err NoRelay)) ≡ m
row_open r ends status m (row.OpenRow.no_reader l) = rw (ne_eqb (length r) reader_length l)
row_open r ends status m (row.OpenRow.bad_file l n) = rw (eq-eqb (length r) reader_length l, not_file ends status n)
row_open r ends status m (row.OpenRow.done l g) = rw (eq-eqb (length r) reader_length l, file_is ends status g)

pub events_open_answers : EventsOpenAnswers
events_open_answers r ends status n r₁ c = both _ c.given (open_row r ends status (is_reader r) (good_file ends status) refl refl) (row_open r ends status)

end_row : (r : List ℕ) (a : Bool) (x : Reader) → is_reader r ≡ a → reader_of r ≡ x → EndRow r (given_back (cond a (end_answer x) (Err NoRelay)))
end_row r false x t u = row.EndRow.no_reader (not_reader r t)
end_row r true (Ended e) t u = row.EndRow.ended (is_reader_lem r t) e u
end_row r true (Reading sh i []) t u = row.EndRow.done (is_reader_lem r t) sh i u
end_row r true (Reading sh i (b ∷ h)) t u = row.EndRow.inside_record (is_reader_lem r t) sh i (b ∷ h) u (omega arith)

inside : (sh : Shape) (i : ℕ) (h : List ℕ) → 0 < length h → given_back (end_answer (Reading sh i h)) ≡ 256 * i + 11
inside sh i [] l = absurd (omega arith)
inside sh i (b ∷ h) l = refl

row_end : (r : List ℕ) (m : ℕ) → EndRow r m → given_back (cond (is_reader r) (end_answer (reader_of r)) (Err NoRelay)) ≡ m
row_end r m (row.EndRow.no_reader l) = rw (ne_eqb (length r) reader_length l)
row_end r m (row.EndRow.ended l e u) = rw (eq-eqb (length r) reader_length l, u)
row_end r m (row.EndRow.inside_record l sh i h u k) = rw (eq-eqb (length r) reader_length l, u) (inside sh i h k)
row_end r m (row.EndRow.done l sh i u) = rw (eq-eqb (length r) reader_length l, u)

pub events_end_answers : EventsEndAnswers
events_end_answers r n r₁ c = both _ c.given (end_row r (is_reader r) (reader_of r) refl refl) (row_end r)

module _ (ends written : ℕ) (f out : List ℕ) where
  write_row :
      (a b c d : Bool) → good_ends ends ≡ a → eqb (length f) (2 * channels ends) ≡ b → leb (record_length (narrow ends 0)) (length out) ≡ c → ltb written last_number ≡ d →
      WriteRow ends written f out (given_back (cond a (cond b (cond c (cond d (Ok tt) (Err (OtherNumber 0))) (Err NoRoom)) (Err OtherFrameLength)) (Err BadFile)))
  write_row false b c d t u v w = row.WriteRow.bad_file (λ g. false≢true (sym t ∙ are_ends ends g))
  write_row true false c d t u v w = row.WriteRow.frame_length (ends_are ends t) (eqb-false _ _ u)
  write_row true true false d t u v w = row.WriteRow.no_room (ends_are ends t) (eqb-true _ _ u) (leb-false _ _ v)
  write_row true true true false t u v w = row.WriteRow.other_number (ends_are ends t) (eqb-true _ _ u) (leb-true _ _ v) (ltb-false written last_number w)
  write_row true true true true t u v w = row.WriteRow.done (ends_are ends t) (eqb-true _ _ u) (leb-true _ _ v) (ltb-true written last_number w)

  row_write :
      (m : ℕ) → WriteRow ends written f out m →
      given_back (cond (good_ends ends) (cond (eqb (length f) (2 * channels ends)) (cond (leb (record_length (narrow ends 0)) (length out)) (cond (ltb written last_number) (Ok tt) (Err (OtherNumber 0))) (Err NoRoom)) (Err OtherFrameLength)) (Err BadFile)) ≡ m
  row_write m (row.WriteRow.bad_file n) = rw (not_ends ends n)
  row_write m (row.WriteRow.frame_length g l) = rw (are_ends ends g, ne_eqb (length f) (2 * channels ends) l)
  row_write m (row.WriteRow.no_room g l r) = rw (are_ends ends g, eq-eqb (length f) (2 * channels ends) l, lt-leb (record_length (narrow ends 0)) (length out) r)
  row_write m (row.WriteRow.other_number g l r n) =
      rw (are_ends ends g, eq-eqb (length f) (2 * channels ends) l, le-leb (record_length (narrow ends 0)) (length out) r, le-ltb written last_number n)
  row_write m (row.WriteRow.done g l r n) =
      rw (are_ends ends g, eq-eqb (length f) (2 * channels ends) l, le-leb (record_length (narrow ends 0)) (length out) r, lt-ltb written last_number n)

pub events_write_answers : EventsWriteAnswers
events_write_answers ends written time f out n out₁ c =
    both _ c.given
    (write_row ends written f out (good_ends ends) (eqb (length f) (2 * channels ends)) (leb (record_length (narrow ends 0)) (length out)) (ltb written last_number) refl refl refl refl)
    (row_write ends written f out)

module _ (s r p out : List ℕ) where
  -- the row of feed that a whole record's frame is in
  fed_row : (f : List ℕ) → FeedRow s f out (given_back (feed_answer s f out))
  fed_row f = (feed_answers s f out _ _ _ (record { given = refl; state = refl; buffer = refl }) _).0 refl

  row_fed : (f : List ℕ) (m : ℕ) → FeedRow s f out m → given_back (feed_answer s f out) ≡ m
  row_fed f m k = (feed_answers s f out _ _ _ (record { given = refl; state = refl; buffer = refl }) m).1 k

  module _ (sh : Shape) (i : ℕ) (h : List ℕ) where
    abbrev g : List ℕ
    g = in_hand sh h p

    wrong : (a b : Bool) → leb 4 (length g) ≡ a → eqb (number_in g) (suc i) ≡ b → (a && not b) ≡ true → (4 ≤ length g) × (number_in g ≡ suc i → ⊥)
    wrong true true t u e = absurd (false≢true e)
    wrong true false t u e = (leb-true 4 (length g) t, eqb-false (number_in g) (suc i) u)
    wrong false b t u e = absurd (false≢true e)

    read_on :
        (a b : Bool) → wrong_number i g ≡ a → leb (record_length sh) (length g) ≡ b → length s ≡ state_length → length r ≡ reader_length → reader_of r ≡ Reading sh i h →
        ReadRow s r p out (given_back (answer_by (cond a (Stopped (reader.OtherNumber i)) (cond b (Whole sh g) More)) s out))
    read_on true b t u l k e = let w = wrong (leb 4 (length g)) (eqb (number_in g) (suc i)) refl refl t in row.ReadRow.other_number l k sh i h e w.0 w.1
    read_on false true t u l k e =
        let full = leb-true (record_length sh) (length g) u in
        row.ReadRow.fed l k sh i h e (right_number i g (omega (arith, full, some_length sh)) t) full _ (fed_row (frame_in sh.ends g))
    read_on false false t u l k e = row.ReadRow.taken l k sh i h e (λ few. right_number i g few t) (leb-false (record_length sh) (length g) u)

    on_wrong : 4 ≤ length g → (number_in g ≡ suc i → ⊥) → outcome sh i g ≡ Stopped (reader.OtherNumber i)
    on_wrong l n = rw (le-leb 4 (length g) l, ne_eqb (number_in g) (suc i) n)

    not_wrong : (4 ≤ length g → number_in g ≡ suc i) → wrong_number i g ≡ false
    not_wrong n = by_test (leb 4 (length g)) refl
      where
        by_test : (b : Bool) → leb 4 (length g) ≡ b → (b && not (eqb (number_in g) (suc i))) ≡ false
        by_test true t = rw (eq-eqb (number_in g) (suc i) (n (leb-true 4 (length g) t)))
        by_test false t = refl

  read_row :
      (a b : Bool) (x : Reader) → is_relay s ≡ a → is_reader r ≡ b → reader_of r ≡ x → ReadRow s r p out (given_back (cond (a && b) (answer_by (reader.read_outcome x p) s out) (Err NoRelay)))
  read_row false b x t u e = row.ReadRow.no_relay (no_relay s t)
  read_row true false x t u e = row.ReadRow.no_reader (relay s t) (not_reader r u)
  read_row true true (Ended y) t u e = row.ReadRow.ended (relay s t) (is_reader_lem r u) y e
  read_row true true (Reading sh i h) t u e =
      read_on sh i h (wrong_number i (in_hand sh h p)) (leb (record_length sh) (length (in_hand sh h p))) refl refl (relay s t) (is_reader_lem r u) e

  row_read : (m : ℕ) → ReadRow s r p out m → given_back (cond (both_lent s r) (answer_by (reader.read_outcome (reader_of r) p) s out) (Err NoRelay)) ≡ m
  row_read m (row.ReadRow.no_relay l) = rw (ne_eqb (length s) state_length l)
  row_read m (row.ReadRow.no_reader l k) = rw (eq-eqb (length s) state_length l, ne_eqb (length r) reader_length k)
  row_read m (row.ReadRow.ended l k y e) = rw (eq-eqb (length s) state_length l, eq-eqb (length r) reader_length k, e)
  row_read m (row.ReadRow.other_number l k sh i h e few n) =
      rw (eq-eqb (length s) state_length l, eq-eqb (length r) reader_length k, e, on_wrong sh i h few n)
  row_read m (row.ReadRow.taken l k sh i h e n few) =
      rw (eq-eqb (length s) state_length l, eq-eqb (length r) reader_length k, e, not_wrong sh i h n, lt-leb (record_length sh) (length (in_hand sh h p)) few)
  row_read m (row.ReadRow.fed l k sh i h e n full j f) =
      rw (eq-eqb (length s) state_length l, eq-eqb (length r) reader_length k, e, not_wrong sh i h (λ q. n), le-leb (record_length sh) (length (in_hand sh h p)) full)
      (row_fed (frame_in sh.ends (in_hand sh h p)) m f)

pub events_read_answers : EventsReadAnswers
events_read_answers s r p out n s₁ r₁ out₁ c =
    both _ c.given (read_row s r p out (is_relay s) (is_reader r) (reader_of r) refl refl refl) (row_read s r p out)
