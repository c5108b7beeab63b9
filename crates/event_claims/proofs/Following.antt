-- The caller of the C functions goes along with that of the definitions: the slice is the reader, and both hear the same of each piece.
use Prim.Native.Nat.{ℕ, ◌*◌, ◌<◌}
use mathlib.Core.Path.{◌≡◌, refl, sym, ap, ◌∙◌}
use mathlib.Core.List.{List, [], ◌∷◌, append-nil}
use mathlib.Core.Bool.{Bool, true, false, cond}
use native.Mathlib.Omega.{arith}
use borrow.Author.Tests.{eq-eqb, ne_eqb, leb-true, leb-false}
use lib.Dec.{eqb, leb}
use lib.ListN.{length, take, drop}
use Rattle.answers.specs.Answers.{given_back}
use Rattle.answers.proofs.Numbers.{else_false}
use Rattle.samples.specs.Window.{channels}
use Rattle.records.specs.Record.{Shape, time_in, frame_in}
use Rattle.files.specs.Reader.{answer_of, Reader, Reading, Outcome, Stopped, More, Whole, wanted, after, in_hand, read_outcome, read_next, Fits}
use Rattle.files.specs.Caller.{Caller, Hears, hears, call_on, call, wants, hand}
use Rattle.files.specs.Cutting.{Knows}
use Rattle.files.proofs.Cut.{always_wants, fits_next}
use Rattle.files.proofs.Follow.{follow, follow_ok}
use Rattle.files.proofs.Known.{caller_knows}
use Rattle.events.specs.Slice.{reader_length, is_reading, reader_of, wanted_in, read_left, frame_shown, shape_in, index_in, hand_in}
use Rattle.events.proofs.Standing.{held_is, ended_is, slice_fits}
use Rattle.events.proofs.Next.{read_left_lem, read_shows}
use Rattle.gorsepetal.specs.State.{state_length}
use Rattle.gorsepetal.specs.Calls.{feed_answer, feed_state, feed_out}
use Rattle.gorsepetal.specs.EventFiles.{both_lent, piece_outcome, read_state, read_reader}
use Rattle.gorsepetal.proofs.EventCases.{both_lent_lem}
use Rattle.claims.proofs.Unmoved.{read_leaves_settings}
use Rattle.event_claims.specs.Caller.{Told, fed, refused, Lent, called, read_once, read_pieces}

-- what is done with a whole record: its frame is fed
abbrev pub feeds : Hears (List ℕ × List ℕ) Told
feeds =
    record {
      whole = λ s sh g.
          let f = frame_in sh.ends g in
          ((feed_state s.0 f s.1, feed_out s.0 f s.1), fed (given_back (feed_answer s.0 f s.1)) (feed_out s.0 f s.1) (time_in g) f);
      stopped = λ s e. refused (given_back (answer_of e)) s.1 ∷ [];
    }

abbrev pub seen : Lent → Caller (List ℕ × List ℕ) Told
seen c = record { state = (c.relay, c.out); reader = reader_of c.reader; heard = c.heard }

abbrev pub Ok : Lent → Type 0
Ok c = (length c.relay ≡ state_length) × (length c.reader ≡ reader_length)

same_wants : (c : Lent) → Ok c → wanted_in c.reader ≡ wants (seen c)
same_wants c k = rw (eq-eqb (length c.reader) reader_length k.1)

-- both slices keep their lengths
ok_next : (c : Lent) (p : List ℕ) → Ok c → Ok (read_once c p)
ok_next c p k = by_test (eqb (wanted_in c.reader) 0)
  where
    relay : length (read_state c.relay c.reader p c.out) ≡ state_length
    relay = (read_leaves_settings c.relay c.reader p c.out _ _ _ _ k.0 (record { given = refl; state = refl; reader = refl; buffer = refl })).0

    reader : length (read_reader c.relay c.reader p) ≡ reader_length
    reader = rw (both_lent_lem c.relay c.reader k.0 k.1) (read_left_lem c.reader p k.1).1

    by_test : (b : Bool) → Ok (cond b c (called c p))
    by_test true = k
    by_test false = (relay, reader)

-- a call on a reading, by the outcome of its piece
call_reading : (s : List ℕ × List ℕ) (hs : List Told) (x : Reader) (sh : Shape) (i : ℕ) (h p : List ℕ) → x ≡ Reading sh i h → call_on feeds s hs x p ≡ hears feeds s hs (read_next x p) (read_outcome x p)
call_reading s hs x sh i h p e = rw e

module _ (c : Lent) (p : List ℕ) (k : Ok c) (y : is_reading c.reader ≡ true) where
  abbrev s : List ℕ
  s = c.relay

  abbrev r : List ℕ
  r = c.reader

  abbrev out : List ℕ
  out = c.out

  lent : both_lent s r ≡ true
  lent = both_lent_lem s r k.0 k.1

  fits : Fits (reader_of r)
  fits = slice_fits r k.1

  wanted_some : 0 < wanted (reader_of r)
  wanted_some = rw (held_is r y) (always_wants (shape_in r) (index_in r) (hand_in r) (rw (held_is r y) at fits))

  wants_more : eqb (wanted_in r) 0 ≡ false
  wants_more = ne_eqb (wanted_in r) 0 (λ z. omega (arith, same_wants c k, wanted_some))

  next : reader_of (read_left r p) ≡ read_next (reader_of r) p
  next = (read_left_lem r p k.1).0

  left_wants : wanted_in (read_left r p) ≡ wanted (read_next (reader_of r) p)
  left_wants = rw (eq-eqb (length (read_left r p)) reader_length (read_left_lem r p k.1).1, next)

  after_is : (o : Outcome) → piece_outcome r p ≡ o → read_next (reader_of r) p ≡ after (shape_in r) (index_in r) (in_hand (shape_in r) (hand_in r) p) o
  after_is o u = let e = held_is r y in rw e (ap (after (shape_in r) (index_in r) (in_hand (shape_in r) (hand_in r) p)) (rw e at u))

  knows : Knows (reader_of r) p
  knows = caller_knows (reader_of r) p fits

  by_outcome : (o : Outcome) → piece_outcome r p ≡ o → seen (called c p) ≡ hears feeds (s, out) c.heard (read_next (reader_of r) p) o
  by_outcome (Stopped e) u =
      let zero : eqb (wanted_in (read_left r p)) 0 ≡ true = eq-eqb (wanted_in (read_left r p)) 0 (left_wants ∙ ap wanted (after_is (Stopped e) u)) in
      rw (lent, u, zero, next)
  by_outcome More u =
      let some : 0 < wanted (read_next (reader_of r) p) =
      rw (after_is More u) (always_wants (shape_in r) (index_in r) (in_hand (shape_in r) (hand_in r) p) (rw (after_is More u) at (fits_next (reader_of r) p fits))) in
      let not_zero : eqb (wanted_in (read_left r p)) 0 ≡ false = ne_eqb (wanted_in (read_left r p)) 0 (λ z. omega (arith, left_wants, some)) in
      let few = else_false (leb (wanted_in r) (length p)) (λ t. knows.enough wanted_some (rw (← same_wants c k) (leb-true (wanted_in r) (length p) t)) u) in
      rw (lent, u, not_zero, few, next) (ap (λ (hs : List Told). record { state = (s, out); reader = read_next (reader_of r) p; heard = hs }) (append-nil c.heard))
  by_outcome (Whole sh g) u =
      let some : 0 < wanted (read_next (reader_of r) p) = rw (after_is (Whole sh g) u) (omega arith) in
      let not_zero : eqb (wanted_in (read_left r p)) 0 ≡ false = ne_eqb (wanted_in (read_left r p)) 0 (λ z. omega (arith, left_wants, some)) in
      let all : leb (wanted_in r) (length p) ≡ true = enough (leb (wanted_in r) (length p)) refl in
      let w = read_shows r p sh g k.1 u in
      let frame : frame_shown (read_left r p) ≡ frame_in sh.ends g = ap (λ (n : ℕ). take (2 * channels n) (drop 12 (read_left r p))) w.ends ∙ w.frame in
      rw (lent, u, not_zero, all, w.time, frame, next)
    where
      enough : (b : Bool) → leb (wanted_in r) (length p) ≡ b → b ≡ true
      enough true t = refl
      enough false t = absurd (knows.fewer (rw (← same_wants c k) (leb-false (wanted_in r) (length p) t)) sh g u)

  on_step : seen (read_once c p) ≡ call feeds (seen c) p
  on_step = rw wants_more (by_outcome (piece_outcome r p) refl ∙ sym (call_reading (s, out) c.heard (reader_of r) (shape_in r) (index_in r) (hand_in r) p (held_is r y)))

same_step : (c : Lent) (p : List ℕ) → Ok c → seen (read_once c p) ≡ call feeds (seen c) p
same_step c p k = by_test (is_reading c.reader) refl
  where
    by_test : (b : Bool) → is_reading c.reader ≡ b → seen (read_once c p) ≡ call feeds (seen c) p
    by_test true y = on_step c p k y
    by_test false y =
        let e = ended_is c.reader y in
        let none : eqb (wanted_in c.reader) 0 ≡ true = eq-eqb (wanted_in c.reader) 0 (same_wants c k ∙ ap wanted e) in
        rw (none, e)

-- so a file that C hands over in pieces is the definitions' file
pub as_seen : (c : Lent) (ps : List (List ℕ)) → Ok c → seen (read_pieces c ps) ≡ hand feeds (seen c) ps
as_seen c ps k = follow (λ (d : Lent). wanted_in d.reader) read_once wants (call feeds) seen Ok same_wants same_step ok_next ps c k

pub still_ok : (c : Lent) (ps : List (List ℕ)) → Ok c → Ok (read_pieces c ps)
still_ok c ps k = follow_ok (λ (d : Lent). wanted_in d.reader) read_once wants (call feeds) seen Ok same_wants same_step ok_next ps c k
