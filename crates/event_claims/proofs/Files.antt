-- What is promised of a whole file: from cutting (`files`), records made and taken apart (`records`), and that C's caller goes along (`Following`).
use Prim.Native.Nat.{ℕ, ◌+◌, ◌≤◌, ◌<◌}
use mathlib.Core.Path.{◌≡◌, refl, sym, ap, ap₂, ◌∙◌}
use mathlib.Core.List.{List, [], ◌∷◌, ◌++◌, append-nil, map}
use native.Mathlib.Omega.{arith}
use native.Mathlib.Numerals.{add-one}
use borrow.Author.Tests.{eq-eqb}
use lib.ListN.{length, take, drop}
use Rattle.std.specs.Prelude.{Ok as Done}
use Rattle.answers.specs.Answers.{given_back}
use Rattle.answers.proofs.Numbers.{zero_is, not_zero_refused}
use Rattle.lent.specs.Lent.{over}
use Rattle.lent.specs.Bytes.{Every, Byte}
use Rattle.lent.proofs.Over.{over_read, over_behind}
use Rattle.samples.specs.Window.{numbers_of}
use Rattle.records.specs.Record.{Shape, narrow, record_length, number_in, time_in, frame_in, record_of, swapped}
use Rattle.records.specs.Writer.{write_answer}
use Rattle.records.proofs.Made.{made_length, made_number, made_time, made_frame, made_again}
use Rattle.files.specs.Reader.{Reader, Ended, Reading, end_answer}
use Rattle.files.specs.Caller.{Caller, starts, hand, together, heard_of, notes, by_hand, after_all}
use Rattle.files.specs.Cutting.{Numbered, stopped_by}
use Rattle.files.proofs.Cut as cut
use Rattle.files.proofs.Joined.{read_as_joined, joined_as_read}
use Rattle.files.proofs.ByHand.{as_by_hand}
use Rattle.events.specs.Slice.{reader_length, reader_of, opened_bytes}
use Rattle.events.proofs.Standing.{slice_fits}
use Rattle.events.proofs.Next.{opened_reads}
use Rattle.gorsepetal.specs.State.{state_length}
use Rattle.gorsepetal.specs.Calls.{feed_answer, feed_state, feed_out}
use Rattle.gorsepetal.specs.EventFiles.{open_left}
use Rattle.event_claims.specs.GivenBack.{GoodEnds, GoodFile}
use Rattle.event_claims.specs.GivenBack as row
use Rattle.event_claims.specs.Caller.{Told, fed, Lent, read_pieces, OfFile, of_file, lending, opening}
use Rattle.event_claims.specs.Files.{CutAnywhere, Event, IsEvent, records_from, file_of, WritesRecord, RefusedWrite, MissingMark, events_in, WrittenRead, ReadWritten, fed_by_hand, relay_after, AsByHand, FedByHand}
use Rattle.event_claims.proofs.GivenBack.{file_is, events_write_answers}
use Rattle.event_claims.proofs.Following.{feeds, seen, Ok, as_seen, still_ok}

-- ---- cut anywhere

-- what is heard of a file is in what the definitions see of the caller
abbrev pub of_seen : Caller (List ℕ × List ℕ) Told → OfFile
of_seen d = record { heard = d.heard; at_end = given_back (end_answer d.reader); relay = d.state.0; out = d.state.1 }

file_seen : (c : Lent) → Ok c → of_file c ≡ of_seen (seen c)
file_seen c k = rw (eq-eqb (length c.reader) reader_length k.1)

pub pieces_seen : (c : Lent) (ps : List (List ℕ)) → Ok c → of_file (read_pieces c ps) ≡ of_seen (hand feeds (seen c) ps)
pieces_seen c ps k = file_seen (read_pieces c ps) (still_ok c ps k) ∙ ap of_seen (as_seen c ps k)

pub cut_anywhere : CutAnywhere
cut_anywhere s r out ps qs l m e =
    let c = lending s r out in
    pieces_seen c ps (l, m) ∙ ap of_seen (cut.cut_anywhere _ _ feeds (seen c) ps qs (slice_fits r m) e) ∙ sym (pieces_seen c qs (l, m))

-- ---- a file that was opened

module _ (s r out : List ℕ) (ends status : ℕ) (l : length s ≡ state_length) (m : length r ≡ reader_length) (good : GoodFile ends status) where
  left_is : open_left r ends status ≡ opened_bytes ends status
  left_is = rw (eq-eqb (length r) reader_length m)

  opened_ok : Ok (opening s r out ends status)
  opened_ok = (l, ap length left_is ∙ rw (file_is ends status good))

  start_is : reader_of (open_left r ends status) ≡ Reading (narrow ends status) 0 []
  start_is = ap reader_of left_is ∙ opened_reads ends status ∙ rw (file_is ends status good)

  seen_start : seen (opening s r out ends status) ≡ starts (s, out) (Reading (narrow ends status) 0 [])
  seen_start = ap (λ (x : Reader). starts (s, out) x) start_is

  pub file_is_seen : (ps : List (List ℕ)) → of_file (read_pieces (opening s r out ends status) ps) ≡ of_seen (hand feeds (starts (s, out) (Reading (narrow ends status) 0 [])) ps)
  file_is_seen ps = pieces_seen (opening s r out ends status) ps opened_ok ∙ ap (λ (d : Caller (List ℕ × List ℕ) Told). of_seen (hand feeds d ps)) seen_start

-- ---- what records say

abbrev event_in : ℕ → List ℕ → Event
event_in ends g = record { time = time_in g; frame = frame_in ends g }

abbrev events_of : ℕ → List (List ℕ) → List Event
events_of ends gs = map (event_in ends) gs

-- feeding records is feeding their frames by hand
module _ (ends status : ℕ) where
  by_hand_events : (gs : List (List ℕ)) (s out : List ℕ) → by_hand feeds (narrow ends status) (s, out) gs ≡ fed_by_hand s out (events_of ends gs)
  unfolding by_hand
  by_hand_events [] s out = refl
  by_hand_events (g ∷ gs) s out =
      let f = frame_in ends g in
      ap (λ (hs : List Told). fed (given_back (feed_answer s f out)) (feed_out s f out) (time_in g) f ∷ hs) (by_hand_events gs (feed_state s f out) (feed_out s f out))

  after_events : (gs : List (List ℕ)) (s out : List ℕ) → (after_all feeds (narrow ends status) (s, out) gs).0 ≡ relay_after s out (events_of ends gs)
  unfolding after_all
  after_events [] s out = refl
  after_events (g ∷ gs) s out = after_events gs (feed_state s (frame_in ends g) out) (feed_out s (frame_in ends g) out)

-- the events heard of frames fed by hand are these, and a refusal adds none
events_by_hand : (es : List Event) (s out : List ℕ) (hs : List Told) → events_in (fed_by_hand s out es ++ hs) ≡ es ++ events_in hs
events_by_hand [] s out hs = refl
events_by_hand (e ∷ es) s out hs = ap (λ (r : List Event). e ∷ r) (events_by_hand es (feed_state s e.frame out) (feed_out s e.frame out) hs)

stopped_none : (t : List ℕ × List ℕ) (x : Reader) → (length (stopped_by feeds t x) ≤ 1) × (events_in (stopped_by feeds t x) ≡ [])
stopped_none t (Ended e) = (omega arith, refl)
stopped_none t (Reading sh i h) = (omega arith, refl)

-- what is heard of a file that was opened, by the records noted in it
module _ (s r out : List ℕ) (ends status : ℕ) (l : length s ≡ state_length) (m : length r ≡ reader_length) (good : GoodFile ends status) (ps : List (List ℕ)) where
  abbrev sh : Shape
  sh = narrow ends status

  abbrev d : Caller (List ℕ × List ℕ) Told
  d = hand feeds (starts (s, out) (Reading sh 0 [])) ps

  abbrev n : Caller Unit (List ℕ)
  n = hand notes (starts tt (Reading sh 0 [])) ps

  abbrev es : List Event
  es = events_of ends n.heard

  abbrev h : OfFile
  h = of_file (read_pieces (opening s r out ends status) ps)

  h_is : h ≡ of_seen d
  h_is = file_is_seen s r out ends status l m good ps

  heard_is : h.heard ≡ fed_by_hand s out es ++ stopped_by feeds d.state d.reader
  heard_is =
      let k = as_by_hand _ _ feeds (s, out) sh ps in
      ap (λ (o : OfFile). o.heard) h_is ∙ k.heard ∙ ap (λ (q : List Told). q ++ stopped_by feeds d.state d.reader) (by_hand_events ends status n.heard s out)

  pub events_are : events_in h.heard ≡ es
  events_are =
      ap events_in heard_is ∙ events_by_hand es s out (stopped_by feeds d.state d.reader) ∙
      ap (λ (q : List Event). es ++ q) (stopped_none d.state d.reader).1 ∙ append-nil es

  pub end_is : h.at_end ≡ given_back (heard_of n).at_end
  end_is = ap (λ (o : OfFile). o.at_end) h_is ∙ ap (λ (x : Reader). given_back (end_answer x)) (as_by_hand _ _ feeds (s, out) sh ps).reader

  relay_is : h.relay ≡ relay_after s out es
  relay_is =
      ap (λ (o : OfFile). o.relay) h_is ∙ ap (λ (t : List ℕ × List ℕ). t.0) (as_by_hand _ _ feeds (s, out) sh ps).state ∙ after_events ends status n.heard s out

  pub as_hand : AsByHand s out h
  as_hand =
      let stop = stopped_none d.state d.reader in
      record {
        refusals = stopped_by feeds d.state d.reader;
        one_at_most = stop.0;
        none_fed = stop.1;
        heard = rw events_are heard_is;
        relay = rw events_are relay_is;
      }

pub fed_by_hand_lem : FedByHand
fed_by_hand_lem s r out ends status ps l m good = as_hand s r out ends status l m good ps

-- ---- the two round trips

no_status : (ends : ℕ) → GoodEnds ends → GoodFile ends 0
no_status ends g = record { good_ends = g; few_enough = omega arith }

-- records that were written are numbered, and say what was written
written_numbered : (ends : ℕ) (k : ℕ) (es : List Event) → Every (IsEvent ends) es → k + length es < 4294967296 → Numbered (narrow ends 0) k (records_from k es)
written_numbered ends k [] p l = tt
written_numbered ends k (e ∷ es) p l = (
  made_length ends (k + 1) e.time e.frame p.0.frame,
  made_number ends (k + 1) e.time e.frame p.0.frame (omega arith) ∙ add-one k,
  rw (← add-one k) (written_numbered ends (k + 1) es p.1 (omega arith)),
)

written_events : (ends : ℕ) (k : ℕ) (es : List Event) → Every (IsEvent ends) es → events_of ends (records_from k es) ≡ es
written_events ends k [] p = refl
written_events ends k (e ∷ es) p =
    let time = made_time ends (k + 1) e.time e.frame p.0.frame p.0.time in
    let frame = made_frame ends (k + 1) e.time e.frame p.0.frame in
    ap₂ (λ (x : Event) (xs : List Event). x ∷ xs) (ap₂ (λ (a : ℕ) (b : List ℕ). record { time = a; frame = b }) time frame) (written_events ends (k + 1) es p.1)

pub written_read : WrittenRead
written_read s r out ends es ps l m g p few e =
    let good = no_status ends g in
    let gs = records_from 0 es in
    let heard = read_as_joined (narrow ends 0) gs ps (written_numbered ends 0 es p (omega arith)) e in (
      events_are s r out ends 0 l m good ps ∙ ap (λ h. events_of ends h.heard) heard ∙ written_events ends 0 es p,
      end_is s r out ends 0 l m good ps ∙ ap (λ h. given_back h.at_end) heard,
    )

-- records that were read, written again
every_front : (a b : List ℕ) → Every Byte (a ++ b) → Every Byte a
every_front [] b p = tt
every_front (x ∷ a) b p = (p.0, every_front a b p.1)

every_behind : (a b : List ℕ) → Every Byte (a ++ b) → Every Byte b
every_behind [] b p = p
every_behind (x ∷ a) b p = every_behind a b p.1

again : (ends : ℕ) (k : ℕ) (gs : List (List ℕ)) → Numbered (narrow ends 0) k gs → Every Byte (together gs) → together (records_from k (events_of ends gs)) ≡ together gs
unfolding together
again ends k [] n p = refl
again ends k (g ∷ gs) n p =
    let number : number_in g ≡ k + 1 = n.1 ∙ sym (add-one k) in
    let one : record_of (k + 1) (time_in g) (frame_in ends g) ≡ g = rw number at (made_again ends g (every_front g (together gs) p) n.0) in
    ap₂ ◌++◌ one (again ends (k + 1) gs (rw (← add-one k) at n.2) (every_behind g (together gs) p))

pub read_written : ReadWritten
read_written s r out ends ps l m g p e =
    let good = no_status ends g in
    let done = zero_is _ (sym (end_is s r out ends 0 l m good ps) ∙ e) in
    let k = joined_as_read (narrow ends 0) ps done in
    ap file_of (events_are s r out ends 0 l m good ps) ∙ again ends 0 _ k.0 (rw k.1 p) ∙ k.1

-- ---- write

pub missing_mark_lem : MissingMark
unfolding swapped numbers_of
missing_mark_lem b = refl

pub refused_write : RefusedWrite
refused_write ends written time f out n out₁ c not-0 = c.buffer ∙ rw (not_zero_refused (write_answer ends written f out) (λ z. not-0 (c.given ∙ z)))

pub writes_record : WritesRecord
writes_record ends written time f out out₁ c = of_row ((events_write_answers ends written time f out 0 out₁ c 0).0 refl) refl
  where
    of_row : {n : ℕ} → row.WriteRow ends written f out n → n ≡ 0 → let m = record_length (narrow ends 0) in (take m out₁ ≡ record_of (written + 1) time f) × (drop m out₁ ≡ drop m out)
    of_row (row.WriteRow.bad_file x) z = absurd (omega arith)
    of_row (row.WriteRow.frame_length g x) z = absurd (omega arith)
    of_row (row.WriteRow.no_room g x y) z = absurd (omega arith)
    of_row (row.WriteRow.other_number g x y w) z = absurd (omega arith)
    of_row (row.WriteRow.done g long room w) z =
        let done : write_answer ends written f out ≡ Done tt = zero_is (write_answer ends written f out) (sym c.given) in
        let x : List ℕ = record_of (written + 1) time f in
        let is : out₁ ≡ over out 0 x = c.buffer ∙ rw done in
        let size = made_length ends (written + 1) time f long in
        let end : 0 + length x + 0 ≡ record_length (narrow ends 0) = omega (arith, size) in
        (ap₂ take (sym size) is ∙ over_read out 0 x (omega arith), ap (drop (record_length (narrow ends 0))) is ∙ rw end at (over_behind out 0 x (omega arith) 0))
