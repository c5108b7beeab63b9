-- What ends a reading and what does not: by the outcome of the piece, and by the rows of feed, none of which is 12.
use Prim.Native.Nat.{ℕ, suc, ◌+◌, ◌*◌, ◌≤◌, ◌<◌}
use mathlib.Core.Path.{◌≡◌, refl, sym, ap, ◌∙◌}
use mathlib.Core.Logic.{◌⊎◌, inl, inr}
use mathlib.Core.List.{List, [], ◌∷◌}
use mathlib.Core.Bool.{Bool, true, false, cond, ◌&&◌}
use native.Mathlib.Omega.{arith}
use borrow.Author.Tests.{eq-eqb, ne_eqb, eqb-true}
use lib.ListN.{length}
use Rattle.std.specs.Prelude.{Err}
use Rattle.answers.specs.Answers.{given_back}
use Rattle.answers.proofs.Numbers.{else_false}
use Rattle.answers.specs.declared.Refusal.TheVariants.{NoRelay}
use Rattle.records.specs.Record.{good_file, narrow, frame_in}
use Rattle.records.proofs.Writing.{both}
use Rattle.files.specs.Reader.{Ending, BadFile, OtherNumber, InsideRecord, answer_of, Reader, Ended, Reading, Outcome, Stopped, More, Whole, wanted, refusal, read_outcome, read_next, end_answer, end_next}
use Rattle.files.proofs.Cut.{some_length, always_wants}
use Rattle.files.proofs.Known.{caller_knows}
use Rattle.events.specs.Slice.{reader_length, is_reader, is_reading, reader_of, wanted_in, read_left, shape_in, index_in, hand_in}
use Rattle.events.proofs.Standing.{held_is, ended_is, slice_fits}
use Rattle.events.proofs.Next.{opened_reads, read_left_lem, end_reads, read_shows}
use Rattle.gorsepetal.specs.State.{state_length}
use Rattle.gorsepetal.specs.Calls.{is_relay}
use Rattle.gorsepetal.specs.EventFiles.{both_lent, piece_outcome, handed, answer_by, EventsOpened, EventsRead, EventsEnded}
use Rattle.gorsepetal.proofs.EventCases.{both_lent_lem, Handed, whole, handed_is, Hands, nothing, a_frame, hands}
use Rattle.claims.specs.GivenBack.{FeedRow}
use Rattle.claims.specs.GivenBack as feed_row
use Rattle.claims.proofs.Frames.{feed_answers, refused_feed}
use Rattle.event_claims.specs.Ending.{RefusalsEnd, SameRefusal, FeedDoesNotEnd, ZeroMeans, RefusedRead, NoReaderNoChange}

lent_reader : (s r : List ℕ) → both_lent s r ≡ true → length r ≡ reader_length
lent_reader s r t = eqb-true (length r) reader_length (both (is_relay s) (is_reader r) t).1

-- feed gives no 12
not_12 : (s f out : List ℕ) (n i : ℕ) → FeedRow s f out n → n ≡ 256 * i + 12 → ⊥
not_12 s f out n i (feed_row.FeedRow.no_relay l) z = omega arith
not_12 s f out n i (feed_row.FeedRow.no_settings l g) z = omega arith
not_12 s f out n i (feed_row.FeedRow.frame_length l g h) z = omega arith
not_12 s f out n i (feed_row.FeedRow.no_room l g h q) z = omega arith
not_12 s f out n i (feed_row.FeedRow.too_few k less) z = omega arith
not_12 s f out n i (feed_row.FeedRow.missing_sample k enough j below there before) z = omega arith
not_12 s f out n i (feed_row.FeedRow.done k enough none) z = omega arith

-- an ending by its number
by_12 : (e : Ending) (i : ℕ) → 256 * i + 12 ≡ given_back (answer_of e) → e ≡ OtherNumber i
by_12 BadFile i z = absurd (omega arith)
by_12 (OtherNumber j) i z = ap OtherNumber (omega arith)
by_12 (InsideRecord j) i z = absurd (omega arith)

by_11 : (x : Reader) (i : ℕ) → 256 * i + 11 ≡ given_back (refusal x) → x ≡ Ended (InsideRecord i)
by_11 (Ended BadFile) i z = absurd (omega arith)
by_11 (Ended (OtherNumber j)) i z = absurd (omega arith)
by_11 (Ended (InsideRecord j)) i z = ap (λ (k : ℕ). Ended (InsideRecord k)) (omega arith)
by_11 (Reading sh j h) i z = absurd (omega arith)

-- a piece that stops leaves the reading ended
stopped_next : (x : Reader) (p : List ℕ) (e : Ending) → read_outcome x p ≡ Stopped e → read_next x p ≡ Ended e
stopped_next (Ended d) p e u = ap Ended (inj d e u)
  where
    inj : (d e : Ending) → Stopped d ≡ Stopped e → d ≡ e
    inj d e k = cc
stopped_next (Reading sh i h) p e u = rw u

pub refusals_end : RefusalsEnd
refusals_end s r p out ends status i s₁ r₁ out₁ = (opening, reading, ending)
  where
    opening : EventsOpened r ends status 13 r₁ → reader_of r₁ ≡ Ended BadFile
    opening c = by_tests (is_reader r) refl (good_file ends status) refl c.given
      where
        by_tests :
            (a : Bool) → is_reader r ≡ a → (b : Bool) → good_file ends status ≡ b →
            13 ≡ given_back (cond a (refusal (cond b (Reading (narrow ends status) 0 []) (Ended BadFile))) (Err NoRelay)) → reader_of r₁ ≡ Ended BadFile
        by_tests false t b u z = absurd (omega arith)
        by_tests true t true u z = absurd (omega arith)
        by_tests true t false u z = ap reader_of (c.reader ∙ rw t) ∙ opened_reads ends status ∙ rw u

    reading : EventsRead s r p out (256 * i + 12) s₁ r₁ out₁ → reader_of r₁ ≡ Ended (OtherNumber i)
    reading c = by_test (both_lent s r) refl c.given
      where
        by_outcome : both_lent s r ≡ true → (o : Outcome) → piece_outcome r p ≡ o → 256 * i + 12 ≡ given_back (answer_by o s out) → reader_of r₁ ≡ Ended (OtherNumber i)
        by_outcome t (Stopped e) u z =
            ap reader_of (c.reader ∙ rw t) ∙ (read_left_lem r p (lent_reader s r t)).0 ∙ stopped_next (reader_of r) p e u ∙ ap Ended (by_12 e i z)
        by_outcome t More u z = absurd (omega arith)
        by_outcome t (Whole sh g) u z =
            let f = frame_in sh.ends g in
            absurd (not_12 s f out _ i ((feed_answers s f out _ _ _ (record { given = refl; state = refl; buffer = refl }) _).0 refl) (sym z))

        by_test : (b : Bool) → both_lent s r ≡ b → 256 * i + 12 ≡ given_back (cond b (answer_by (piece_outcome r p) s out) (Err NoRelay)) → reader_of r₁ ≡ Ended (OtherNumber i)
        by_test true t z = by_outcome t (piece_outcome r p) refl z
        by_test false t z = absurd (omega arith)

    ending : EventsEnded r (256 * i + 11) r₁ → reader_of r₁ ≡ Ended (InsideRecord i)
    ending c = by_test (is_reader r) refl c.given
      where
        by_test : (b : Bool) → is_reader r ≡ b → 256 * i + 11 ≡ given_back (cond b (end_answer (reader_of r)) (Err NoRelay)) → reader_of r₁ ≡ Ended (InsideRecord i)
        by_test true t z = ap reader_of (c.reader ∙ rw t) ∙ end_reads r (eqb-true (length r) reader_length t) ∙ by_11 (end_next (reader_of r)) i z
        by_test false t z = absurd (omega arith)

-- its slice is no reading
is_ended : (r : List ℕ) (e : Ending) → reader_of r ≡ Ended e → is_reading r ≡ false
is_ended r e u = else_false (is_reading r) (λ y. let other = sym (held_is r y) ∙ u in let z : ◌≡◌ {A = ℕ} 0 1 = cc in omega arith)

pub same_refusal : SameRefusal
same_refusal s r p out e n s₁ r₁ out₁ l m u =
    let t = both_lent_lem s r l m in
    let y = is_ended r e u in
    let q = eq-eqb (length r) reader_length m in (
      λ c. (c.given ∙ rw (t, u), c.state ∙ rw (t, u), c.reader ∙ rw (t, y), c.buffer ∙ rw (t, u)),
      λ c. (c.given ∙ rw (q, u), c.reader ∙ rw (q, y)),
    )

pub feed_does_not_end : FeedDoesNotEnd
feed_does_not_end s r p out f n s₁ r₁ out₁ c e = on (handed_is s r p f e)
  where
    on : Handed s r p f → 0 < wanted_in r₁
    on (whole l m sh g u same) =
        let k = read_shows r p sh g m u in
        let h = held_is r k.reading in
        let left : r₁ ≡ read_left r p = c.reader ∙ rw (both_lent_lem s r l m) in
        let next : read_next (reader_of r) p ≡ Reading (shape_in r) (suc (index_in r)) [] = let w = rw h at u in rw (h, w) in
        let wants : wanted_in r₁ ≡ wanted (Reading (shape_in r) (suc (index_in r)) []) =
        ap wanted_in left ∙ rw (eq-eqb (length (read_left r p)) reader_length (read_left_lem r p m).1, (read_left_lem r p m).0, next) in
        omega (arith, wants, some_length (shape_in r))

pub zero_means : ZeroMeans
zero_means s r p out s₁ r₁ out₁ c = by_test (both_lent s r) refl (piece_outcome r p) refl c.given
  where
    some_number : (e : Ending) → 0 ≡ given_back (answer_of e) → ⊥
    some_number BadFile z = omega arith
    some_number (OtherNumber i) z = omega arith
    some_number (InsideRecord i) z = omega arith

    by_test :
        (b : Bool) → both_lent s r ≡ b → (o : Outcome) → piece_outcome r p ≡ o → 0 ≡ given_back (cond b (answer_by o s out) (Err NoRelay))
        → (length p < wanted_in r → handed s r p ≡ []) × (wanted_in r ≤ length p → (f : List ℕ) × (handed s r p ≡ f ∷ []))
    by_test false t o u z = absurd (omega arith)
    by_test true t (Stopped e) u z = absurd (some_number e z)
    by_test true t More u z =
        let m = lent_reader s r t in
        let same : wanted_in r ≡ wanted (reader_of r) = rw (eq-eqb (length r) reader_length m) in
        (λ few. rw (t, u), λ all. absurd ((caller_knows (reader_of r) p (slice_fits r m)).enough (going (is_reading r) refl m) (omega (arith, same, all)) u))
      where
        going : (b : Bool) → is_reading r ≡ b → length r ≡ reader_length → 0 < wanted (reader_of r)
        going true y m = rw (held_is r y) (always_wants (shape_in r) (index_in r) (hand_in r) (rw (held_is r y) at (slice_fits r m)))
        going false y m = let other = rw (ended_is r y) at u in let z : ◌≡◌ {A = ℕ} 0 1 = cc in absurd (omega arith)
    by_test true t (Whole sh g) u z =
        let m = lent_reader s r t in
        let same : wanted_in r ≡ wanted (reader_of r) = rw (eq-eqb (length r) reader_length m) in
        (λ few. absurd ((caller_knows (reader_of r) p (slice_fits r m)).fewer (omega (arith, same, few)) sh g u), λ all. (frame_in sh.ends g, rw (t, u)))

pub refused_read : RefusedRead
refused_read s r p out n s₁ r₁ out₁ c not-0 = by_hands (hands s r p out)
  where
    by_hands : Hands s r p out → out₁ ≡ out
    by_hands (nothing e t o) = c.buffer ∙ o
    by_hands (a_frame f e a t o) =
        refused_feed s f out n s₁ out₁ (record { given = c.given ∙ ap given_back a; state = c.state ∙ t; buffer = c.buffer ∙ o }) not-0

pub no_reader_no_change : NoReaderNoChange
no_reader_no_change s r p out ends status n s₁ r₁ out₁ = (
  reading,
  λ l c. let t = ne_eqb (length r) reader_length l in (c.given ∙ rw t, c.reader ∙ rw t),
  λ l c. let t = ne_eqb (length r) reader_length l in (c.given ∙ rw t, c.reader ∙ rw t),
  λ l. let t = ne_eqb (length r) reader_length l in rw t,
)
  where
    not_lent : (length s ≡ state_length → ⊥) ⊎ (length r ≡ reader_length → ⊥) → both_lent s r ≡ false
    not_lent (inl l) = rw (ne_eqb (length s) state_length l)
    not_lent (inr l) = by_test (is_relay s)
      where
        by_test : (b : Bool) → (b && is_reader r) ≡ false
        by_test true = ne_eqb (length r) reader_length l
        by_test false = refl

    reading : (length s ≡ state_length → ⊥) ⊎ (length r ≡ reader_length → ⊥) → EventsRead s r p out n s₁ r₁ out₁ → (n ≡ 17) × (s₁ ≡ s) × (r₁ ≡ r) × (out₁ ≡ out)
    reading l c = let t = not_lent l in (c.given ∙ rw t, c.state ∙ rw t, c.reader ∙ rw t, c.buffer ∙ rw t)
