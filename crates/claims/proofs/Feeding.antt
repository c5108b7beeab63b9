-- What the firmware hears: the window in the relay's state is the one that the frames kept since it was empty were fed to, so the 16 frames that
-- are decided on are the newest of them.
use Prim.Native.Nat.{ℕ, zero, suc, ◌+◌, ◌*◌, ◌-◌, ◌≤◌, ◌<◌, min}
use mathlib.Core.Path.{◌≡◌, refl, sym, ap, ap₂, subst, subst₂, ◌∙◌}
use mathlib.Core.List.{List, [], ◌∷◌, ◌++◌, flatten, map}
use mathlib.Core.Bool.{Bool, true, false, cond, false≢true}
use native.Mathlib.Omega.{arith}
use borrow.Author.Tests.{eqb-true, eqb-false}
use lib.Dec.{eqb}
use lib.IntN.{ℤ, pos}
use lib.Seq.{get_or-drop}
use lib.ListN.{length, take, drop, replicate, length-append, length-drop, get_or, get_or-append}
use Rattle.std.specs.Prelude.{Some}
use Rattle.answers.specs.Answers.{given_back}
use Rattle.lent.specs.Bytes.{Every, Byte}
use Rattle.lent.proofs.Every.{every_append, every_drop}
use Rattle.samples.specs.Window.{frames, numbers_of, first_missing}
use Rattle.samples.proofs.Bytes.{held, numbers_append}
use Rattle.samples.proofs.Missing.{first_at, is_first}
use Rattle.decision.specs.Decide.{of_found}
use Rattle.stream.specs.declared.Window.{Window}
use Rattle.stream.specs.Window.{counted, moved_on, none, HasRoom}
use Rattle.stream.specs.Stored.{stored_length, Sound}
use Rattle.stream.specs.History.{after, Frames, newest, Remembers}
use Rattle.stream.proofs.Bytes.{numbers_samples}
use Rattle.stream.proofs.Storing.{none_sound, fresh_none, moved_sound, kept_read}
use Rattle.stream.proofs.Moving.{moved_newest}
use Rattle.stream.proofs.History.{fed, after_more}
use Rattle.feed.specs.Feed.{numbers_of_frame, with_frame, with_kept}
use Rattle.gorsepetal.specs.State.{state_length, fresh_state, window_offset, settings_of, window_of}
use Rattle.gorsepetal.specs.Calls.{confirm_answer, length_in_force, newest_of, feed_answer, feed_state, Fed}
use Rattle.gorsepetal.specs.EventFiles.{handed, read_state}
use Rattle.gorsepetal.proofs.EventCases.{Hands, nothing, a_frame, hands, handed_bytes}
use Rattle.claims.specs.GivenBack.{Keepable}
use Rattle.claims.specs.Frames.{is_kept, IsKept}
use Rattle.claims.specs.Demand1.{Call, proposing, confirming, reading_back, deciding, feeding, reading_events, Logged, fresh_relay, next, after_calls}
use Rattle.claims.specs.Feeding.{frames_fed, frames_with, frames_after, one_after_another, FedBytes, AllBytes, Heard, FirmwareHears, HearsByEvents, HasKept, fresh, proposed, confirmed, refused, kept, not_kept, other, HearsOverHistories, PlaceFalls}
use Rattle.claims.proofs.Parts.{same_window}
use Rattle.claims.proofs.Relay.{propose_left, confirm_left}
use Rattle.claims.proofs.Settings.{refused_confirmation}
use Rattle.claims.proofs.Frames.{keeps_done, few, was_full, early_answer, full_answer, feed_answers, row_4, four, kept_exactly, else_nothing_kept, refused_feed, fed_as_decided, read_is_fed}
use Rattle.claims.proofs.Unmoved.{feed_leaves_settings, entries_leave_window}

-- ---- lists of frames

abbrev pub numbers : List (List ℕ) → List (List ℤ)
numbers fs = map numbers_of fs

-- every frame has m numbers, two bytes each
abbrev pub Whole : ℕ → List (List ℕ) → Type 0
Whole m fs = Every (λ (f : List ℕ). length f ≡ 2 * m) fs

numbers_more : (fs : List (List ℕ)) (f : List ℕ) → numbers (fs ++ (f ∷ [])) ≡ numbers fs ++ (numbers_of f ∷ [])
numbers_more [] f = refl
numbers_more (g ∷ fs) f = ap (λ (l : List (List ℤ)). numbers_of g ∷ l) (numbers_more fs f)

numbers_count : (fs : List (List ℕ)) → length (numbers fs) ≡ length fs
numbers_count [] = refl
numbers_count (f ∷ fs) = ap suc (numbers_count fs)

numbers_without : (d : ℕ) (fs : List (List ℕ)) → drop d (numbers fs) ≡ numbers (drop d fs)
numbers_without zero fs = refl
numbers_without (suc d) [] = refl
numbers_without (suc d) (f ∷ fs) = numbers_without d fs

numbers_whole : (m : ℕ) (fs : List (List ℕ)) → Whole m fs → Frames m (numbers fs)
numbers_whole m [] h = tt
numbers_whole m (f ∷ fs) h = (held m f h.0, numbers_whole m fs h.1)

-- the numbers of frames one after another
flat_numbers : (m : ℕ) (fs : List (List ℕ)) → Whole m fs → numbers_of (flatten fs) ≡ flatten (numbers fs)
unfolding flatten numbers_of
flat_numbers m [] h = refl
flat_numbers m (f ∷ fs) h = numbers_append m f (flatten fs) h.0 ∙ ap (λ (l : List ℤ). numbers_of f ++ l) (flat_numbers m fs h.1)

flat_length : (m : ℕ) (fs : List (List ℕ)) → Whole m fs → length (flatten fs) ≡ 2 * (length fs * m)
unfolding flatten
flat_length m [] h = let none : 0 * m ≡ 0 = omega arith in omega (arith, none)
flat_length m (f ∷ fs) h =
    let times : suc (length fs) * m ≡ m + length fs * m = omega arith in
    length-append f (flatten fs) ∙ omega (arith, h.0, flat_length m fs h.1, times)

-- ---- what the state holds

pub record Holds (fs : List (List ℕ)) (s : List ℕ) : Type 0 where
  pub relay : length s ≡ state_length
  pub whole : Whole (numbers_of_frame (settings_of s).force) fs
  pub sound : Sound (window_of s)
  pub window : window_of s ≡ after frames (numbers_of_frame (settings_of s).force) none (numbers fs)

-- a call that leaves the window and the record in force
stays :
    {fs : List (List ℕ)} {s t : List ℕ} → Holds fs s → length t ≡ state_length → window_of t ≡ window_of s → (settings_of t).force ≡ (settings_of s).force
    → Holds fs t
stays {fs} {s} {t} h l w r =
    record {
      relay = l;
      whole = subst (λ (x : List ℕ). Whole (numbers_of_frame x) fs) (sym r) h.whole;
      sound = subst Sound (sym w) h.sound;
      window = w ∙ h.window ∙ ap (λ (x : List ℕ). after frames (numbers_of_frame x) none (numbers fs)) (sym r);
    }

-- zero bytes are an empty window
empty : (s : List ℕ) → length s ≡ state_length → drop window_offset s ≡ replicate stored_length 0 → Holds [] s
unfolding after
empty s l zeros =
    let none_is : window_of s ≡ none = fresh_none s window_offset (omega arith) (ap (take stored_length) zeros) in
    record { relay = l; whole = tt; sound = rw none_is none_sound; window = none_is }

-- one frame more
module _ (fs : List (List ℕ)) (s f out : List ℕ) (n : ℕ) (s₁ out₁ : List ℕ) (h : Holds fs s) (bytes : Every Byte f) (c : Fed s f out n s₁ out₁) (is-kept : IsKept n) where
  abbrev r : List ℕ
  r = (settings_of s).force

  abbrev m : ℕ
  m = numbers_of_frame r

  keep : Keepable s f out
  keep = (kept_exactly s f out n s₁ out₁ c).0 is-kept

  with_frame_lem : with_frame r (window_of s) f ≡ after frames m none (numbers (fs ++ (f ∷ [])))
  with_frame_lem =
      ap (λ (w : Window). moved_on frames m w (numbers_of f)) h.window ∙ sym (after_more frames m none (numbers fs) (numbers_of f))
      ∙ ap (after frames m none) (sym (numbers_more fs f))

  all_whole : Whole m (fs ++ (f ∷ []))
  all_whole = every_append (λ (f : List ℕ). length f ≡ 2 * m) fs (f ∷ []) h.whole (keep.whole, tt)

  abbrev fits : HasRoom frames m
  fits = (omega arith, omega (arith, few s f out keep))

  -- the window that is read from the state has moved on
  moved : window_of s₁ ≡ with_frame r (window_of s) f
  moved =
      let l = h.relay in
      let state : s₁ ≡ with_kept r window_offset s f = c.state ∙ rw (keeps_done s f out keep) in
      ap window_of state ∙ kept_read s window_offset frames m (numbers_of f) h.sound (omega arith) fits (held m f keep.whole) (numbers_samples f bytes)

  one_more : Holds (fs ++ (f ∷ [])) s₁
  one_more =
      let l = h.relay in
      let rest = feed_leaves_settings s f out n s₁ out₁ l c in
      let force : (settings_of s₁).force ≡ r = ap (λ p. p.force) rest.1 in
      record {
        relay = rest.0;
        whole = subst (λ (x : List ℕ). Whole (numbers_of_frame x) (fs ++ (f ∷ []))) (sym force) all_whole;
        sound = subst Sound (sym moved) (moved_sound frames m (window_of s) (numbers_of f) fits (held m f keep.whole) (numbers_samples f bytes) h.sound);
        window = moved ∙ with_frame_lem ∙ ap (λ (x : List ℕ). after frames (numbers_of_frame x) none (numbers (fs ++ (f ∷ [])))) (sym force);
      }

  -- what it is answered
  remembers : Remembers frames m (numbers (fs ++ (f ∷ []))) (after frames m none (numbers (fs ++ (f ∷ []))))
  remembers = fed frames m none (numbers (fs ++ (f ∷ []))) (omega (arith, few s f out keep)) (numbers_whole m (fs ++ (f ∷ [])) all_whole) refl

  counts : (with_frame r (window_of s) f).count ≡ min frames (length (fs ++ (f ∷ [])))
  counts = ap (λ (w : Window). w.count) with_frame_lem ∙ remembers.counts ∙ ap (min frames) (numbers_count (fs ++ (f ∷ [])))

  abbrev gs : List (List ℕ)
  gs = newest frames (fs ++ (f ∷ []))

  newest_whole : Whole m gs
  newest_whole = every_drop (λ (f : List ℕ). length f ≡ 2 * m) (length (fs ++ (f ∷ [])) - frames) (fs ++ (f ∷ [])) all_whole

  pub long : frames ≤ length (fs ++ (f ∷ [])) → length (one_after_another (fs ++ (f ∷ []))) ≡ 2 * length_in_force s
  long many =
      let count : length gs ≡ frames = length-drop (length (fs ++ (f ∷ [])) - frames) (fs ++ (f ∷ [])) ∙ omega arith in
      flat_length m gs newest_whole ∙ ap (λ (k : ℕ). 2 * (k * m)) count

  same : frames ≤ length (fs ++ (f ∷ [])) → numbers_of (one_after_another (fs ++ (f ∷ []))) ≡ newest_of s f
  same many =
      let d : ℕ = length (fs ++ (f ∷ [])) - frames in
      flat_numbers m gs newest_whole
      ∙ ap flatten (sym (numbers_without d (fs ++ (f ∷ []))) ∙ ap (λ (k : ℕ). drop (k - frames) (numbers (fs ++ (f ∷ [])))) (sym (numbers_count (fs ++ (f ∷ [])))))
      ∙ sym (remembers.all (omega (arith, numbers_count (fs ++ (f ∷ [])))))
      ∙ ap (λ (w : Window). take (frames * m) w.numbers) (sym with_frame_lem)

  pub heard : Heard (fs ++ (f ∷ [])) s out n out₁
  heard =
      record {
        early = λ fewer.
            let answer = early_answer s f out keep (omega (arith, counts)) in
            let ten : n ≡ 10 = c.given ∙ ap given_back answer in
            (ten, refused_feed s f out n s₁ out₁ c (λ zero. absurd (omega arith)));
        decided = λ many. fed_as_decided s f out n s₁ out₁ c is-kept (omega (arith, counts)) (one_after_another (fs ++ (f ∷ []))) (same many) (long many);
      }

-- ---- over histories

pub holds : {fs : List (List ℕ)} {s : List ℕ} → HasKept fs s → Holds fs s
holds fresh = empty fresh_state refl refl
holds (proposed {s = s} {e = e} {after = t} {n = n} h c) =
    let l = (holds h).relay in
    let k = propose_left s l e n t c in
    stays (holds h) k.relay (same_window t s ((entries_leave_window s e n t l).0 c)) (ap (λ p. p.force) k.pair)
holds (confirmed {s = s} {e = e} {after = t} h c) =
    let l = (holds h).relay in
    empty t (confirm_left s l e 0 t c).relay ((entries_leave_window s e 0 t l).2 c)
holds (refused {s = s} {e = e} {after = t} {n = n} h c not-0) =
    let l = (holds h).relay in
    stays (holds h) (confirm_left s l e n t c).relay (same_window t s ((entries_leave_window s e n t l).1 c not-0)) (refused_confirmation s e n t l c not-0).0
holds (kept {fs} {s} {f} {out} {after = t} {out₁ = out₁} {n = n} h bytes c is-kept) = one_more fs s f out n t out₁ (holds h) bytes c is-kept
holds (not_kept {fs} {s} {f} {out} {after = t} {out₁ = out₁} {n = n} h c left) = subst (Holds fs) (sym (else_nothing_kept s f out n t out₁ c left)) (holds h)
holds (other h l w force) = stays (holds h) l w force

pub hears_over_histories : HearsOverHistories
hears_over_histories fs s f out n s₁ out₁ h bytes c is-kept = heard fs s f out n s₁ out₁ (holds h) bytes c is-kept

-- ---- a missing sample, one frame later

-- the list moved on, and the first missing number of it
missing_later :
    (m : ℕ) (xs ys : List ℤ) (k : ℕ) → m ≤ k → first_missing xs ≡ Some k → first_missing (drop m (xs ++ ys)) ≡ Some (k - m)
missing_later m xs ys k far e =
    let first = first_at xs k e in
    let at : (i : ℕ) → i ≤ k - m → get_or (drop m (xs ++ ys)) i (pos 0) ≡ get_or xs (m + i) (pos 0) =
    λ i low. get_or-drop m (xs ++ ys) i (pos 0) ∙ get_or-append xs ys (pos 0) (m + i) (omega (arith, first.0)) in
    let size : k - m < length (drop m (xs ++ ys)) = simp (length-drop, length-append) (omega (arith, first.0)) in
    let back : m + (k - m) ≡ k = omega arith in
    sym (is_first (drop m (xs ++ ys)) (Some (k - m)) (
      size,
      at (k - m) (omega arith) ∙ ap (λ (i : ℕ). get_or xs i (pos 0)) back ∙ first.1,
      λ i below there. first.2 (m + i) (omega arith) (sym (at i (omega arith)) ∙ there),
    ))

pub place_falls : PlaceFalls
place_falls fs s f out k s₁ out₁ g room n s₂ room₁ h bytes c far c₁ is-kept₁ =
    let is-kept : IsKept (256 * k + 4) = rw (four k) in
    let m : ℕ = numbers_of_frame (settings_of s).force in
    let found = row_4 s f out _ k ((feed_answers s f out _ s₁ out₁ c _).0 refl) refl in
    let now = moved fs s f out _ s₁ out₁ (holds h) bytes c is-kept in
    let keep₁ = (kept_exactly s₁ g room n s₂ room₁ c₁).0 is-kept₁ in
    let whole = held (numbers_of_frame (settings_of s₁).force) g keep₁.whole in
    let force : numbers_of_frame (settings_of s₁).force ≡ m = ap (λ p. numbers_of_frame p.force) (feed_leaves_settings s f out _ s₁ out₁ (holds h).relay c).1 in
    let later : newest_of s₁ g ≡ drop m (newest_of s f ++ numbers_of g) =
    moved_newest frames (numbers_of_frame (settings_of s₁).force) (window_of s₁).numbers (numbers_of g) (omega (arith, was_full s₁ g room keep₁, few s₁ g room keep₁)) whole
    ∙ ap₂ (λ (i : ℕ) (w : Window). drop i (take (frames * i) w.numbers ++ numbers_of g)) force now in
    let counts : (window_of s₁).count ≡ counted frames (window_of s).count = ap (λ (w : Window). w.count) now in
    let answer = full_answer s₁ g room keep₁ (omega (arith, counts, found.0)) in
    c₁.given ∙ ap given_back (answer ∙ ap of_found (ap first_missing later ∙ missing_later m (newest_of s f) (numbers_of g) k far found.1))

-- every list of calls is one
kept_next : (p : Logged) (fs : List (List ℕ)) (c : Call) → FedBytes c → HasKept fs p.state → HasKept (frames_with p.state fs c) (next p c).state
kept_next p fs (proposing e) b h = proposed {e = e} h (record { given = refl; state = refl })
kept_next p fs (confirming e) b h = by_test (eqb (given_back (confirm_answer p.state e)) 0) refl
  where
    by_test : (x : Bool) → eqb (given_back (confirm_answer p.state e)) 0 ≡ x → HasKept (cond x [] fs) (next p (confirming e)).state
    by_test true t = confirmed {e = e} h (record { given = sym (eqb-true _ 0 t); state = refl })
    by_test false t = refused {e = e} h (record { given = refl; state = refl }) (eqb-false _ 0 t)
kept_next p fs (reading_back out) b h = h
kept_next p fs (deciding samples out) b h = h
kept_next p fs (feeding f out) b h = by_test (is_kept (given_back (feed_answer p.state f out))) refl
  where
    by_test : (x : Bool) → is_kept (given_back (feed_answer p.state f out)) ≡ x → HasKept (cond x (fs ++ (f ∷ [])) fs) (next p (feeding f out)).state
    by_test true t = kept {f = f} {out = out} h b (record { given = refl; state = refl; buffer = refl }) t
    by_test false t = not_kept {f = f} {out = out} h (record { given = refl; state = refl; buffer = refl }) (λ k. false≢true (sym t ∙ k))
kept_next p fs (reading_events r q out) b h = by_hands (hands p.state r q out)
  where
    by_test : (f : List ℕ) → Every Byte f → (x : Bool) → is_kept (given_back (feed_answer p.state f out)) ≡ x → HasKept (cond x (fs ++ (f ∷ [])) fs) (feed_state p.state f out)
    by_test f bytes true t = kept {f = f} {out = out} h bytes (record { given = refl; state = refl; buffer = refl }) t
    by_test f bytes false t = not_kept {f = f} {out = out} h (record { given = refl; state = refl; buffer = refl }) (λ k. false≢true (sym t ∙ k))

    by_hands : Hands p.state r q out → HasKept (frames_fed p.state out fs (handed p.state r q)) (read_state p.state r q out)
    by_hands (nothing e t o) = subst₂ (λ (gs : List (List ℕ)) (s : List ℕ). HasKept (frames_fed p.state out fs gs) s) (sym e) (sym t) h
    by_hands (a_frame f e a t o) =
        subst₂ (λ (gs : List (List ℕ)) (s : List ℕ). HasKept (frames_fed p.state out fs gs) s) (sym e) (sym t)
        (by_test f (handed_bytes p.state r q f b.0 b.1 e) (is_kept (given_back (feed_answer p.state f out))) refl)

kept_after : (p : Logged) (fs : List (List ℕ)) (cs : List Call) → AllBytes cs → HasKept fs p.state → HasKept (frames_after p fs cs) (after_calls p cs).state
kept_after p fs [] b h = h
kept_after p fs (c ∷ cs) b h = kept_after (next p c) (frames_with p.state fs c) cs b.1 (kept_next p fs c b.0 h)

pub has_kept : (cs : List Call) → AllBytes cs → HasKept (frames_after fresh_relay [] cs) (after_calls fresh_relay cs).state
has_kept cs b = kept_after fresh_relay [] cs b fresh

pub firmware_hears : FirmwareHears
firmware_hears cs f out n s₁ out₁ b bytes c is-kept =
    hears_over_histories (frames_after fresh_relay [] cs) (after_calls fresh_relay cs).state f out n s₁ out₁ (has_kept cs b) bytes c is-kept

pub hears_by_events : HearsByEvents
hears_by_events cs r p out f n s₁ r₁ out₁ b hr hp c e is-kept =
    let s = (after_calls fresh_relay cs).state in
    firmware_hears cs f out n s₁ out₁ b (handed_bytes s r p f hr hp e) (read_is_fed s r p out f n s₁ r₁ out₁ c e) is-kept
