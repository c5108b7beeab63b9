-- A decide answered 0, or a read-back, found a good record in force, and demand 1 says how that came to be.
use mathlib.Core.Path.{◌≡◌, refl, sym, ap, subst, ◌∙◌}
use mathlib.Core.List.{List, [], ◌∷◌, ◌++◌}
use mathlib.Core.Bool.{Bool, true, false}
use Prim.Native.Nat.{ℕ, ◌*◌}
use native.Mathlib.Omega.{arith}
use borrow.Author.Tests.{leb-true, leb-false}
use lib.Dec.{leb}
use lib.ListN.{length, take, drop}
use Rattle.samples.specs.Window.{frames, window_length, numbers_of}
use Rattle.settings.specs.Fields.{ends}
use Rattle.decision.specs.Decision.{decision_length, decision}
use Rattle.gorsepetal.specs.State.{settings_of}
use Rattle.gorsepetal.specs.Calls.{ReadBack, Decided}
use Rattle.claims.specs.Demand1.{fresh_relay, after_calls}
use Rattle.claims.specs.WhichRule.{ByARecordSaidTwice, WhichRule, WhichRuleOverHistories, WhichRuleByFeeding, WhichRuleByEvents, WhichRecord, WhichRecordOverHistories, SaidTwiceReadsBack, SaidTwiceDecides, SaidTwiceDecidesByFeeding}
use Rattle.claims.proofs.Demand1.{over_histories, history_of}
use Rattle.claims.specs.Feeding.{frames_after, one_after_another}
use Rattle.claims.specs.GivenBack.{Keepable}
use Rattle.claims.specs.GivenBack as row
use Rattle.gorsepetal.proofs.EventCases.{handed_bytes}
use Rattle.claims.proofs.Frames.{kept_exactly, read_is_fed}
use Rattle.claims.proofs.Feeding.{long, holds, has_kept, firmware_hears}
use Rattle.claims.proofs.Decisions.{relay, in_force_lem, at_front}
use Rattle.claims.proofs.GivenBack.{read_back_answers, decide_answers}
use Rattle.claims.proofs.Settings.{read_0, reads_what_is_in_force}

pub which_rule_over_histories : WhichRuleOverHistories
which_rule_over_histories l s b out after h c =
    record {
      rule = (settings_of s).force;
      said_twice = (over_histories l s (settings_of s).force h).0 (relay s b out after c, refl, in_force_lem s b out after c);
      decided = ap (take decision_length) (at_front s b out after c);
      kept = ap (drop decision_length) (at_front s b out after c);
    }

pub which_rule : WhichRule
which_rule cs b out after c =
    let r = after_calls fresh_relay cs in which_rule_over_histories r.log r.state b out after (history_of cs) c

pub which_record_over_histories : WhichRecordOverHistories
which_record_over_histories l s out after h b =
    let r = reads_what_is_in_force s out after b in
    let row = read_0 s out 0 ((read_back_answers s out 0 after b 0).0 refl) refl in
    record { said_twice = (over_histories l s _ h).0 (row.0, sym r.0, rw r.0 row.1); kept = r.1 }

pub which_record : WhichRecord
which_record cs out after b =
    let r = after_calls fresh_relay cs in which_record_over_histories r.log r.state out after (history_of cs) b

-- ---- and the other way

pub said_twice_reads_back : SaidTwiceReadsBack
said_twice_reads_back l s r out n after h said b room =
    let f = (over_histories l s r h).1 said in
    let zero = (read_back_answers s out n after b 0).1 (row.ReadBackRow.done f.0 (rw f.1 f.2) room) in
    let k = reads_what_is_in_force s out after (subst (λ (m : ℕ). ReadBack s out m after) zero b) in
    (zero, k.0 ∙ f.1)

pub said_twice_decides : SaidTwiceDecides
said_twice_decides l s r b out n after h said c fits room none =
    let f = (over_histories l s r h).1 said in
    let force = f.1 in
    let zero = (decide_answers s b out n after c 0).1 (row.DecideRow.done f.0 (rw force f.2) (rw force fits) room (rw force none)) in
    let k = at_front s b out after (subst (λ (m : ℕ). Decided s b out m after) zero c) in
    (zero, ap (take decision_length) k ∙ ap (λ r. decision r (numbers_of b)) force)

-- ---- by feeding: what decide gives for the newest 16 frames is what was given

pub which_rule_by_feeding : WhichRuleByFeeding
which_rule_by_feeding cs f out s₁ after all bytes c = by_test (leb frames (length fs)) refl
  where
    fs : List (List ℕ)
    fs = frames_after fresh_relay [] cs ++ (f ∷ [])

    by_test : (x : Bool) → leb frames (length fs) ≡ x → ByARecordSaidTwice (after_calls fresh_relay cs).log (one_after_another fs) out after
    by_test true t = which_rule cs (one_after_another fs) out after ((firmware_hears cs f out 0 s₁ after all bytes c refl).decided (leb-true frames (length fs) t))
    by_test false t = let ten = ((firmware_hears cs f out 0 s₁ after all bytes c refl).early (leb-false frames (length fs) t)).0 in absurd (omega arith)

pub which_rule_by_events : WhichRuleByEvents
which_rule_by_events cs r p out f s₁ r₁ after all hr hp c e =
    let s = (after_calls fresh_relay cs).state in
    which_rule_by_feeding cs f out s₁ after all (handed_bytes s r p f hr hp e) (read_is_fed s r p out f 0 s₁ r₁ after c e)

pub said_twice_decides_by_feeding : SaidTwiceDecidesByFeeding
said_twice_decides_by_feeding cs r f out n s₁ after all bytes said c fits room many none =
    let reached = after_calls fresh_relay cs in
    let s = reached.state in
    let kept = frames_after fresh_relay [] cs in
    let fs = kept ++ (f ∷ []) in
    let h = (over_histories reached.log s r (history_of cs)).1 said in
    let force = h.1 in
    let k : Keepable s f out = record { relay = h.0; good = rw force h.2; whole = rw force fits; room = room } in
    let is-kept = (kept_exactly s f out n s₁ after c).1 k in
    let decided = (firmware_hears cs f out n s₁ after all bytes c is-kept).decided many in
    let size : length (one_after_another fs) ≡ 2 * window_length (ends r) = rw force at (long kept s f out n s₁ after (holds (has_kept cs all)) bytes c is-kept many) in
    said_twice_decides reached.log s r (one_after_another fs) out n after (history_of cs) said decided size room none
