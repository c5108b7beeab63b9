-- What is known of a decision, by decide, by feed or by an event file: a good record was in force, and its decision stands at the front of the buffer.
use Prim.Native.Nat.{ℕ}
use mathlib.Core.Path.{◌≡◌, refl, sym, ap, ◌∙◌}
use mathlib.Core.List.{List, ◌++◌}
use mathlib.Core.Bool.{Bool, true, false, cond, false≢true}
use borrow.Author.Tests.{eqb-true}
use lib.IntN.{ℤ}
use lib.ListN.{length, drop}
use Rattle.std.specs.Prelude.{Err}
use Rattle.answers.specs.Answers.{is_done, if_done}
use Rattle.answers.specs.declared.Refusal.TheVariants.{NoRelay}
use Rattle.answers.proofs.Numbers.{zero_is}
use Rattle.samples.specs.Window.{numbers_of}
use Rattle.decision.specs.Decision.{decision_length, decision}
use Rattle.decision.specs.Decide.{window_answer}
use Rattle.feed.specs.Feed.{keeps, kept_answer}
use Rattle.gorsepetal.specs.State.{state_length, settings_of, window_of}
use Rattle.gorsepetal.specs.Calls.{is_relay, GoodRecord, in_force, ready, fits_bytes, decide_answer, feed_keeps, feed_answer, Decided, Fed}
use Rattle.gorsepetal.proofs.Good.{ready_good}
use Rattle.claims.specs.Decisions.{Decision, by_decide, by_feed, by_events}
use Rattle.claims.proofs.Frames.{read_is_fed}

module _ (s b out after : List ℕ) (c : Decided s b out 0 after) where
  is_done_lem : is_done (decide_answer s (fits_bytes s b) (numbers_of b) out) ≡ true
  is_done_lem = ap is_done (zero_is (decide_answer s (fits_bytes s b) (numbers_of b) out) (sym c.given))

  pub relay : length s ≡ state_length
  relay = by_test (is_relay s) refl is_done_lem
    where
      by_test :
          (a : Bool) → is_relay s ≡ a
          → is_done (if_done (cond a (in_force s) (Err NoRelay)) (window_answer (fits_bytes s b) (numbers_of b) out) (cond a (in_force s) (Err NoRelay))) ≡ true → length s ≡ state_length
      by_test true t e = eqb-true (length s) state_length t
      by_test false t e = absurd (false≢true e)

  pub in_force_lem : GoodRecord (settings_of s).force
  in_force_lem = ready_good s (by_test (is_done (ready s)) refl is_done_lem)
    where
      by_test : (d : Bool) → is_done (ready s) ≡ d → is_done (cond d (window_answer (fits_bytes s b) (numbers_of b) out) (ready s)) ≡ true → d ≡ true
      by_test true t e = refl
      by_test false t e = absurd (false≢true (sym t ∙ e))

  pub at_front : after ≡ decision (settings_of s).force (numbers_of b) ++ drop decision_length out
  at_front = c.buffer ∙ rw is_done_lem

-- the same of a frame that was answered 0
module _ (s f out s₁ d : List ℕ) (c : Fed s f out 0 s₁ d) where
  fed_done : is_done (feed_answer s f out) ≡ true
  fed_done = ap is_done (zero_is (feed_answer s f out) (sym c.given))

  fed_good : GoodRecord (settings_of s).force
  fed_good = ready_good s (first (is_done (ready s)) refl (second (is_done (feed_keeps s f out)) refl fed_done))
    where
      r : List ℕ
      r = (settings_of s).force

      -- an answer that goes on from another, where that is done, is done only there
      second : (b : Bool) → is_done (feed_keeps s f out) ≡ b → is_done (cond b (kept_answer r (window_of s) f) (feed_keeps s f out)) ≡ true → b ≡ true
      second true t e = refl
      second false t e = absurd (false≢true (sym t ∙ e))

      first : (b : Bool) → is_done (ready s) ≡ b → is_done (cond b (keeps r f out) (ready s)) ≡ true → b ≡ true
      first true t e = refl
      first false t e = absurd (false≢true (sym t ∙ e))

pub good : {r : List ℕ} {w : List ℤ} {out d : List ℕ} → Decision r w out d → GoodRecord r
good (by_decide {s} {b} {out} {d} c) = in_force_lem s b out d c
good (by_feed {s} {f} {out} {s₁} {d} c) = fed_good s f out s₁ d c
good (by_events {s} {r} {p} {out} {f} {s₁} {r₁} {d} c e) = fed_good s f out s₁ d (read_is_fed s r p out f 0 s₁ r₁ d c e)

pub front : {r : List ℕ} {w : List ℤ} {out d : List ℕ} → Decision r w out d → d ≡ decision r w ++ drop decision_length out
front (by_decide {s} {b} {out} {d} c) = at_front s b out d c
front (by_feed {s} {f} {out} {s₁} {d} c) = c.buffer ∙ rw (fed_done s f out s₁ d c)
front (by_events {s} {r} {p} {out} {f} {s₁} {r₁} {d} c e) =
    let fed = read_is_fed s r p out f 0 s₁ r₁ d c e in fed.buffer ∙ rw (fed_done s f out s₁ d fed)
