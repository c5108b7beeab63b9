-- Demand 1 (document 01, "Settings record"): a setting is in force exactly when it was said twice, and all 32 bytes of it.
-- Over every list of calls that lend one relay, fresh at the start. A call answered 17 lent no relay, so it is no part of such a list.
use Rattle.std.specs.Prelude.{ℕ, ◌≡◌, List, [], ◌∷◌, length}
use Rattle.whole.specs.Exactly.{Exactly}
use Rattle.answers.specs.Answers.{given_back}
use Rattle.entry.specs.Log.{propose, confirm, Log, start, ◌▷◌, SaidTwice}
use Rattle.gorsepetal.specs.State.{fresh_state, settings_of, state_length}
use Rattle.gorsepetal.specs.Calls.{GoodRecord, propose_answer, propose_state, confirm_answer, confirm_state, feed_state, Proposed, Confirmed}
use Rattle.gorsepetal.specs.EventFiles.{read_state}

-- A call that lends the relay, with the bytes that are lent beside it. (The other calls for event files lend none.)
pub data Call : Type 0 where
  proposing : List ℕ → Call
  confirming : List ℕ → Call
  reading_back : (out : List ℕ) → Call
  deciding : (samples out : List ℕ) → Call
  feeding : (frame out : List ℕ) → Call
  reading_events : (reader piece out : List ℕ) → Call

-- Where calls lead: the log of the entries, each with the number given back, and the relay's state.
pub record Logged : Type 0 where
  pub log : Log
  pub state : List ℕ

abbrev pub fresh_relay : Logged
fresh_relay = record { log = start; state = fresh_state }

abbrev pub next : Logged → Call → Logged
next r (proposing e) =
    record { log = r.log ▷ propose e (given_back (propose_answer r.state e)); state = propose_state r.state e }
next r (confirming e) =
    record { log = r.log ▷ confirm e (given_back (confirm_answer r.state e)); state = confirm_state r.state e }
next r (reading_back out) = r
next r (deciding samples out) = r
next r (feeding frame out) = record { log = r.log; state = feed_state r.state frame out }
next r (reading_events reader piece out) = record { log = r.log; state = read_state r.state reader piece out }

-- All calls of a list, the first one first.
abbrev pub after_calls : Logged → List Call → Logged
after_calls r [] = r
after_calls r (c ∷ cs) = after_calls (next r c) cs

-- A record is in force in a relay: it stands there, and it is a good one.
abbrev pub IsInForce : List ℕ → List ℕ → Type 0
IsInForce r s = (length s ≡ state_length) × ((settings_of s).force ≡ r) × GoodRecord r

-- After any list of calls, a record is in force exactly when it was proposed and in the next entry confirmed with the same 32 bytes, both
-- answered 0, and no later confirmation was answered 0.
abbrev pub Demand1 : Type 0
Demand1 = (cs : List Call) (r : List ℕ) → Exactly (IsInForce r (after_calls fresh_relay cs).state) (SaidTwice r (after_calls fresh_relay cs).log)

-- The same by the calls' claims alone, whatever other calls there are. A history is a log and a state that calls lead to.
pub data History : Log → List ℕ → Type 0 where
  fresh : History start fresh_state
  proposed : {l : Log} {s e after : List ℕ} {n : ℕ} → History l s → Proposed s e n after → History (l ▷ propose e n) after
  confirmed : {l : Log} {s e after : List ℕ} {n : ℕ} → History l s → Confirmed s e n after → History (l ▷ confirm e n) after
  -- a call that is no entry to the settings: read-back and decide, which by their contracts leave the state as it was, feed (`FeedLeavesSettings`),
  -- a piece of an event file (`ReadLeavesSettings`), and any that changes only other parts of it
  other : {l : Log} {s after : List ℕ} → History l s → length after ≡ state_length → settings_of after ≡ settings_of s → History l after

abbrev pub OverHistories : Type 0
OverHistories = (l : Log) (s r : List ℕ) → History l s → Exactly (IsInForce r s) (SaidTwice r l)
