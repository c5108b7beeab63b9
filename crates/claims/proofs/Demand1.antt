-- Demand 1: a history of calls is a log of entries that leads to the relay's pair of records, so the two-entry rule's own theorem applies;
-- and every list of calls is a history.
use Prim.Native.Nat.{ℕ}
use mathlib.Core.Path.{◌≡◌, refl, sym, ap, subst, subst₂, ◌∙◌}
use mathlib.Core.List.{List, [], ◌∷◌}
use mathlib.Core.Bool.{false≢true}
use lib.ListN.{length}
use Rattle.std.specs.Prelude.{Err}
use Rattle.answers.specs.declared.Refusal.TheVariants.{OutOfRange}
use Rattle.answers.specs.Answers.{Answer, given_back, is_done}
use Rattle.settings.specs.Table.{settings_table}
use Rattle.settings.specs.Check.{checked_by}
use Rattle.entry.specs.Pair.{Pair, nothing}
use Rattle.entry.specs.Log.{Entry, propose, confirm, Log, ◌▷◌, Leads, from_fresh, by_propose, by_confirm, SaidTwice}
use Rattle.entry.proofs.History.{in_force_said_twice, said_twice_in_force}
use Rattle.gorsepetal.specs.State.{state_length, settings_of}
use Rattle.gorsepetal.specs.Calls.{verdict, GoodRecord}
use Rattle.claims.specs.Demand1.{Call, proposing, confirming, reading_back, deciding, feeding, reading_events, Logged, fresh_relay, next, after_calls, Demand1, History, fresh, proposed, confirmed, other, OverHistories}
use Rattle.claims.proofs.Relay.{Left, propose_left, confirm_left}
use Rattle.claims.proofs.Unmoved.{feed_leaves_settings, read_leaves_settings}

-- zero bytes are no good record: the table refuses them at 0
pub blank : verdict nothing ≡ Err (OutOfRange 0)
unfolding checked_by settings_table
blank = refl

not_accepted : GoodRecord nothing → ⊥
not_accepted g = false≢true (ap is_done (sym blank ∙ g))

-- where a history leads
record Led (l : Log) (s : List ℕ) : Type 0 where
  relay : length s ≡ state_length
  leads : Leads verdict l (settings_of s)

-- one entry more, of either kind: x makes it of the number given back
one_more : {l : Log} (x : ℕ → Entry) (a : Answer) (p : Pair) (n : ℕ) (after : List ℕ) → Left a p n after → Leads verdict (l ▷ x (given_back a)) p → Led (l ▷ x n) after
one_more {l} x a p n after k d =
    record { relay = k.relay; leads = subst₂ (λ (m : ℕ) (q : Pair). Leads verdict (l ▷ x m) q) (sym k.given) (sym k.pair) d }

led : {l : Log} {s : List ℕ} → History l s → Led l s
led fresh = record { relay = refl; leads = from_fresh }
led (proposed {s = s} {e} {after} {n} h c) =
    one_more (propose e) _ _ n after (propose_left s (led h).relay e n after c) (by_propose (led h).leads e)
led (confirmed {s = s} {e} {after} {n} h c) =
    one_more (confirm e) _ _ n after (confirm_left s (led h).relay e n after c) (by_confirm (led h).leads e)
led (other {l} h r k) = record { relay = r; leads = subst (Leads verdict l) (sym k) (led h).leads }

pub over_histories : OverHistories
over_histories l s r h = (
  λ g. subst (λ (r : List ℕ). SaidTwice r l) g.1 (in_force_said_twice verdict not_accepted (led h).leads (rw g.1 g.2)),
  λ t. let k = said_twice_in_force verdict not_accepted (led h).leads t in ((led h).relay, k.0, k.1),
)

-- every list of calls is a history
history_next : (r : Logged) (c : Call) → History r.log r.state → History (next r c).log (next r c).state
history_next r (proposing e) h = proposed h (record { given = refl; state = refl })
history_next r (confirming e) h = confirmed h (record { given = refl; state = refl })
history_next r (reading_back out) h = h
history_next r (deciding samples out) h = h
history_next r (feeding f out) h =
    let k = feed_leaves_settings r.state f out _ _ _ (led h).relay (record { given = refl; state = refl; buffer = refl }) in other h k.0 k.1
history_next r (reading_events q p out) h =
    let k = read_leaves_settings r.state q p out _ _ _ _ (led h).relay (record { given = refl; state = refl; reader = refl; buffer = refl }) in other h k.0 k.1

history_after : (r : Logged) (cs : List Call) → History r.log r.state → History (after_calls r cs).log (after_calls r cs).state
history_after r [] h = h
history_after r (c ∷ cs) h = history_after (next r c) cs (history_next r c h)

pub history_of : (cs : List Call) → History (after_calls fresh_relay cs).log (after_calls fresh_relay cs).state
history_of cs = history_after fresh_relay cs fresh

pub demand_1 : Demand1
demand_1 cs r = let reached = after_calls fresh_relay cs in over_histories reached.log reached.state r (history_of cs)
