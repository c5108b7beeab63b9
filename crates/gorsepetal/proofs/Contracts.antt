-- What a function's contract says is the claim that a reader reads: it asks nothing of its caller, and it promises exactly its claim, and that
-- what was lent to be read alone holds what it held. In the code a contract could be weakened and every proof still hold; here it could not.
use Prim.Native.Nat.{ℕ, ◌*◌, ◌≤◌}
use mathlib.Core.Path.{◌≡◌}
use mathlib.Core.List.{List}
use contract.Lifetimes.{Lfts}
use denote.Bor.{Bor}
use denote.MutBor.{MutBor}
use lib.IntN.{ℤ}
use Rattle.answers.specs.Answers.{Answer}
use Rattle.samples.specs.Window.{window_length}
use Rattle.gorsepetal.specs.Calls.{window_bytes, Unchanged, Proposed, Confirmed, ReadBack, DecidedNumbers, Decided, Fed}
use Rattle.gorsepetal.proofs.gorsepetal_propose.Reads as propose
use Rattle.gorsepetal.proofs.gorsepetal_confirm.Reads as confirm
use Rattle.gorsepetal.proofs.gorsepetal_read_back.Reads as read_back
use Rattle.gorsepetal.proofs.gorsepetal_decide.Reads as decide
use Rattle.gorsepetal.proofs.gorsepetal_feed.Reads as feed
use Rattle.gorsepetal.proofs.decide.Reads as decide_numbers
use Rattle.gorsepetal.proofs.window_bytes.Reads as window_bytes_call

-- A contract that asks nothing, and promises a claim and no more
pub record Promises (asked promised claim : Type 0) : Type 0 where
  pub asks_nothing : asked
  pub promise : promised → claim
  pub no_more : claim → promised

pub the_claim : {claim : Type 0} → Promises (Unit {0}) claim claim
the_claim = record { asks_nothing = tt; promise = λ p. p; no_more = λ p. p }

-- ---- what C calls, by way of `gorsepetal_c`: of the lent slices at the call and after it, and of the number given back

abbrev pub ProposeContract : Type 0
ProposeContract =
    (κs : Lfts 2) (s s' : MutBor (List ℕ)) (e e' : Bor (List ℕ)) (n : ℕ)
    → Promises (propose.Pre κs (s, (e, tt))) (propose.Post κs (s, (e, tt)) n (s', (e', tt))) (Proposed s.now e.now n s'.now × Unchanged e.now e'.now)

pub propose_contract : ProposeContract
propose_contract κs s s' e e' n = the_claim

abbrev pub ConfirmContract : Type 0
ConfirmContract =
    (κs : Lfts 2) (s s' : MutBor (List ℕ)) (e e' : Bor (List ℕ)) (n : ℕ)
    → Promises (confirm.Pre κs (s, (e, tt))) (confirm.Post κs (s, (e, tt)) n (s', (e', tt))) (Confirmed s.now e.now n s'.now × Unchanged e.now e'.now)

pub confirm_contract : ConfirmContract
confirm_contract κs s s' e e' n = the_claim

abbrev pub ReadBackContract : Type 0
ReadBackContract =
    (κs : Lfts 2) (s s' : Bor (List ℕ)) (out out' : MutBor (List ℕ)) (n : ℕ)
    → Promises (read_back.Pre κs (s, (out, tt))) (read_back.Post κs (s, (out, tt)) n (s', (out', tt))) (ReadBack s.now out.now n out'.now × Unchanged s.now s'.now)

pub read_back_contract : ReadBackContract
read_back_contract κs s s' out out' n = the_claim

abbrev pub DecideContract : Type 0
DecideContract =
    (κs : Lfts 3) (s b s' b' : Bor (List ℕ)) (out out' : MutBor (List ℕ)) (n : ℕ)
    → Promises (decide.Pre κs (s, (b, (out, tt)))) (decide.Post κs (s, (b, (out, tt))) n (s', (b', (out', tt)))) (Decided s.now b.now out.now n out'.now × Unchanged s.now s'.now × Unchanged b.now b'.now)

pub decide_contract : DecideContract
decide_contract κs s b s' b' out out' n = the_claim

abbrev pub FeedContract : Type 0
FeedContract =
    (κs : Lfts 3) (s s' : MutBor (List ℕ)) (f f' : Bor (List ℕ)) (out out' : MutBor (List ℕ)) (n : ℕ)
    → Promises (feed.Pre κs (s, (f, (out, tt)))) (feed.Post κs (s, (f, (out, tt))) n (s', (f', (out', tt)))) (Fed s.now f.now out.now n s'.now out'.now × Unchanged f.now f'.now)

pub feed_contract : FeedContract
feed_contract κs s s' f f' out out' n = the_claim

-- ---- and inside: decide on a window of numbers, and how many bytes a window has, which the window program asks for

abbrev pub DecideNumbersContract : Type 0
DecideNumbersContract =
    (κs : Lfts 3) (s s' : Bor (List ℕ)) (w w' : Bor (List ℤ)) (out out' : MutBor (List ℕ)) (a : Answer)
    → Promises (decide_numbers.Pre κs (s, (w, (out, tt)))) (decide_numbers.Post κs (s, (w, (out, tt))) a (s', (w', (out', tt)))) (DecidedNumbers s.now w.now out.now a out'.now × Unchanged s.now s'.now × Unchanged w.now w'.now)

pub decide_numbers_contract : DecideNumbersContract
decide_numbers_contract κs s s' w w' out out' a = the_claim

abbrev pub WindowBytesContract : Type 0
WindowBytesContract =
    (κs : Lfts 1) (s s' : Bor (List ℕ)) (n : ℕ)
    → Promises (window_bytes_call.Pre κs (s, tt)) (window_bytes_call.Post κs (s, tt) n (s', tt)) ((n ≡ window_bytes s.now) × (n ≤ 2 * window_length 6) × Unchanged s.now s'.now)

pub window_bytes_contract : WindowBytesContract
window_bytes_contract κs s s' n = the_claim
