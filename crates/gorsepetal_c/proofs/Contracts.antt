-- What an export's contract says is the claim that a reader reads, as of the calls of gorsepetal itself: it asks nothing of its caller, and it
-- promises exactly its claim, and that what was lent to be read alone holds what it held.
use Rattle.std.specs.Prelude.{ℕ, List}
use contract.Lifetimes.{Lfts}
use denote.Bor.{Bor}
use denote.MutBor.{MutBor}
use Rattle.gorsepetal.specs.Calls.{Unchanged, Proposed, Confirmed, ReadBack, Decided, Fed}
use Rattle.gorsepetal.specs.EventFiles.{EventsOpened, EventsWanted, EventsRead, EventsEnded, EventsWritten}
use Rattle.gorsepetal.proofs.Contracts.{Promises, the_claim}
use Rattle.gorsepetal_c.proofs.gorsepetal_propose.Reads as propose
use Rattle.gorsepetal_c.proofs.gorsepetal_confirm.Reads as confirm
use Rattle.gorsepetal_c.proofs.gorsepetal_read_back.Reads as read_back
use Rattle.gorsepetal_c.proofs.gorsepetal_decide.Reads as decide
use Rattle.gorsepetal_c.proofs.gorsepetal_feed.Reads as feed
use Rattle.gorsepetal_c.proofs.gorsepetal_events_open.Reads as open_call
use Rattle.gorsepetal_c.proofs.gorsepetal_events_wanted.Reads as wanted_call
use Rattle.gorsepetal_c.proofs.gorsepetal_events_read.Reads as read_call
use Rattle.gorsepetal_c.proofs.gorsepetal_events_end.Reads as end_call
use Rattle.gorsepetal_c.proofs.gorsepetal_events_write.Reads as write_call

abbrev pub ProposeContract : Type 0
ProposeContract =
    (κs : Lfts 2) (s s' : MutBor (List ℕ)) (e e' : Bor (List ℕ)) (n : ℕ)
    → Promises (propose.Pre κs (s, (e, tt))) (propose.Post κs (s, (e, tt)) n (s', (e', tt))) (Proposed s.now e.now n s'.now × Unchanged e.now e'.now)

pub propose_contract : ProposeContract
propose_contract κs s s' e e' n = the_claim

abbrev pub ConfirmContract : Type 0
ConfirmContract =
    (κs : Lfts 2) (s s' : MutBor (List ℕ)) (e e' : Bor (List ℕ)) (n : ℕ)
    → Promises (confirm.Pre κs (s, (e, tt))) (confirm.Post κs (s, (e, tt)) n (s', (e', tt))) (Confirmed s.now e.now n s'.now × Unchanged e.now e'.now)

pub confirm_contract : ConfirmContract
confirm_contract κs s s' e e' n = the_claim

abbrev pub ReadBackContract : Type 0
ReadBackContract =
    (κs : Lfts 2) (s s' : Bor (List ℕ)) (out out' : MutBor (List ℕ)) (n : ℕ)
    → Promises (read_back.Pre κs (s, (out, tt))) (read_back.Post κs (s, (out, tt)) n (s', (out', tt))) (ReadBack s.now out.now n out'.now × Unchanged s.now s'.now)

pub read_back_contract : ReadBackContract
read_back_contract κs s s' out out' n = the_claim

abbrev pub DecideContract : Type 0
DecideContract =
    (κs : Lfts 3) (s b s' b' : Bor (List ℕ)) (out out' : MutBor (List ℕ)) (n : ℕ)
    → Promises (decide.Pre κs (s, (b, (out, tt)))) (decide.Post κs (s, (b, (out, tt))) n (s', (b', (out', tt)))) (Decided s.now b.now out.now n out'.now × Unchanged s.now s'.now × Unchanged b.now b'.now)

pub decide_contract : DecideContract
decide_contract κs s b s' b' out out' n = the_claim

abbrev pub FeedContract : Type 0
FeedContract =
    (κs : Lfts 3) (s s' : MutBor (List ℕ)) (f f' : Bor (List ℕ)) (out out' : MutBor (List ℕ)) (n : ℕ)
    → Promises (feed.Pre κs (s, (f, (out, tt)))) (feed.Post κs (s, (f, (out, tt))) n (s', (f', (out', tt)))) (Fed s.now f.now out.now n s'.now out'.now × Unchanged f.now f'.now)

pub feed_contract : FeedContract
feed_contract κs s s' f f' out out' n = the_claim

abbrev pub EventsOpenContract : Type 0
EventsOpenContract =
    (κs : Lfts 1) (r r' : MutBor (List ℕ)) (ends status n : ℕ)
    → Promises (open_call.Pre κs (r, (ends, (status, tt)))) (open_call.Post κs (r, (ends, (status, tt))) n (r', (ends, (status, tt)))) (EventsOpened r.now ends status n r'.now)

pub events_open_contract : EventsOpenContract
events_open_contract κs r r' ends status n = the_claim

abbrev pub EventsWantedContract : Type 0
EventsWantedContract =
    (κs : Lfts 1) (r r' : Bor (List ℕ)) (n : ℕ)
    → Promises (wanted_call.Pre κs (r, tt)) (wanted_call.Post κs (r, tt) n (r', tt)) (EventsWanted r.now n × Unchanged r.now r'.now)

pub events_wanted_contract : EventsWantedContract
events_wanted_contract κs r r' n = the_claim

abbrev pub EventsReadContract : Type 0
EventsReadContract =
    (κs : Lfts 4) (s r s' r' : MutBor (List ℕ)) (p p' : Bor (List ℕ)) (out out' : MutBor (List ℕ)) (n : ℕ)
    → Promises (read_call.Pre κs (s, (r, (p, (out, tt))))) (read_call.Post κs (s, (r, (p, (out, tt)))) n (s', (r', (p', (out', tt))))) (EventsRead s.now r.now p.now out.now n s'.now r'.now out'.now × Unchanged p.now p'.now)

pub events_read_contract : EventsReadContract
events_read_contract κs s r s' r' p p' out out' n = the_claim

abbrev pub EventsEndContract : Type 0
EventsEndContract =
    (κs : Lfts 1) (r r' : MutBor (List ℕ)) (n : ℕ)
    → Promises (end_call.Pre κs (r, tt)) (end_call.Post κs (r, tt) n (r', tt)) (EventsEnded r.now n r'.now)

pub events_end_contract : EventsEndContract
events_end_contract κs r r' n = the_claim

abbrev pub EventsWriteContract : Type 0
EventsWriteContract =
    (κs : Lfts 2) (ends written time : ℕ) (f f' : Bor (List ℕ)) (out out' : MutBor (List ℕ)) (n : ℕ)
    → Promises (write_call.Pre κs (ends, (written, (time, (f, (out, tt)))))) (write_call.Post κs (ends, (written, (time, (f, (out, tt))))) n (ends, (written, (time, (f', (out', tt)))))) (EventsWritten ends written time f.now out.now n out'.now × Unchanged f.now f'.now)

pub events_write_contract : EventsWriteContract
events_write_contract κs ends written time f f' out out' n = the_claim
