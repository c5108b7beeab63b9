-- What the contracts of the calls that read and write event files promise, and that they ask nothing: as in Contracts.antt.
use Prim.Native.Nat.{ℕ}
use mathlib.Core.List.{List}
use contract.Lifetimes.{Lfts}
use denote.Bor.{Bor}
use denote.MutBor.{MutBor}
use Rattle.gorsepetal.specs.Calls.{Unchanged}
use Rattle.gorsepetal.specs.EventFiles.{EventsOpened, EventsWanted, EventsRead, EventsEnded, EventsWritten}
use Rattle.gorsepetal.proofs.Contracts.{Promises, the_claim}
use Rattle.gorsepetal.proofs.event_files.gorsepetal_events_open.Reads as open_call
use Rattle.gorsepetal.proofs.event_files.gorsepetal_events_wanted.Reads as wanted_call
use Rattle.gorsepetal.proofs.event_files.gorsepetal_events_read.Reads as read_call
use Rattle.gorsepetal.proofs.event_files.gorsepetal_events_end.Reads as end_call
use Rattle.gorsepetal.proofs.event_files.gorsepetal_events_write.Reads as write_call

abbrev pub EventsOpenContract : Type 0
EventsOpenContract =
    (κs : Lfts 1) (r r' : MutBor (List ℕ)) (ends status n : ℕ)
    → Promises (open_call.Pre κs (r, (ends, (status, tt)))) (open_call.Post κs (r, (ends, (status, tt))) n (r', (ends, (status, tt)))) (EventsOpened r.now ends status n r'.now)

pub events_open_contract : EventsOpenContract
events_open_contract κs r r' ends status n = the_claim

abbrev pub EventsWantedContract : Type 0
EventsWantedContract =
    (κs : Lfts 1) (r r' : Bor (List ℕ)) (n : ℕ)
    → Promises (wanted_call.Pre κs (r, tt)) (wanted_call.Post κs (r, tt) n (r', tt)) (EventsWanted r.now n × Unchanged r.now r'.now)

pub events_wanted_contract : EventsWantedContract
events_wanted_contract κs r r' n = the_claim

abbrev pub EventsReadContract : Type 0
EventsReadContract =
    (κs : Lfts 4) (s r s' r' : MutBor (List ℕ)) (p p' : Bor (List ℕ)) (out out' : MutBor (List ℕ)) (n : ℕ)
    → Promises (read_call.Pre κs (s, (r, (p, (out, tt))))) (read_call.Post κs (s, (r, (p, (out, tt)))) n (s', (r', (p', (out', tt))))) (EventsRead s.now r.now p.now out.now n s'.now r'.now out'.now × Unchanged p.now p'.now)

pub events_read_contract : EventsReadContract
events_read_contract κs s r s' r' p p' out out' n = the_claim

abbrev pub EventsEndContract : Type 0
EventsEndContract =
    (κs : Lfts 1) (r r' : MutBor (List ℕ)) (n : ℕ)
    → Promises (end_call.Pre κs (r, tt)) (end_call.Post κs (r, tt) n (r', tt)) (EventsEnded r.now n r'.now)

pub events_end_contract : EventsEndContract
events_end_contract κs r r' n = the_claim

abbrev pub EventsWriteContract : Type 0
EventsWriteContract =
    (κs : Lfts 2) (ends written time : ℕ) (f f' : Bor (List ℕ)) (out out' : MutBor (List ℕ)) (n : ℕ)
    → Promises (write_call.Pre κs (ends, (written, (time, (f, (out, tt)))))) (write_call.Post κs (ends, (written, (time, (f, (out, tt))))) n (ends, (written, (time, (f', (out', tt)))))) (EventsWritten ends written time f.now out.now n out'.now × Unchanged f.now f'.now)

pub events_write_contract : EventsWriteContract
events_write_contract κs ends written time f f' out out' n = the_claim
