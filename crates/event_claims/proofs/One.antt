-- No second result meets a claim: each says by one equation what the number is, and by one what each slice is.
use Rattle.event_claims.specs.One.{OneEventsOpened, OneEventsWanted, OneEventsRead, OneEventsEnded, OneEventsWritten}

pub one_events_opened : OneEventsOpened
one_events_opened r ends status n n' r₁ r₁' p q = (cc, cc)

pub one_events_wanted : OneEventsWanted
one_events_wanted r n n' p q = cc

pub one_events_read : OneEventsRead
one_events_read s r p out n n' s₁ s₁' r₁ r₁' out₁ out₁' c d = (cc, cc, cc, cc)

pub one_events_ended : OneEventsEnded
one_events_ended r n n' r₁ r₁' p q = (cc, cc)

pub one_events_written : OneEventsWritten
one_events_written ends written time f out n n' out₁ out₁' p q = (cc, cc)
