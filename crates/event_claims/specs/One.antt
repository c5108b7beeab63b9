-- Document 01, "What a reader may rely on": a claim leaves one possible result for each input, bad ones too. Here those of document 02's CR 5.
use Rattle.std.specs.Prelude.{ℕ, ◌≡◌, List}
use Rattle.gorsepetal.specs.EventFiles.{EventsOpened, EventsWanted, EventsRead, EventsEnded, EventsWritten}

abbrev pub OneEventsOpened : Type 0
OneEventsOpened =
    (r : List ℕ) (ends status n n' : ℕ) (r₁ r₁' : List ℕ) → EventsOpened r ends status n r₁ → EventsOpened r ends status n' r₁' → (n ≡ n') × (r₁ ≡ r₁')

abbrev pub OneEventsWanted : Type 0
OneEventsWanted = (r : List ℕ) (n n' : ℕ) → EventsWanted r n → EventsWanted r n' → n ≡ n'

-- Read is lent four slices, and changes three: the relay's state, the reader and the buffer.
abbrev pub OneEventsRead : Type 0
OneEventsRead =
    (s r p out : List ℕ) (n n' : ℕ) (s₁ s₁' r₁ r₁' out₁ out₁' : List ℕ) → EventsRead s r p out n s₁ r₁ out₁ → EventsRead s r p out n' s₁' r₁' out₁'
    → (n ≡ n') × (s₁ ≡ s₁') × (r₁ ≡ r₁') × (out₁ ≡ out₁')

abbrev pub OneEventsEnded : Type 0
OneEventsEnded = (r : List ℕ) (n n' : ℕ) (r₁ r₁' : List ℕ) → EventsEnded r n r₁ → EventsEnded r n' r₁' → (n ≡ n') × (r₁ ≡ r₁')

abbrev pub OneEventsWritten : Type 0
OneEventsWritten =
    (ends written time : ℕ) (f out : List ℕ) (n n' : ℕ) (out₁ out₁' : List ℕ) → EventsWritten ends written time f out n out₁
    → EventsWritten ends written time f out n' out₁' → (n ≡ n') × (out₁ ≡ out₁')
