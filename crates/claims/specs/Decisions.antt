-- What a decision is, however it came about: a call answered 0 that wrote one. All that demands 2 and 3 say of a decision they say of all
-- three ways.
use Rattle.std.specs.Prelude.{ℕ, ◌≡◌, List, [], ◌∷◌, ℤ}
use Rattle.samples.specs.Window.{numbers_of}
use Rattle.gorsepetal.specs.State.{settings_of}
use Rattle.gorsepetal.specs.Calls.{newest_of, Decided, Fed}
use Rattle.gorsepetal.specs.EventFiles.{handed, EventsRead}

-- By the record r on the numbers w, into a buffer that held out and then holds d.
pub data Decision : (r : List ℕ) (w : List ℤ) (out d : List ℕ) → Type 0 where
  -- decide, on a window that is lent whole
  by_decide : {s b out d : List ℕ} → Decided s b out 0 d → Decision (settings_of s).force (numbers_of b) out d
  -- feed, on the newest 16 frames (document 02, CR 1)
  by_feed : {s f out s₁ d : List ℕ} → Fed s f out 0 s₁ d → Decision (settings_of s).force (newest_of s f) out d
  -- a piece of an event file that makes a record whole, whose frame f is then fed (document 02, CR 5)
  by_events :
      {s r p out f s₁ r₁ d : List ℕ} → EventsRead s r p out 0 s₁ r₁ d → handed s r p ≡ f ∷ [] → Decision (settings_of s).force (newest_of s f) out d
