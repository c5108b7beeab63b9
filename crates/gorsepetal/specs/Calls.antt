-- Document 01, "Numbers given back", and document 02, CR 1: what each call answers and leaves, for every input, good or bad.
use Rattle.std.specs.Prelude.{ℕ, ◌*◌, ◌≡◌, List, Bool, cond, ℤ, length, eqb, leb, Ok, Err}
use Rattle.answers.specs.declared.Refusal.TheVariants.{NoSettings, NoRoom, OutOfRange, NoRelay}
use Rattle.answers.specs.Answers.{Answer, given_back, if_done}
use Rattle.lent.specs.Lent.{over}
use Rattle.samples.specs.Window.{window_length, numbers_of}
use Rattle.settings.specs.Check.{Checked, checked}
use Rattle.settings.specs.Fields.{ends}
use Rattle.decision.specs.Decide.{window_answer, written}
use Rattle.entry.specs.Pair.{record_length}
use Rattle.entry.specs.Entry as entry
use Rattle.feed.specs.Feed.{keeps, kept_answer, newest_frames, with_kept}
use Rattle.gorsepetal.specs.State.{state_length, window_offset, settings_of, with_settings, window_of, emptied}

-- Refusal 17: a state slice of another length. It stands before all others and changes nothing.
abbrev pub is_relay : List ℕ → Bool
is_relay s = eqb (length s) state_length

-- Refusal 6: a field out of range, at its offset.
abbrev pub of_check : Checked → Answer
of_check (Ok good) = Ok tt
of_check (Err fault) = Err (OutOfRange fault.at)

-- What propose answers to a record of 32 bytes.
abbrev pub verdict : List ℕ → Answer
verdict r = of_check (checked r)

-- A good record: the table's verdict on it, every rule kept. The length is asked for apart, because a byte past the end would read as 0: an
-- entry of another length is refused with 5, and a stored record has the 32 bytes that the state has for it.
abbrev pub GoodRecord : List ℕ → Type 0
GoodRecord r = verdict r ≡ Ok tt

-- "Propose: 5, 6."
abbrev pub propose_answer : List ℕ → List ℕ → Answer
propose_answer s e = cond (is_relay s) (entry.propose_answer (verdict e) e) (Err NoRelay)

abbrev pub propose_state : List ℕ → List ℕ → List ℕ
propose_state s e = cond (is_relay s) (with_settings s (entry.proposed (verdict e) (settings_of s) e)) s

-- "Confirm: 5, 7, 8." Whether a record is pending goes by the verdict on what is stored.
abbrev pub standing : List ℕ → Answer
standing s = entry.standing (verdict (settings_of s).pending)

abbrev pub confirm_answer : List ℕ → List ℕ → Answer
confirm_answer s e = cond (is_relay s) (entry.confirm_answer (standing s) (settings_of s) e) (Err NoRelay)

-- The pair after it; and document 02, CR 1: "A confirmation answered 0 empties" the window.
abbrev pub confirmed_pair : List ℕ → List ℕ → List ℕ
confirmed_pair s e = with_settings s (entry.confirmed (standing s) (settings_of s) e)

abbrev pub confirm_state : List ℕ → List ℕ → List ℕ
confirm_state s e = cond (is_relay s) (if_done (entry.confirm_answer (standing s) (settings_of s) e) (emptied (confirmed_pair s e)) (confirmed_pair s e)) s

-- Refusal 1: no settings in force. It goes by the verdict on what is stored, too.
abbrev pub in_force : List ℕ → Answer
in_force s = entry.of_stored (verdict (settings_of s).force) (Err NoSettings)

-- Refusals 17 and 1, which stand first in read-back, in decide and in feed.
abbrev pub ready : List ℕ → Answer
ready s = cond (is_relay s) (in_force s) (Err NoRelay)

-- "Read-back: 1, 3." Refusal 3: room below 32 bytes.
abbrev pub read_back_answer : List ℕ → List ℕ → Answer
read_back_answer s out = if_done (ready s) (cond (leb record_length (length out)) (Ok tt) (Err NoRoom)) (ready s)

-- "Read-back writes the 32 bytes of the record in force" at the front of the lent buffer; "later bytes stay".
abbrev pub read_back_out : List ℕ → List ℕ → List ℕ
read_back_out s out = if_done (read_back_answer s out) (over out 0 (settings_of s).force) out

-- How many numbers a window has by the record in force.
abbrev pub length_in_force : List ℕ → ℕ
length_in_force s = window_length (ends (settings_of s).force)

-- And how many bytes; none where no record is in force.
abbrev pub window_bytes : List ℕ → ℕ
window_bytes s = if_done (ready s) (2 * length_in_force s) 0

-- Whether numbers, or the bytes of numbers, are as many: "an odd byte over makes it another length".
abbrev pub fits_numbers : List ℕ → List ℤ → Bool
fits_numbers s w = eqb (length w) (length_in_force s)

abbrev pub fits_bytes : List ℕ → List ℕ → Bool
fits_bytes s b = eqb (length b) (2 * length_in_force s)

-- "Decide checks 1, 2, 3, 4."
abbrev pub decide_answer : List ℕ → Bool → List ℤ → List ℕ → Answer
decide_answer s fits w out = if_done (ready s) (window_answer fits w out) (ready s)

-- The decision by the record in force, at the front of the lent buffer.
abbrev pub decide_out : List ℕ → Bool → List ℤ → List ℕ → List ℕ
decide_out s fits w out = written (decide_answer s fits w out) (settings_of s).force w out

-- Document 02, CR 1, "Order 1, 9, 3, 10, 4. The first three keep nothing." Done where the frame f is kept.
abbrev pub feed_keeps : List ℕ → List ℕ → List ℕ → Answer
feed_keeps s f out = if_done (ready s) (keeps (settings_of s).force f out) (ready s)

-- "the newest 16 frames", this one among them
abbrev pub newest_of : List ℕ → List ℕ → List ℤ
newest_of s f = newest_frames (settings_of s).force (window_of s) f

abbrev pub feed_answer : List ℕ → List ℕ → List ℕ → Answer
feed_answer s f out = if_done (feed_keeps s f out) (kept_answer (settings_of s).force (window_of s) f) (feed_keeps s f out)

-- "afterwards the firmware lends its window and finds it moved on by one frame"
abbrev pub feed_state : List ℕ → List ℕ → List ℕ → List ℕ
feed_state s f out = if_done (feed_keeps s f out) (with_kept (settings_of s).force window_offset s f) s

-- The decision on these 16 frames by the record in force, at the front of the lent buffer.
abbrev pub feed_out : List ℕ → List ℕ → List ℕ → List ℕ
feed_out s f out = written (feed_answer s f out) (settings_of s).force (newest_of s f) out

-- What a slice lent to be read alone holds after a call: what it held.
abbrev pub Unchanged : {A : Type 0} → List A → List A → Type 0
Unchanged before after = after ≡ before

-- What each call promises of the number n given back and of what it leaves.
pub record Proposed (s e : List ℕ) (n : ℕ) (after : List ℕ) : Type 0 where
  pub given : n ≡ given_back (propose_answer s e)
  pub state : after ≡ propose_state s e

pub record Confirmed (s e : List ℕ) (n : ℕ) (after : List ℕ) : Type 0 where
  pub given : n ≡ given_back (confirm_answer s e)
  pub state : after ≡ confirm_state s e

-- Read-back changes no state: its contract says so beside this.
pub record ReadBack (s out : List ℕ) (n : ℕ) (after : List ℕ) : Type 0 where
  pub given : n ≡ given_back (read_back_answer s out)
  pub buffer : after ≡ read_back_out s out

-- Nor does decide. On a window of numbers, and on one of big-endian bytes, as it comes from C.
pub record DecidedNumbers (s : List ℕ) (w : List ℤ) (out : List ℕ) (a : Answer) (after : List ℕ) : Type 0 where
  pub answer : a ≡ decide_answer s (fits_numbers s w) w out
  pub buffer : after ≡ decide_out s (fits_numbers s w) w out

pub record Decided (s b out : List ℕ) (n : ℕ) (after : List ℕ) : Type 0 where
  pub given : n ≡ given_back (decide_answer s (fits_bytes s b) (numbers_of b) out)
  pub buffer : after ≡ decide_out s (fits_bytes s b) (numbers_of b) out

-- Feed changes two of the slices: the state, and the buffer.
pub record Fed (s f out : List ℕ) (n : ℕ) (s₁ out₁ : List ℕ) : Type 0 where
  pub given : n ≡ given_back (feed_answer s f out)
  pub state : s₁ ≡ feed_state s f out
  pub buffer : out₁ ≡ feed_out s f out
