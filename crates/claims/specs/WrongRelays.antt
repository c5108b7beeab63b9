-- Two wrong relays, as claims of what a call would do, each with the promise that it breaks. Both answer as document 01 has it, and differ
-- from it in what they leave.
use Rattle.std.specs.Prelude.{ℕ, ◌≡◌, List, cond}
use Rattle.answers.specs.Answers.{given_back, if_done}
use Rattle.lent.specs.Lent.{over}
use Rattle.entry.specs.Pair.{nothing}
use Rattle.entry.specs.Entry as entry
use Rattle.gorsepetal.specs.State.{settings_of, with_settings}
use Rattle.gorsepetal.specs.Calls.{is_relay, verdict, propose_answer, read_back_answer}
use Rattle.claims.specs.Settings.{AcceptedProposal, ReadsWhatIsInForce}

-- An accepted proposal drops the record in force: the line is unprotected until the confirmation.
pub record Zeroing (s e : List ℕ) (n : ℕ) (after : List ℕ) : Type 0 where
  pub given : n ≡ given_back (propose_answer s e)
  pub state :
      after ≡
      cond (is_relay s)
      (with_settings s (record { force = if_done (propose_answer s e) nothing (settings_of s).force; pending = (entry.proposed (verdict e) (settings_of s) e).pending }))
      s

abbrev pub NotZeroed : Type 0
NotZeroed = AcceptedProposal Zeroing → ⊥

-- A read-back hands out the pending record while a good one is pending, and the one in force otherwise: the desk reads what is not in force.
pub record HandingOutPending (s out : List ℕ) (n : ℕ) (after : List ℕ) : Type 0 where
  pub given : n ≡ given_back (read_back_answer s out)
  pub buffer :
      after ≡
      if_done (read_back_answer s out)
      (over out 0 (if_done (verdict (settings_of s).pending) (settings_of s).pending (settings_of s).force))
      out

abbrev pub NotHandedOut : Type 0
NotHandedOut = ReadsWhatIsInForce HandingOutPending → ⊥
