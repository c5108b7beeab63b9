-- A record that propose accepts is in range, and so is one in force.
use mathlib.Core.Path.{◌≡◌, refl, ap}
use mathlib.Core.List.{List}
use mathlib.Core.Bool.{Bool, true, false, cond, false≢true}
use Prim.Native.Nat.{ℕ}
use Rattle.std.specs.Prelude.{Ok, Err}
use Rattle.answers.specs.declared.Refusal.TheVariants.{NoSettings, NoRelay}
use Rattle.answers.specs.Answers.{is_done}
use Rattle.answers.proofs.Numbers.{done_is}
use Rattle.settings.specs.Check.{Checked, checked}
use Rattle.settings.specs.Fields.{Ranges}
use Rattle.settings.proofs.Good.{ranges}
use Rattle.entry.proofs.Done.{stored_done}
use Rattle.gorsepetal.specs.State.{settings_of}
use Rattle.gorsepetal.specs.Calls.{is_relay, of_check, verdict, GoodRecord, in_force, ready}

-- the verdict is done only where the check finds a good record
found_good : (f : Checked) → of_check f ≡ Ok tt → f ≡ Ok tt
found_good (Ok good) t = refl
found_good (Err fault) t = absurd (false≢true (ap is_done t))

pub in_range : (r : List ℕ) → GoodRecord r → Ranges r
in_range r a = ranges r (found_good (checked r) a)

-- where read-back and decide go on, a good record is in force
pub ready_good : (s : List ℕ) → is_done (ready s) ≡ true → GoodRecord (settings_of s).force
ready_good s d = by_test (is_relay s) d
  where
    by_test : (b : Bool) → is_done (cond b (in_force s) (Err NoRelay)) ≡ true → GoodRecord (settings_of s).force
    by_test true d = stored_done (verdict (settings_of s).force) (Err NoSettings) refl (done_is (in_force s) d)
    by_test false d = absurd (false≢true d)
