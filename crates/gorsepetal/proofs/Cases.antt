-- Where a record is in force, and what read-back answers by it.
use Prim.Native.Nat.{ℕ, ◌≤◌}
use mathlib.Core.Path.{◌≡◌, refl, sym, ◌∙◌}
use mathlib.Core.List.{List}
use borrow.Author.Tests.{le-leb}
use lib.ListN.{length}
use Rattle.std.specs.Prelude.{Ok, Err}
use Rattle.answers.specs.declared.Refusal.{Refusal}
use Rattle.answers.specs.Answers.{Answer}
use Rattle.lent.specs.Lent.{over}
use Rattle.settings.specs.Fields.{Ranges}
use Rattle.entry.specs.Entry as entry
use Rattle.entry.proofs.Done.{stored_done}
use Rattle.gorsepetal.specs.State.{settings_of}
use Rattle.gorsepetal.specs.Calls.{verdict, ready, read_back_answer, read_back_out}
use Rattle.gorsepetal.proofs.Good.{in_range}

-- a stored record that counts is in its ranges
pub counts : (r : List ℕ) (v : Answer) (absent : Refusal) → v ≡ entry.of_stored (verdict r) (Err absent) → v ≡ Ok tt → Ranges r
counts r v absent f t = in_range r (stored_done (verdict r) (Err absent) refl (sym f ∙ t))

module _ (s out : List ℕ) (r : ready s ≡ Ok tt) (room : 32 ≤ length out) where
  pub read_done : Ok tt ≡ read_back_answer s out
  read_done = rw (r, le-leb 32 (length out) room)

  pub read_out : (bytes after : List ℕ) → bytes ≡ (settings_of s).force → after ≡ over out 0 bytes → after ≡ read_back_out s out
  read_out bytes after f p = rw (r, le-leb 32 (length out) room, ← f) p
