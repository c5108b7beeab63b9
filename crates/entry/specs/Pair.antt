-- Document 01, "Settings record": a pair of records, the one in force and the pending one, and where it lies in the relay's state.
use Rattle.std.specs.Prelude.{ℕ, ◌+◌, ◌*◌, List, ◌++◌, take, drop, replicate}
use Rattle.lent.specs.Lent.{over}

-- "32 bytes."
abbrev pub record_length : ℕ
record_length = 32

abbrev pub pair_length : ℕ
pair_length = 2 * record_length

pub record Pair : Type 0 where
  pub force : List ℕ
  pub pending : List ℕ

-- No record: zero bytes. "A fresh relay has nothing in force and nothing pending."
abbrev pub nothing : List ℕ
nothing = replicate record_length 0

abbrev pub fresh : Pair
fresh = record { force = nothing; pending = nothing }

-- The pair at an offset of a state, the record in force first.
abbrev pub pair_at : ℕ → List ℕ → Pair
pair_at at s =
    record { force = take record_length (drop at s); pending = take record_length (drop (at + record_length) s) }

-- The state with a pair written there; every other byte stays.
abbrev pub with_pair : ℕ → List ℕ → Pair → List ℕ
with_pair at s p = over s at (p.force ++ p.pending)
