-- How large s and U get, for phasors within 42000 of zero and up to six ends. No rule of document 01 is here: a reader of the rules can pass
-- this file by.
use Rattle.std.specs.Prelude.{ℕ, ◌*◌, ◌≤◌}
use Rattle.settings.specs.Table.{most_ends}
use Rattle.plane.specs.declared.Phases.{Phases}
use Rattle.differential.specs.declared.Comparison.{Comparison}

-- 64 times the root of 2 times 42000², rounded up
abbrev pub end_most : ℕ
end_most = 3801407

abbrev pub restraint_most : ℕ
restraint_most = most_ends * end_most

-- 2 times (6 times 42000)²
abbrev pub square_most : ℕ
square_most = 127008000000

pub record Sized (x : Comparison) : Type 0 where
  pub square_size : x.square ≤ square_most
  pub restraint_size : x.restraint ≤ restraint_most

pub record AllSized (x : Phases Comparison) : Type 0 where
  pub sized_a : Sized x.a
  pub sized_b : Sized x.b
  pub sized_c : Sized x.c
