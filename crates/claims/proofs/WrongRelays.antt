-- Each wrong relay on one relay with slope 15 in force: a second record is proposed, or is pending with slope 50.
use Prim.Native.Nat.{ℕ}
use mathlib.Core.Path.{◌≡◌, refl, ap}
use mathlib.Core.List.{List, ◌++◌}
use native.Mathlib.Omega.{arith}
use lib.ListN.{get_or, replicate}
use Rattle.stream.specs.Stored.{stored_length}
use Rattle.settings.specs.Table.{settings_table}
use Rattle.settings.specs.Check.{checked_by}
use Rattle.settings.specs.Examples.{example_record, changed}
use Rattle.entry.specs.Pair.{nothing}
use Rattle.claims.specs.WrongRelays.{NotZeroed, NotHandedOut}

-- slope 50
abbrev fifty : List ℕ
fifty = changed example_record 2 50

-- an empty window
abbrev no_frame : List ℕ
no_frame = replicate stored_length 0

pub not_zeroed : NotZeroed
unfolding settings_table checked_by
not_zeroed promise =
    let k = promise (example_record ++ nothing ++ no_frame) fifty (nothing ++ fifty ++ no_frame) (record { given = refl; state = refl }) in
    let zero : ◌≡◌ {A = ℕ} 0 15 = ap (λ r. get_or r 3 0) k.0 in
    omega arith

pub not_handed_out : NotHandedOut
unfolding settings_table checked_by
not_handed_out promise =
    let k = promise (example_record ++ fifty ++ no_frame) nothing fifty (record { given = refl; buffer = refl }) in
    let slope : ◌≡◌ {A = ℕ} 50 15 = ap (λ r. get_or r 3 0) k.0 in
    omega arith
