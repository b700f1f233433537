use Rattle.std.proofs.Common.{◌≡◌, ◌∷◌, ◌++◌, ◌-◌, [], flat_map, if◌then◌else◌, length}
use Rattle.std.specs.Prelude.{slice_index_or}
use Rattle.std.specs.List.{range_with_len}
use Rattle.tty_terminal.specs.Standing.{standing_in, at_first}
use Rattle.derived_session.specs.declared.passed.Down.TheVariants as down
use Rattle.derived_session.specs.Begun.{begun_down}
use Rattle.derived_session.proofs.begun.add_begun.Given as goal

abbrev pub invariant-loop-caller : goal.invariant-loop-caller
invariant-loop-caller l =
    l.passed.items
    ++ flat_map
    (λ c.
    if (standing_in c l.journal.items at_first).begun
    then record { caller = c; step = slice_index_or l.next c 0; down = down.Call } ∷ []
    else [])
    (range_with_len l.caller (length l.next - l.caller))
    ≡ l.initial.passed.items ++ begun_down l.journal.items l.next
