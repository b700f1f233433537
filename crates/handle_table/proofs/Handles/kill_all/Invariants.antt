use Rattle.std.proofs.Common.{◌≡◌, ◌++◌, take, drop}
use Rattle.std.specs.Prelude.{map}
use Rattle.handle_table.specs.Handles.{handle_after_hangup}
use Rattle.handle_table.proofs.Handles.kill_all.Given as goal

-- the handles up to this one are dead, and the others as they were
abbrev pub invariant-loop-slot : goal.invariant-loop-slot
invariant-loop-slot l =
    l.slot-items
    ≡ map handle_after_hangup (take l.slot-index l.initial.slot-items) ++ drop l.slot-index l.initial.slot-items
