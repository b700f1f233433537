use Rattle.std.proofs.Common.{◌≡◌, map, slice_get}
use Rattle.tty_calls.specs.Sessions.{script_of}
use Rattle.journal_check.specs.Scripts.{calls_from}
use Rattle.journal_check.proofs.turns.call_from.Given as goal

abbrev pub invariant-loop-at : goal.invariant-loop-at
invariant-loop-at l =
    slice_get (calls_from l.port (map script_of l.scripts) l.at l.name) l.left
    ≡ slice_get (calls_from l.port (map script_of l.scripts) l.from l.name) l.place
