use Rattle.std.proofs.Common.{◌≡◌, length, map, take}
use Rattle.std.specs.Prelude.{sum_by}
use Rattle.tty_calls.specs.Sessions.{script_of}
use Rattle.session_print.proofs.summaries.calls_of.Given as goal

abbrev pub invariant-loop-script : goal.invariant-loop-script
invariant-loop-script l =
    l.count ≡ sum_by (λ script. length script.calls) (map script_of (take l.script-index l.scripts))
