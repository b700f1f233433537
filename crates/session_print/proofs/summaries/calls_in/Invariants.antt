use Rattle.std.proofs.Common.{◌≡◌, map, take}
use Rattle.tty_calls.specs.Limits.{call_count}
use Rattle.tty_calls.specs.Sessions.{phase_of}
use Rattle.session_print.proofs.summaries.calls_in.Given as goal

abbrev pub invariant-loop-phase : goal.invariant-loop-phase
invariant-loop-phase l = l.count ≡ call_count (map phase_of (take l.phase-index l.phases))
