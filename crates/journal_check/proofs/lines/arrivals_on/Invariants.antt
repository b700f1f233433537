use Rattle.std.proofs.Common.{◌≡◌, take}
use Rattle.tty_calls.specs.Sessions.{session_of}
use Rattle.tty_calls.specs.Limits.{character_count}
use Rattle.journal_check.proofs.lines.arrivals_on.Given as goal

abbrev pub invariant-loop-phase : goal.invariant-loop-phase
invariant-loop-phase l = l.count ≡ character_count l.port (take l.phase (session_of l.session).phases)
