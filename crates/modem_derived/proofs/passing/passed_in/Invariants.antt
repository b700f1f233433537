use Rattle.std.proofs.Common.{map}
use Rattle.tty_calls.specs.Sessions.{session_of}
use Rattle.modem_text.specs.Events.{logged_of}
use Rattle.modem_derived.proofs.Listed.{IsDown}
use Rattle.modem_derived.proofs.passing.passed_in.Given as goal
use Rattle.derived_session.proofs.Listed.{AreListed}

abbrev pub invariant-loop-port : goal.invariant-loop-port
invariant-loop-port l =
    AreListed (IsDown (session_of l.base) (map logged_of l.log) l.runs) l.port (map (λ d. d.items) l.passed.items)
