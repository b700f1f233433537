use Rattle.std.proofs.Common.{map}
use Rattle.tty_calls.specs.Sessions.{session_of}
use Rattle.job_text.specs.Events.{logged_of}
use Rattle.derived_session.proofs.Listed.{AreListed}
use Rattle.job_ports.proofs.Derived.{IsDown}
use Rattle.job_ports.proofs.passing.passed_in.Given as goal

abbrev pub invariant-loop-port : goal.invariant-loop-port
invariant-loop-port l =
    AreListed (IsDown (session_of l.session) (map logged_of l.log) l.runs) l.port (map (λ d. d.items) l.passed.items)
