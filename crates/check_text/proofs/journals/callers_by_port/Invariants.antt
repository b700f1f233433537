use Rattle.std.proofs.Common.{◌≡◌, ◌-◌, ◌++◌, map}
use Rattle.std.specs.List.{range_with_len}
use Rattle.tty_calls.specs.Sessions.{session_of}
use Rattle.check_text.specs.Callers.{callers_on}
use Rattle.check_text.specs.Views.{callers_of}
use Rattle.check_text.proofs.journals.callers_by_port.Given as goal

abbrev pub invariant-loop-port : goal.invariant-loop-port
invariant-loop-port l =
    map callers_of l.callers.items
    ++ map (λ port. callers_on port (session_of l.session)) (range_with_len l.port (l.session.ports - l.port))
    ≡ map (λ port. callers_on port (session_of l.session)) (range_with_len 0 l.session.ports)
