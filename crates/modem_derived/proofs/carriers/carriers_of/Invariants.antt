use Rattle.std.proofs.Common.{map}
use Rattle.tty_calls.specs.Sessions.{session_of}
use Rattle.modem_derived.proofs.Listed.{IsCarried}
use Rattle.modem_derived.proofs.carriers.carriers_of.Given as goal
use Rattle.derived_session.proofs.Listed.{AreListed}

abbrev pub invariant-loop-k : goal.invariant-loop-k
invariant-loop-k l =
    AreListed (IsCarried (session_of l.session.session).ports l.session.parts.items) l.k
    (map (λ b. b.items) l.carriers.items)
