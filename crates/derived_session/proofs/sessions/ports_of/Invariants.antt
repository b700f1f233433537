use Rattle.std.proofs.Common.{map}
use Rattle.derived_session.specs.Making.{AreFirstPorts}
use Rattle.derived_session.proofs.sessions.ports_of.Given as goal

abbrev pub invariant-loop-number : goal.invariant-loop-number
invariant-loop-number l = AreFirstPorts l.number (map (λ d. d.items) l.passed) l.ports.items
