use Rattle.std.proofs.Common.{map}
use Rattle.derived_session.proofs.Making.{one_more_port}
use Rattle.derived_session.proofs.sessions.ports_of.Goals as goal

pub loop-number-preserved : goal.loop-number-preserved
loop-number-preserved c =
    one_more_port c.loop-number.number (map (λ d. d.items) c.args.passed.now) c.loop-number.ports.items
    c.push.new.self.items c.passed_on.result.now c.in_ok-port.port c.loop-number.invariant
    c.passed_on.ensures c.in_ok-push.ensures.items
    (record {
      names = c.in_ok-port.ensures.names;
      next = c.in_ok-port.ensures.next;
      slots = c.in_ok-port.ensures.slots;
    })
