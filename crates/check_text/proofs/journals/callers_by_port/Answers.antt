use Rattle.std.proofs.Common.{ap, ◌∙◌}
use Rattle.tty_calls.specs.Sessions.{session_of}
use Rattle.check_text.specs.Callers.{callers_on}
use Rattle.check_text.specs.Views.{callers_of}
use Rattle.check_text.proofs.Parts.{range_more, range_done}
use Rattle.check_text.proofs.journals.callers_by_port.Goals as goal

pub loop-port-preserved : goal.loop-port-preserved
loop-port-preserved c =
    range_more callers_of (λ port. callers_on port (session_of c.args.session.now)) c.loop-port.callers.items
    c.push.new.self.items c.in_ok-on_port.field-0 c.args.session.now.ports c.loop-port.port _
    c.loop-port-test.true c.in_ok-push.ensures.items
    (c.in_ok-on_port.ensures ∙ ap (λ port. callers_on port (session_of c.args.session.now)) c.from.ensures)
    c.loop-port.invariant

pub returns : goal.returns
returns c =
    range_done callers_of (λ port. callers_on port (session_of c.args.session.now)) c.loop-port.callers.items
    c.args.session.now.ports c.loop-port.port _ c.loop-port-test.false c.loop-port.invariant
