use Rattle.std.proofs.Common.{map}
use Rattle.tty_calls.specs.Sessions.{session_of}
use Rattle.modem_text.specs.Events.{logged_of}
use Rattle.modem_derived.proofs.Listed.{IsDown, is_down}
use Rattle.modem_derived.proofs.passing.passed_in.Goals as goal
use Rattle.derived_session.proofs.Listed.{one_more_listed}

pub loop-port-preserved : goal.loop-port-preserved
loop-port-preserved c =
    let at = c.loop-port in
    let base = session_of c.args.base.now in
    let log = map logged_of c.args.log.now in
    one_more_listed (IsDown base log c.args.runs.now) at.port at.passed.items c.push.new.self.items c.in_ok-own.own
    c.in_ok-push.ensures.items
    (is_down base log c.args.runs.now at.port c.in_ok-names.names c.index-runs-port.result c.in_ok-own.own.items
    c.loop-port-test.true c.index-runs-port.is c.in_ok-names.ensures c.in_ok-own.ensures)
    at.invariant
