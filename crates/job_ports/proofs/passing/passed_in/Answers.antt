use Rattle.std.proofs.Common.{List, length, map, ap, ◌∙◌}
use Rattle.tty_calls.specs.Sessions.{session_of}
use Rattle.job_text.specs.Events.{logged_of}
use Rattle.derived_session.proofs.Listed.{one_more_listed}
use Rattle.job_ports.proofs.Derived.{IsDown, is_down}
use Rattle.job_ports.proofs.passing.passed_in.Goals as goal

pub loop-port-preserved : goal.loop-port-preserved
loop-port-preserved c =
    let at = c.loop-port in
    let base = session_of c.args.session.now in
    let log = map logged_of c.args.log.now in
    one_more_listed (IsDown base log c.args.runs.now) at.port at.passed.items c.push.new.self.items c.in_ok-own.own
    c.in_ok-push.ensures.items
    (is_down base log c.args.runs.now at.port c.len.result c.index-runs-port.result c.in_ok-own.own.items
    c.loop-port-test.true c.index-runs-port.is
    (c.len.ensures ∙ ap (λ (ns : List (List _)). length ns) c.in_ok-names.ensures) c.in_ok-own.ensures)
    at.invariant
