use Rattle.std.proofs.Common.{map, string_bytes}
use Rattle.job_text.specs.Events.{logged_of}
use Rattle.job_text.specs.Sessions.{bare_session_of}
use Rattle.further_report.specs.Jobs.{port_signals}
use Rattle.further_report.proofs.Ranges.{range_more, range_over}
use Rattle.further_report.proofs.jobs.put_signals.Goals as goal

pub loop-port-preserved : goal.loop-port-preserved
loop-port-preserved c =
    let signals = port_signals (bare_session_of c.args.session.now) (map logged_of c.args.log.now) in
    range_more signals c.args.session.now.session.ports c.loop-port.port (string_bytes c.loop-port.text)
    (string_bytes c.put_signals_on.new.text) _ c.loop-port-test.true
    c.in_ok-put_signals_on.ensures c.loop-port.invariant

pub returns : goal.returns
returns c =
    let signals = port_signals (bare_session_of c.args.session.now) (map logged_of c.args.log.now) in
    range_over signals c.args.session.now.session.ports c.loop-port.port (string_bytes c.loop-port.text)
    _ c.loop-port-test.false c.loop-port.invariant
