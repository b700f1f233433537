use Rattle.std.proofs.Common.{map}
use Rattle.modem_text.specs.Events.{logged_of}
use Rattle.modem_text.specs.Sessions.{modem_session_of}
use Rattle.further_report.specs.Modem.{port_calls}
use Rattle.further_report.proofs.Ranges.{range_more, range_over}
use Rattle.further_report.proofs.modem.put_all.Goals as goal

pub loop-port-preserved : goal.loop-port-preserved
loop-port-preserved c =
    let calls = port_calls (modem_session_of c.args.session.now) (map logged_of c.args.log.now) in
    range_more calls c.args.session.now.session.ports c.loop-port.port c.loop-port.text.items c.put_port.new.text.items
    _ c.loop-port-test.true c.in_ok-put_port.ensures c.loop-port.invariant

pub returns : goal.returns
returns c =
    let calls = port_calls (modem_session_of c.args.session.now) (map logged_of c.args.log.now) in
    range_over calls c.args.session.now.session.ports c.loop-port.port c.loop-port.text.items
    _ c.loop-port-test.false c.loop-port.invariant
