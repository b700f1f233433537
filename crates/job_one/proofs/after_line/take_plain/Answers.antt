use Rattle.std.proofs.Common.{true, false}
use Rattle.tty_calls.specs.Plain.{call_of}
use Rattle.passed_calls.specs.Scripts.{plain}
use Rattle.job_one.proofs.NextCalls.{for_port, stopped_call, caller_next, port_knows, goes_at}
use Rattle.job_one.proofs.after_line.take_plain.Goals as goal

pub goes_to_port-requires-clause-known : goal.goes_to_port-requires-clause-known
goes_to_port-requires-clause-known g c = port_knows g.frame c.args.roles.now c.args.port.now c.args.desk.now
    c.args.stand c.args.place (plain (call_of c.args.call.now)) _ c.requires.1.0 c.requires.1.1.1

pub goes_to_port-requires-clause-caller : goal.goes_to_port-requires-clause-caller
goes_to_port-requires-clause-caller g c = caller_next g.frame c.args.roles.now c.args.desk.now c.args.place
    (plain (call_of c.args.call.now)) _ c.requires.1.1.1

pub take_call-requires : goal.take_call-requires
take_call-requires g c = (
  c.requires.1.0,
  (
    c.requires.1.1.0,
    for_port g.frame c.args.roles.now c.args.port.now c.args.desk.now c.args.stand c.args.place
        (call_of c.args.call.now) c.requires.0 c.requires.1.0 c.requires.1.1.0 c.requires.1.1.1
        (goes_at g.frame c.args.roles.now true c.args.port.now c.args.desk.now c.args.place (call_of c.args.call.now) _
        c.goes_to_port.result c.if-goes_to_port.true c.requires.1.1.1 c.goes_to_port.ensures),
  ),
)

pub take_stop-requires : goal.take_stop-requires
take_stop-requires g c = (
  c.requires.1.0,
  (
    c.requires.1.1.0,
    stopped_call g.frame c.args.roles.now c.args.port.now c.args.desk.now c.args.place (call_of c.args.call.now)
        c.requires.1.1.1
        (goes_at g.frame c.args.roles.now false c.args.port.now c.args.desk.now c.args.place (call_of c.args.call.now) _
        c.goes_to_port.result c.if-goes_to_port.false c.requires.1.1.1 c.goes_to_port.ensures),
  ),
)
