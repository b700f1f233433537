use Rattle.std.proofs.Common.{ap, string_bytes, ◌∙◌}
use Rattle.tty_calls.specs.Sessions.{session_of}
use Rattle.session_print.proofs.Pieces.{port_more, port_over}
use Rattle.session_print.proofs.texts.put_ports.Goals as goal
use Rattle.session_print.proofs.texts.put_ports.Goals.{in-Some+in_ok-put_port, in_default}

pub loop-port-preserved : goal.loop-port-preserved
loop-port-preserved c =
    elim c.match-get.branch [
      | in-Some+in_ok-put_port w ↦
          port_more (session_of c.args.session.now) _ (string_bytes c.loop-port.text) (string_bytes c.match-get.text)
          c.args.runs.now c.args.ends.now c.loop-port.port c.index-runs-port.result w.in-Some.end.now
          c.loop-port-test.true c.index-runs-port.is w.in-Some.ensures.lookup.3.0 w.in-Some.ensures.lookup.1
          (ap string_bytes w.text-is ∙ w.in_ok-put_port.ensures) c.loop-port.invariant
      | in_default w ↦
          port_over (session_of c.args.session.now) _ (string_bytes c.loop-port.text) (string_bytes c.match-get.text)
          c.args.runs.now c.args.ends.now c.loop-port.port w.in_default.ensures.lookup.3 (ap string_bytes w.text-is)
          c.loop-port.invariant
    ]
