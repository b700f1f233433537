use Rattle.std.proofs.Common.{string_bytes}
use Rattle.further_report.proofs.Sent.{signal_more}
use Rattle.further_report.proofs.jobs.put_port_signals.Goals as goal

pub loop-logged-preserved : goal.loop-logged-preserved
loop-logged-preserved c =
    signal_more (string_bytes c.loop-logged.text) (string_bytes c.put_logged.new.text) _ c.args.port
    c.loop-logged.logged-index c.args.procs.now c.args.log.now c.logged-item.result
    c.loop-logged-test.true c.logged-item.is
    c.in_ok-put_logged.ensures c.loop-logged.invariant
