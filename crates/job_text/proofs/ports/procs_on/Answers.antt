use Rattle.job_text.proofs.Listed.{proc_more}
use Rattle.job_text.proofs.ports.procs_on.Goals as goal

pub loop-proc-preserved : goal.loop-proc-preserved
loop-proc-preserved c =
    proc_more c.loop-proc.found.items c.add_proc.new.found.items _ c.args.port c.loop-proc.proc-index c.args.procs.now
    c.proc-item.result c.loop-proc-test.true c.proc-item.is c.in_ok-add_proc.ensures c.loop-proc.invariant
