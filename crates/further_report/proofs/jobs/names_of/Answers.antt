use Rattle.further_report.proofs.Naming.{over_more}
use Rattle.further_report.proofs.jobs.names_of.Goals as goal

pub loop-phase-preserved : goal.loop-phase-preserved
loop-phase-preserved c =
    over_more c.loop-phase.names c.learn_all.new.names _ c.args.port c.loop-phase.phase-index
    c.args.phases.now c.phase-item.result c.as_slice.result.now
    c.loop-phase-test.true c.phase-item.is c.as_slice.ensures c.in_ok-learn_all.ensures c.loop-phase.invariant
