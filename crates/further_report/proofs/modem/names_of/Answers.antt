use Rattle.further_report.proofs.Naming.{carrier_more}
use Rattle.further_report.proofs.modem.names_of.Goals as goal

pub loop-phase-preserved : goal.loop-phase-preserved
loop-phase-preserved c =
    carrier_more c.loop-phase.names c.learn_all.new.names c.learn.new.self _ c.carrier_name-carrier.result.bytes
    c.args.port c.loop-phase.phase-index c.args.phases.now c.phase-item.result c.as_slice.result.now
    c.loop-phase-test.true c.phase-item.is c.as_slice.ensures c.in_ok-learn_all.ensures c.carrier_name-carrier.ensures
    c.in_ok-learn.ensures.names c.loop-phase.invariant
