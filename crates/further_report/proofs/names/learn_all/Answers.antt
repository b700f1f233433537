use Rattle.further_report.proofs.Naming.{learned_more}
use Rattle.further_report.proofs.names.learn_all.Goals as goal

pub loop-script-preserved : goal.loop-script-preserved
loop-script-preserved c =
    learned_more c.loop-script.names c.learn_one.new.names _ c.args.port c.loop-script.script-index c.args.scripts.now
    c.script-item.result c.loop-script-test.true c.script-item.is
    c.in_ok-learn_one.ensures c.loop-script.invariant
