use Rattle.std.proofs.Common.{arith}
use Rattle.std.proofs.lemmas.Grind.{common_steps}
use Rattle.tty_calls.proofs.names.Names.learn_all.Goals as goal

pub loop-script-preserved : goal.loop-script-preserved
loop-script-preserved c = grind (arith, common_steps) steps 1000000
