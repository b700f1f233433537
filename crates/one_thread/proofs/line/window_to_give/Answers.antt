use Rattle.std.proofs.Common.{rules}
use Rattle.one_thread.proofs.line.window_to_give.Goals as goal

pub returns-in-Some-eq8-clause-clear : goal.returns-in-Some-eq8-clause-clear
returns-in-Some-eq8-clause-clear c = search rules steps 300000
