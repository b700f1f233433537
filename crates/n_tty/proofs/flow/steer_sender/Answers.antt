use Rattle.std.proofs.Common.{rules}
use Rattle.n_tty.proofs.flow.steer_sender.Goals as goal

pub returns-then-stop-ne0-clause-after : goal.returns-then-stop-ne0-clause-after
returns-then-stop-ne0-clause-after c = search rules steps 300000
