use Rattle.tty_terminal.proofs.Grown.{leads_grown}
use Rattle.tty_terminal.proofs.laws.more_calls_keep_a_run.Goals as goal

pub returns : goal.returns
returns c = λ f g counts capacity es u. leads_grown f g counts _ es u
