use Rattle.tty_terminal.proofs.Agreeing.{leads_agrees}
use Rattle.tty_terminal.proofs.laws.agreeing_calls_have_the_same_runs.Goals as goal

pub returns : goal.returns
returns c = λ f g counts capacity es u. leads_agrees f g counts _ es u
