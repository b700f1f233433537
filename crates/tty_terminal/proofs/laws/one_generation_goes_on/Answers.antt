use Rattle.tty_terminal.proofs.OneRun.{one_more}
use Rattle.tty_terminal.proofs.laws.one_generation_goes_on.Goals as goal

pub returns : goal.returns
returns c = one_more
