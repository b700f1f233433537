use Rattle.tty_terminal.proofs.HappenedLaws.{run_column}
use Rattle.tty_terminal.proofs.laws.columns_are_of_what_was_posted.Goals as goal

pub returns : goal.returns
returns c = run_column
