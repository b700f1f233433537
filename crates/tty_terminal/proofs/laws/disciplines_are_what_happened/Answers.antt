use Rattle.tty_terminal.proofs.HappenedLaws.{run_happened}
use Rattle.tty_terminal.proofs.laws.disciplines_are_what_happened.Goals as goal

pub returns : goal.returns
returns c = run_happened
