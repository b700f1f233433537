use Rattle.tty_terminal.proofs.StandingLaws.{run_stands}
use Rattle.tty_terminal.proofs.laws.own_entries_tell.Goals as goal

pub returns : goal.returns
returns c = run_stands
