use Rattle.tty_terminal.proofs.MarkLaws.{step_maker}
use Rattle.tty_terminal.proofs.laws.entries_are_by_their_makers.Goals as goal

pub returns : goal.returns
returns c = step_maker
