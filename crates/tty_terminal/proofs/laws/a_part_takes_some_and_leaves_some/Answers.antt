use Rattle.tty_terminal.proofs.WaitLaws.{part_some, part_more}
use Rattle.tty_terminal.proofs.laws.a_part_takes_some_and_leaves_some.Goals as goal

pub returns : goal.returns
returns c = record { takes = part_some; leaves = part_more }
