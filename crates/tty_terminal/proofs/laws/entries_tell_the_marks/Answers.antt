use Rattle.tty_terminal.proofs.MarkLaws.{step_marks, run_marks}
use Rattle.tty_terminal.proofs.laws.entries_tell_the_marks.Goals as goal

pub returns : goal.returns
returns c = record { step = step_marks; run = run_marks }
