use Rattle.tty_terminal.proofs.HangupLaws.{session_leaves_nothing, answer_leaves_nothing}
use Rattle.tty_terminal.proofs.laws.hangup_leaves_nothing.Goals as goal

pub returns : goal.returns
returns c = record { session = session_leaves_nothing; answered = answer_leaves_nothing }
