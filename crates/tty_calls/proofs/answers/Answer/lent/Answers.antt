use Rattle.std.proofs.Common.{rules}
use Rattle.tty_calls.proofs.answers.Answer.lent.Goals as goal

pub returns-in-Got : goal.returns-in-Got
returns-in-Got c = search rules steps 100000
