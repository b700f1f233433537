use Rattle.std.proofs.Common.{rules}
use Rattle.tty_c.proofs.values.read.Goals as goal

pub returns-in-Ok-None-clause-answer : goal.returns-in-Ok-None-clause-answer
returns-in-Ok-None-clause-answer c = search rules steps 300000
