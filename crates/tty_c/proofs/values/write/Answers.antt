use Rattle.std.proofs.Common.{rules}
use Rattle.tty_c.proofs.values.write.Goals as goal

pub returns-in-Ok-clause-answer : goal.returns-in-Ok-clause-answer
returns-in-Ok-clause-answer c = search rules steps 300000

pub returns-in-Ok-clause-after : goal.returns-in-Ok-clause-after
returns-in-Ok-clause-after c = search rules steps 300000
