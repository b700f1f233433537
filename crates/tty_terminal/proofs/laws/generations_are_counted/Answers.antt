use Rattle.tty_terminal.proofs.BeginLaws.{step_generation}
use Rattle.tty_terminal.proofs.laws.generations_are_counted.Goals as goal

pub returns : goal.returns
returns c = step_generation
