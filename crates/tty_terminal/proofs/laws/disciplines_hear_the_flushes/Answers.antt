use Rattle.std.proofs.Common.{[]}
use Rattle.tty_terminal.proofs.HappenedLaws.{happened_characters, run_heard}
use Rattle.tty_terminal.proofs.laws.disciplines_hear_the_flushes.Goals as goal

pub returns : goal.returns
returns c = record { characters = λ f t es. happened_characters f t es []; heard = run_heard }
