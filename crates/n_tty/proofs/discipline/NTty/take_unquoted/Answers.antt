use Rattle.std.proofs.Common.{rules}
use Rattle.n_tty.proofs.discipline.NTty.take_unquoted.Goals as goal

pub returns-in-Some : goal.returns-in-Some
returns-in-Some c = search rules steps 1500000

pub returns-in-None : goal.returns-in-None
returns-in-None c = search rules steps 300000
