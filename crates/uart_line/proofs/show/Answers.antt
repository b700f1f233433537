use Rattle.std.proofs.Common.{rules, arith}
use Rattle.std.proofs.lemmas.Grind.{common_steps}
use Rattle.uart_line.proofs.show.Goals as goal

pub returns-clause-visible : goal.returns-clause-visible
returns-clause-visible g c = search rules steps 100000

pub returns-clause-rise : goal.returns-clause-rise
returns-clause-rise g c = grind (arith, common_steps) steps 500000
