use Rattle.std.proofs.Common.{rules}
use Rattle.modem_one.proofs.controls.make.Goals as goal

pub returns-clause-lines : goal.returns-clause-lines
returns-clause-lines c = search rules steps 1000000
