use Rattle.std.proofs.Common.{rules}
use Rattle.modem_one.proofs.controls.control.Goals as goal

pub returns-else-handle-clause-answer : goal.returns-else-handle-clause-answer
returns-else-handle-clause-answer c = search rules steps 300000

pub returns-else-handle-clause-lines : goal.returns-else-handle-clause-lines
returns-else-handle-clause-lines c = search rules steps 300000
