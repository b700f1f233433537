use Rattle.std.proofs.Common.{arith}
use Rattle.std.proofs.lemmas.Grind.{common_steps}
use Rattle.tty_base.proofs.buffers.Buffer.take_front.Goals as goal

pub returns-clause-rest : goal.returns-clause-rest
returns-clause-rest g c = grind (arith, common_steps) steps 500000
