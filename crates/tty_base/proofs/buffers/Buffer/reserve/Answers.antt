use Rattle.std.proofs.Common.{arith}
use Rattle.std.proofs.lemmas.Grind.{common_steps}
use Rattle.tty_base.proofs.buffers.Buffer.reserve.Goals as goal

pub returns-in_ok-reserve-clause-ok : goal.returns-in_ok-reserve-clause-ok
returns-in_ok-reserve-clause-ok g c = grind (arith, common_steps) steps 500000

pub returns-in_ok-reserve-clause-grows : goal.returns-in_ok-reserve-clause-grows
returns-in_ok-reserve-clause-grows g c = grind (arith, common_steps) steps 500000
