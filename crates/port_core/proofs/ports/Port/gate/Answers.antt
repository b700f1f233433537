use Rattle.std.proofs.Common.{rules}
use Rattle.port_core.proofs.ports.Port.gate.Goals as goal

pub returns-then-len-self-clause-err : goal.returns-then-len-self-clause-err
returns-then-len-self-clause-err c = search rules steps 1000000

pub returns-then-self-clause-open : goal.returns-then-self-clause-open
returns-then-self-clause-open c = tt
