use Rattle.std.proofs.Common.{rules}
use Rattle.flow_control.proofs.output.Wire.take_front.Goals as goal

pub returns-clause-rest : goal.returns-clause-rest
returns-clause-rest c = search rules steps 100000
