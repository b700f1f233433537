use Rattle.std.proofs.Common.{rules}
use Rattle.flow_control.proofs.output.Wire.tco_on.Goals as goal

pub returns-then-self-clause-after : goal.returns-then-self-clause-after
returns-then-self-clause-after c = search rules steps 300000
