use Rattle.std.proofs.Common.{rules}
use Rattle.flow_control.proofs.output.Wire.urgent.Goals as goal

pub returns-clause-after : goal.returns-clause-after
returns-clause-after c = search rules steps 100000
