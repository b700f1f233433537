use Rattle.std.proofs.Common.{rules}
use Rattle.port_core.proofs.ports.Port.may_end.Goals as goal

pub returns : goal.returns
returns c = search rules steps 100000
