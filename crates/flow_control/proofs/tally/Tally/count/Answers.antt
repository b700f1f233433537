use Rattle.std.proofs.Common.{rules}
use Rattle.flow_control.proofs.tally.Tally.count.Goals as goal

pub returns-in-Parity : goal.returns-in-Parity
returns-in-Parity c = search rules steps 100000
