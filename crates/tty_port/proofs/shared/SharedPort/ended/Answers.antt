use Rattle.std.proofs.Common.{rules}
use Rattle.tty_port.proofs.shared.SharedPort.ended.Goals as goal

pub returns-clause-ended : goal.returns-clause-ended
returns-clause-ended g c = search rules steps 1000000
