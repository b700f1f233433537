use Rattle.std.proofs.Common.{rules}
use Rattle.tty_device.proofs.lines.Line.put.Goals as goal

pub returns-clause-after : goal.returns-clause-after
returns-clause-after c = search rules steps 300000
