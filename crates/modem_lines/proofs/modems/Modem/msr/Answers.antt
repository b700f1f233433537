use Rattle.std.proofs.Common.{rules}
use Rattle.modem_lines.proofs.modems.Modem.msr.Goals as goal

pub returns-clause-after : goal.returns-clause-after
returns-clause-after c = search rules steps 100000
