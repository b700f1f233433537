use Rattle.std.proofs.Common.{rules}
use Rattle.modem_lines.proofs.modems.Modem.set.Goals as goal

pub returns-in-Dcd-clause-lost : goal.returns-in-Dcd-clause-lost
returns-in-Dcd-clause-lost c = search rules steps 100000

pub returns-after-self-5-clause-after : goal.returns-after-self-5-clause-after
returns-after-self-5-clause-after c = search rules steps 100000
