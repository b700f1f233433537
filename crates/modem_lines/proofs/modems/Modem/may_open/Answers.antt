use Rattle.std.proofs.Common.{rules}
use Rattle.modem_lines.proofs.modems.Modem.may_open.Goals as goal

pub returns-else-self : goal.returns-else-self
returns-else-self c = search rules steps 100000
