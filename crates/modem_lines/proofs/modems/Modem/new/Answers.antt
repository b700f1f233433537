use Rattle.std.proofs.Common.{rules}
use Rattle.modem_lines.proofs.modems.Modem.new.Goals as goal

pub returns : goal.returns
returns c = search rules steps 100000
