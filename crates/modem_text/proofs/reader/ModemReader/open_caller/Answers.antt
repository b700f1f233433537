use Rattle.std.proofs.Common.{rules}
use Rattle.modem_text.proofs.reader.ModemReader.open_caller.Goals as goal

pub returns : goal.returns
returns c = search rules steps 1000000
