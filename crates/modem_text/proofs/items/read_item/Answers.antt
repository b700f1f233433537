use Rattle.std.proofs.Common.{rules}
use Rattle.modem_text.proofs.items.read_item.Goals as goal

pub returns-in-Dcd : goal.returns-in-Dcd
returns-in-Dcd c = search rules steps 100000
