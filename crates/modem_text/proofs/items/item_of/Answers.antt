use Rattle.std.proofs.Common.{rules}
use Rattle.modem_text.proofs.items.item_of.Goals as goal

pub returns-then-not-has_count : goal.returns-then-not-has_count
returns-then-not-has_count c = search rules steps 100000
