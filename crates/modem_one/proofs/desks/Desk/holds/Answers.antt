use Rattle.std.proofs.Common.{rules}
use Rattle.modem_one.proofs.desks.Desk.holds.Goals as goal

pub returns-then-is_none : goal.returns-then-is_none
returns-then-is_none c = search rules steps 300000

pub returns-else-is_none : goal.returns-else-is_none
returns-else-is_none c = search rules steps 300000
