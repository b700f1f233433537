use Rattle.std.proofs.Common.{rules}
use Rattle.modem_one.proofs.desks.Desk.set_pin.Goals as goal

pub returns-clause-lost : goal.returns-clause-lost
returns-clause-lost c = search rules steps 1000000

pub returns-clause-ok : goal.returns-clause-ok
returns-clause-ok c = search rules steps 1000000
