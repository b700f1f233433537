use Rattle.std.proofs.Common.{rules}
use Rattle.tty_port.proofs.shared.SharedPort.await_users.Goals as goal

pub returns-in-Ok-clause-seat : goal.returns-in-Ok-clause-seat
returns-in-Ok-clause-seat g c = search rules steps 1000000

pub returns-in-Ok-clause-unused : goal.returns-in-Ok-clause-unused
returns-in-Ok-clause-unused g c = search rules steps 1000000
