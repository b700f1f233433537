use Rattle.std.proofs.Common.{rules}
use Rattle.n_slip.proofs.discipline.NSlip.send_packet.Goals as goal

pub returns-then-encoded-room-clause-room : goal.returns-then-encoded-room-clause-room
returns-then-encoded-room-clause-room c = search rules steps 100000
