use Rattle.std.proofs.Common.{rules}
use Rattle.flow_control.proofs.output.Wire.send.Goals as goal

pub returns-then-bytes-room-clause-sent : goal.returns-then-bytes-room-clause-sent
returns-then-bytes-room-clause-sent c = search rules steps 300000
