use Rattle.std.proofs.Common.{rules}
use Rattle.flow_control.proofs.output.Wire.send_byte.Goals as goal

pub returns-then-halted-clause-room : goal.returns-then-halted-clause-room
returns-then-halted-clause-room c = search rules steps 100000

pub returns-then-halted-clause-sent : goal.returns-then-halted-clause-sent
returns-then-halted-clause-sent c = search rules steps 300000
