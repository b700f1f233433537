use Rattle.std.proofs.Common.{rules}
use Rattle.n_slip.proofs.discipline.NSlip.step.Goals as goal

pub returns-in-Packet-2-clause-after : goal.returns-in-Packet-2-clause-after
returns-in-Packet-2-clause-after c = search rules steps 300000
