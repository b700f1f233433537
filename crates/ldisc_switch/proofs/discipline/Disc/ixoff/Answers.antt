use Rattle.std.proofs.Common.{rules}
use Rattle.ldisc_switch.proofs.discipline.Disc.ixoff.Goals as goal

pub returns-in-Slip-clause-wire : goal.returns-in-Slip-clause-wire
returns-in-Slip-clause-wire c = search rules steps 300000
