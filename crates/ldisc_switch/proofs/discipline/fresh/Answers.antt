use Rattle.std.proofs.Common.{rules}
use Rattle.ldisc_switch.proofs.discipline.fresh.Goals as goal

pub returns-clause-state : goal.returns-clause-state
returns-clause-state c = search rules steps 300000

pub returns-clause-happened : goal.returns-clause-happened
returns-clause-happened c = search rules steps 300000
