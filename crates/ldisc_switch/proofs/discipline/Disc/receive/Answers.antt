use Rattle.std.proofs.Common.{rules, arith}
use Rattle.std.proofs.lemmas.Grind.{common_steps}
use Rattle.ldisc_switch.proofs.discipline.Disc.receive.Goals as goal

pub returns-in-Tty-clause-after : goal.returns-in-Tty-clause-after
returns-in-Tty-clause-after c = search rules steps 300000

pub returns-in-Tty-clause-happened : goal.returns-in-Tty-clause-happened
returns-in-Tty-clause-happened c = grind (arith, common_steps) steps 500000

pub returns-in-Tty-clause-past : goal.returns-in-Tty-clause-past
returns-in-Tty-clause-past c = search rules steps 300000
