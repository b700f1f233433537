use Rattle.std.proofs.Common.{rules}
use Rattle.ldisc_switch.proofs.kinds.Kind.of.Goals as goal

pub returns-in_default : goal.returns-in_default
returns-in_default c = search rules steps 100000
