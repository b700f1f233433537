use Rattle.ldisc_switch.proofs.PacketLemmas.{seen_by_slip}
use Rattle.ldisc_switch.proofs.laws.packets_of_all_heard.Goals as goal

pub returns : goal.returns
returns c slip events h = seen_by_slip slip events h
