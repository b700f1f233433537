use Rattle.ldisc_switch.proofs.ColumnLemmas.{column_of_posted}
use Rattle.ldisc_switch.proofs.laws.column_of_all_posted.Goals as goal

pub returns : goal.returns
returns c tty events h = column_of_posted tty events h
