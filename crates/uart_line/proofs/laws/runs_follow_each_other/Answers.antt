use Rattle.uart_line.proofs.OfferedLemmas.{HandsOver-trans}
use Rattle.uart_line.proofs.laws.runs_follow_each_other.Goals as goal

pub returns : goal.returns
returns c = HandsOver-trans
