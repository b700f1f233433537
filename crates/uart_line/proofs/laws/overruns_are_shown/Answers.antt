use Rattle.uart_line.proofs.OfferedLemmas.{HandsOver-kept, HandsOver-shown}
use Rattle.uart_line.proofs.laws.overruns_are_shown.Goals as goal

pub returns-clause-kept : goal.returns-clause-kept
returns-clause-kept c = HandsOver-kept

pub returns-clause-shown : goal.returns-clause-shown
returns-clause-shown c = HandsOver-shown
