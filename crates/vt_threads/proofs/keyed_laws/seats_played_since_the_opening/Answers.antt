use Rattle.vt_consoles.specs.Histories.{history_of}
use Rattle.vt_consoles.specs.Shared.{opening_board}
use Rattle.vt_threads.proofs.BoardEnds.{made_since, none_to_answer, operator_played}
use Rattle.vt_threads.proofs.keyed_laws.seats_played_since_the_opening.Goals as goal

pub returns-clause-operator : goal.returns-clause-operator
returns-clause-operator c b names phase n old new was is seen h = operator_played b names phase n old new was is seen h

pub returns-clause-any : goal.returns-clause-any
returns-clause-any c b n events old new was is seen h =
    made_since (history_of (opening_board b)) n events old new was is seen h

pub returns-clause-none : goal.returns-clause-none
returns-clause-none c consoles n s = none_to_answer consoles n s
