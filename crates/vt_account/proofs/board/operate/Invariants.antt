use Rattle.vt_text.specs.Sessions.{operators_of}
use Rattle.vt_account.specs.Played.{HasOperated}
use Rattle.vt_account.proofs.board.operate.Given as goal

abbrev pub invariant-loop-operator : goal.invariant-loop-operator
invariant-loop-operator l = HasOperated l.names (operators_of l.operators) l.operator-index l.initial.board l.board
