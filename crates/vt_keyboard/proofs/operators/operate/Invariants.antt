use Rattle.std.proofs.Common.{drop}
use Rattle.vt_consoles.specs.Shared.{IsHere, name_of_board}
use Rattle.vt_text.specs.Sessions.{operators_of}
use Rattle.vt_keyboard.specs.Operating.{AnswersUpTo, calls_of_seat}
use Rattle.vt_keyboard.proofs.operators.operate.Given as goal

abbrev pub invariant-loop-operator : goal.invariant-loop-operator
invariant-loop-operator g l = record {
  seat : IsHere l.board l.number l.seat;
  so_far : AnswersUpTo (name_of_board l.board).consoles l.number
      (calls_of_seat l.names l.number (operators_of l.operators))
      (calls_of_seat l.names l.number (operators_of (drop l.operator-index l.operators))) l.initial.seat l.seat;
}
