use Rattle.std.proofs.Common.{drop}
use Rattle.vt_consoles.specs.Shared.{IsHere, name_of_board}
use Rattle.vt_keyboard.specs.Operating.{AnswersUpTo}
use Rattle.vt_keyboard.proofs.operators.call_all.Given as goal

abbrev pub invariant-loop-call : goal.invariant-loop-call
invariant-loop-call g l = record {
  seat : IsHere l.board l.number l.seat;
  so_far : AnswersUpTo (name_of_board l.board).consoles l.number l.calls (drop l.call-index l.calls)
      l.initial.seat l.seat;
}
