use Rattle.std.proofs.Common.{◌+◌, drop, subst, List}
use Rattle.vt_consoles.specs.Shared.{name_of_board}
use Rattle.vt_text.specs.declared.sessions.OpCall.{OpCall}
use Rattle.vt_text.specs.Sessions.{operator_of, operators_of}
use Rattle.vt_keyboard.specs.Operating.{AnswersCalls, AnswersFirst, calls_of_operator, calls_of_seat}
use Rattle.vt_keyboard.proofs.SeatLemmas.{up_to_none, up_to_more, up_to_all, first_then}
use Rattle.vt_keyboard.proofs.SeatLemmas.{seat_next, seat_over, where_any_err}
use Rattle.vt_keyboard.proofs.operators.operate.Goals as goal

pub loop-operator-init : goal.loop-operator-init
loop-operator-init g c = record {
  seat = c.requires;
  so_far = up_to_none (name_of_board c.args.board.now).consoles c.args.number
      (calls_of_seat c.args.names.now c.args.number (operators_of c.args.operators.now)) c.args.seat.now;
}

pub returns-in_err-call_all-clause-err : goal.returns-in_err-call_all-clause-err
returns-in_err-call_all-clause-err g c =
    let k = (name_of_board c.args.board.now).consoles in
    let n = c.args.number in
    let names = c.args.names.now in
    let operators = c.args.operators.now in
    let i = c.loop-operator.operator-index in
    let x = c.operator-item.result in
    let some = calls_of_operator names n (operator_of x) in
    where_any_err c.from_residual.result _
    (first_then k n (calls_of_seat names n (operators_of operators))
    (calls_of_seat names n (operators_of (drop i operators))) some
    (calls_of_seat names n (operators_of (drop (i + 1) operators)))
    c.args.seat.now c.loop-operator.seat c.call_all.new.seat
    (seat_next names n i operators x c.loop-operator-test.true c.operator-item.is) c.loop-operator.invariant.so_far
    (subst (λ (l : List OpCall). AnswersFirst k n l c.loop-operator.seat c.call_all.new.seat)
    c.calls_of.ensures c.in_err-call_all.ensures.err))

pub loop-operator-preserved : goal.loop-operator-preserved
loop-operator-preserved g c =
    let k = (name_of_board c.args.board.now).consoles in
    let n = c.args.number in
    let names = c.args.names.now in
    let operators = c.args.operators.now in
    let i = c.loop-operator.operator-index in
    let x = c.operator-item.result in
    let some = calls_of_operator names n (operator_of x) in
    record {
      seat = c.call_all.ensures.seat;
      so_far = up_to_more k n (calls_of_seat names n (operators_of operators))
          (calls_of_seat names n (operators_of (drop i operators))) some
          (calls_of_seat names n (operators_of (drop (i + 1) operators)))
          c.args.seat.now c.loop-operator.seat c.call_all.new.seat
          (seat_next names n i operators x c.loop-operator-test.true c.operator-item.is)
          c.loop-operator.invariant.so_far
          (subst (λ (l : List OpCall). AnswersCalls k n l c.loop-operator.seat c.call_all.new.seat)
          c.calls_of.ensures c.in_ok-call_all.ensures.ok);
    }

pub returns-clause-ok : goal.returns-clause-ok
returns-clause-ok g c =
    let names = c.args.names.now in
    let operators = c.args.operators.now in
    let i = c.loop-operator.operator-index in
    up_to_all (name_of_board c.args.board.now).consoles c.args.number
    (calls_of_seat names c.args.number (operators_of operators))
    (calls_of_seat names c.args.number (operators_of (drop i operators)))
    c.args.seat.now c.loop-operator.seat (seat_over names c.args.number i operators c.loop-operator-test.false)
    c.loop-operator.invariant.so_far
