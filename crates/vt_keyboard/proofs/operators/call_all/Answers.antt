use Rattle.std.proofs.Common.{rules, ◌+◌, ◌∷◌, [], drop, get_or}
use Rattle.std.proofs.lemmas.List.{drop_all}
use Rattle.vt_consoles.specs.Shared.{name_of_board}
use Rattle.vt_text.specs.declared.sessions.OpCall.TheVariants.{Activate}
use Rattle.vt_keyboard.proofs.SeatLemmas.{up_to_none, up_to_more, up_to_all, first_then}
use Rattle.vt_keyboard.proofs.SeatLemmas.{first_none, next_item, next_or, where_any_err}
use Rattle.vt_keyboard.proofs.operators.call_all.Goals as goal

pub loop-call-init : goal.loop-call-init
loop-call-init g c = record {
  seat = c.requires;
  so_far = up_to_none (name_of_board c.args.board.now).consoles c.args.number c.args.calls.now c.args.seat.now;
}

pub returns-in_err-call_one-clause-err : goal.returns-in_err-call_one-clause-err
returns-in_err-call_one-clause-err g c =
    let k = (name_of_board c.args.board.now).consoles in
    let n = c.args.number in
    let calls = c.args.calls.now in
    let i = c.loop-call.call-index in
    let call = get_or calls i (Activate 0) in
    where_any_err c.from_residual.result _
    (first_then k n calls (drop i calls) (call ∷ []) (drop (i + 1) calls) c.args.seat.now c.loop-call.seat
    c.call_one.new.seat (next_or calls i (Activate 0) c.loop-call-test.true)
    c.loop-call.invariant.so_far
    (first_none k n (call ∷ []) c.loop-call.seat c.call_one.new.seat c.in_err-call_one.ensures.err
    c.in_err-call_one.ensures.accepted))

pub loop-call-preserved : goal.loop-call-preserved
loop-call-preserved g c =
    let k = (name_of_board c.args.board.now).consoles in
    let n = c.args.number in
    let calls = c.args.calls.now in
    let i = c.loop-call.call-index in
    record {
      seat = c.call_one.ensures.seat;
      so_far = up_to_more k n calls (drop i calls) (_ ∷ []) (drop (i + 1) calls) c.args.seat.now c.loop-call.seat
          c.call_one.new.seat (next_item calls i _ c.loop-call-test.true (search rules))
          c.loop-call.invariant.so_far c.in_ok-call_one.ensures.ok;
    }

pub returns-clause-ok : goal.returns-clause-ok
returns-clause-ok g c =
    let calls = c.args.calls.now in
    let i = c.loop-call.call-index in
    up_to_all (name_of_board c.args.board.now).consoles c.args.number calls (drop i calls) c.args.seat.now
    c.loop-call.seat (drop_all i calls c.loop-call-test.false) c.loop-call.invariant.so_far
