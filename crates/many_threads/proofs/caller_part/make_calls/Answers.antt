use Rattle.std.proofs.Common.{subst, arith}
use Rattle.tty_calls.specs.Plain.{call_of, answer_of}
use Rattle.port_cell.specs.Knowledge.{list_seen}
use Rattle.tty_port.specs.Calls.{Answers, Pauses}
use Rattle.many_threads.proofs.PartLemmas.{call_number, call_bytes, answered_more, paused_more}
use Rattle.many_threads.proofs.caller_part.make_calls.Goals as goal

pub call-requires-clause-number : goal.call-requires-clause-number
call-requires-clause-number g c =
    call_number c.args.calls.now.items c.loop-place.place (call_of c.at-call.result) c.requires.within c.at-call.ensures

pub call-requires-clause-bytes : goal.call-requires-clause-bytes
call-requires-clause-bytes g c =
    call_bytes c.args.calls.now.items c.loop-place.place (call_of c.at-call.result) c.requires.within c.at-call.ensures

pub returns-in_err-_answer-clause-makes : goal.returns-in_err-_answer-clause-makes
returns-in_err-_answer-clause-makes g c =
    let at = c.at-call.ensures in
    let stops = subst (λ k. Pauses c.args.caller k (call_of c.at-call.result) c.loop-place.seat c.call.new.seat)
    c.loop-place.invariant.step_is c.in_err-_answer.ensures.err in
    paused_more c.args.caller c.args.first c.loop-place.place c.args.calls.now.items (call_of c.at-call.result)
    (list_seen c.args.seat.now) c.loop-place.seat c.call.new.seat at c.loop-place.invariant.makes stops

pub loop-place-preserved : goal.loop-place-preserved
loop-place-preserved g c =
    let at = c.at-call.ensures in
    let answers : Answers c.args.caller c.loop-place.step (call_of c.at-call.result) (answer_of c.in_ok-_answer._answer)
    c.loop-place.seat c.call.new.seat = c.in_ok-_answer.ensures.ok in
    let told = subst (λ k. Answers c.args.caller k (call_of c.at-call.result) (answer_of c.in_ok-_answer._answer)
    c.loop-place.seat c.call.new.seat) c.loop-place.invariant.step_is answers in
    let step_was = c.loop-place.invariant.step_is in
    record {
      seat = c.call.ensures.seat;
      step_is = omega arith;
      between = answers.answered.next;
      makes = answered_more c.args.caller c.args.first c.loop-place.place c.args.calls.now.items
          (call_of c.at-call.result) (answer_of c.in_ok-_answer._answer) (list_seen c.args.seat.now) c.loop-place.seat
          c.call.new.seat at c.loop-place.invariant.makes told.answered;
    }
