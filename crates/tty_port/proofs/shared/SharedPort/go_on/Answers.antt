use Rattle.std.proofs.Common.{◌≡◌, arith}
use Rattle.tty_calls.specs.Plain.{call_of, answer_of}
use Rattle.port_cell.specs.Word.{generation_in}
use Rattle.port_cell.specs.Knowledge.{list_seen, last_word}
use Rattle.port_core.specs.Attempts.{done_by}
use Rattle.port_cell.specs.Entries.{generation_of}
use Rattle.tty_port.specs.Going.{Turns, StepsOn}
use Rattle.tty_port.proofs.Outcomes.{at_ok}
use Rattle.tty_port.proofs.CallSteps.{begins_going, goes_on, answers_going, pauses_none}
use Rattle.tty_port.proofs.shared.SharedPort.go_on.Goals as goal

pub loop-init : goal.loop-init
loop-init g c =
    record {
      next = tt;
      finite = tt;
      seat = c.requires.seat;
      found = c.requires.found;
      steps = omega arith;
      going = begins_going c.args.caller c.args.step (call_of c.args.call.now)
          (generation_in (last_word c.args.seat.now)) c.args.seat.now c.requires.ready;
    }

pub returns-in-Ok-Some-clause-ok : goal.returns-in-Ok-Some-clause-ok
returns-in-Ok-Some-clause-ok g c =
    let new = c.step_on.new.seat in
    let call = call_of c.args.call.now in
    let r = c.step_on.result in
    let is = c.in-Ok-Some.is in
    let some = c.in-Ok-Some.field-0-is in
    let turns : Turns c.args.caller c.args.step call (generation_in (last_word new)) c.loop.seat new
    (done_by (answer_of c.in-Ok-Some.answer)) = at_ok r c.in-Ok-Some.field-0 _ _ is some c.step_on.ensures.some in
    let same : generation_in (last_word new) ≡ generation_in (last_word c.loop.seat) =
    at_ok r c.in-Ok-Some.field-0 _ _ is some c.step_on.ensures.same in
    let still : generation_of (list_seen new) ≡ generation_in (last_word new) =
    at_ok r c.in-Ok-Some.field-0 _ _ is some c.step_on.ensures.generation in
    let steps = c.step_on.ensures.steps in
    answers_going c.args.caller c.args.step (call_of c.args.call.now) (answer_of c.in-Ok-Some.answer) c.args.seat.now
    c.loop.seat c.step_on.new.seat c.loop.invariant.going turns.0 turns.1 same still steps c.step_on.ensures.installs

pub loop-preserved : goal.loop-preserved
loop-preserved g c =
    let inv = c.loop.invariant in
    let before = inv.steps in
    let after = c.step_on.ensures.steps in
    let steps : StepsOn c.args.caller c.args.step (call_of c.args.call.now) c.loop.seat c.step_on.new.seat =
    at_ok c.step_on.result c.in-Ok-None.field-0 _ _ c.in-Ok-None.is c.in-Ok-None.field-0-is c.step_on.ensures.none in
    record {
      next = tt;
      finite = tt;
      seat = c.step_on.ensures.seat;
      found = c.step_on.ensures.found;
      steps = omega arith;
      going = goes_on c.args.caller c.args.step (call_of c.args.call.now) c.args.seat.now c.loop.seat c.step_on.new.seat
          inv.going steps after c.step_on.ensures.installs;
    }

pub returns-in-Err-clause-err : goal.returns-in-Err-clause-err
returns-in-Err-clause-err g c =
    pauses_none c.args.caller c.args.step (call_of c.args.call.now) c.args.seat.now c.loop.seat c.step_on.new.seat
    c.loop.invariant.going.so_far c.in-Err.ensures.err c.step_on.ensures.steps c.step_on.ensures.installs
