use Rattle.tty_calls.specs.Plain.{call_of}
use Rattle.port_core.specs.Attempts.{tried_of}
use Rattle.one_thread.proofs.Orders.{plays_call}
use Rattle.one_thread.proofs.Ready.{is_place, number_known, ready_at, tried_at}
use Rattle.one_thread.proofs.Trying.{attempted}
use Rattle.one_thread.proofs.after_line.try_call.Goals as goal

pub bounds-roles-place : goal.bounds-roles-place
bounds-roles-place c =
    is_place c.args.port.now c.args.roles.now c.args.stand.going c.args.place c.requires.in_turn.possible

pub caller-step-requires : goal.caller-step-requires
caller-step-requires c =
    let h = c.requires in
    number_known h.in_turn.scene h.in_turn.scripts c.args.roles.now c.args.port.now c.args.stand c.args.place
    (call_of c.args.call.now) _ h.in_turn.plays h.next

pub attempt-requires : goal.attempt-requires
attempt-requires c =
    let h = c.requires in
    ready_at h.in_turn.scene h.in_turn.scripts c.args.roles.now c.args.port.now c.args.stand c.args.place
    (call_of c.args.call.now) _ c.caller-step.result h.in_turn.plays h.in_turn.possible h.next c.caller-step.ensures

pub returns-clause-tried : goal.returns-clause-tried
returns-clause-tried c = attempted c.args.roles.now c.args.port.now c.attempt.new.self c.args.stand c.args.place
    (call_of c.args.call.now) _ c.caller-step.result (tried_of c.in_ok-tried.tried)
    c.requires c.caller-step.ensures c.in_ok-tried.ensures.tried

pub returns-clause-ok : goal.returns-clause-ok
returns-clause-ok c =
    plays_call c.args.roles.now c.args.port.now c.attempt.new.self c.args.stand
    (record {
      run = c.rest.result.run;
      part = c.rest.result.part;
      ticks = c.rest.result.ticks;
      going = c.goes_on_at.result;
    }) c.args.place (call_of c.args.call.now)
    (λ h.
    tried_at h.in_turn.scene h.in_turn.scripts c.args.roles.now c.args.port.now c.attempt.new.self c.args.stand
    c.rest.result c.args.place (call_of c.args.call.now) _ c.caller-step.result (tried_of c.in_ok-tried.tried)
    c.goes_on_at.result
    h.in_turn.plays h.in_turn.possible h.next c.caller-step.ensures c.in_ok-tried.ensures.tried
    c.rest.ensures c.goes_on_at.ensures)
