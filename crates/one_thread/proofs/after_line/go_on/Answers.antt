use Rattle.std.proofs.lemmas.Result.{IfOk-weaker}
use Rattle.tty_calls.specs.Plain.{call_of}
use Rattle.legal_runs.specs.Order.{is_of_consoles}
use Rattle.one_thread.specs.Turns.{role_numbers, PlaysOn}
use Rattle.one_thread.specs.Acts.{PlaysLast}
use Rattle.one_thread.specs.declared.after_line.Turn.TheVariants as turn
use Rattle.one_thread.proofs.Possible.{by_rank}
use Rattle.one_thread.proofs.Orders.{plays_any, any_call, any_last}
use Rattle.one_thread.proofs.Ready.{is_place, role_known, turns_at, first_below, next_at, none_at}
use Rattle.one_thread.proofs.after_line.go_on.Goals as goal

pub bounds-roles-place : goal.bounds-roles-place
bounds-roles-place g c =
    is_place c.args.port.now c.args.roles.now c.args.stand.going c.args.place
    (by_rank (is_of_consoles g.scene.session) c.args.port.now (role_numbers c.args.roles.now) c.args.stand.going
    (turn.Call c.args.place) c.requires.1)

pub caller-step-requires : goal.caller-step-requires
caller-step-requires g c =
    let possible = by_rank (is_of_consoles g.scene.session) c.args.port.now (role_numbers c.args.roles.now)
    c.args.stand.going (turn.Call c.args.place) c.requires.1 in
    let turns = turns_at g.scene c.args.scripts.now c.args.roles.now c.args.port.now c.args.stand c.args.place _
    (plays_any g.scene c.args.scripts.now c.args.roles.now c.args.port.now c.args.stand c.requires.0) possible in
    role_known g.scene c.args.scripts.now c.args.roles.now c.args.port.now
    c.args.stand c.args.place _ c.requires.0 turns.is

pub next_call-requires : goal.next_call-requires
next_call-requires g c =
    let possible = by_rank (is_of_consoles g.scene.session) c.args.port.now (role_numbers c.args.roles.now)
    c.args.stand.going (turn.Call c.args.place) c.requires.1 in
    first_below g.scene c.args.scripts.now c.args.roles.now c.args.port.now
    c.args.stand c.args.place _ c.caller-step.result
    (turns_at g.scene c.args.scripts.now c.args.roles.now c.args.port.now c.args.stand c.args.place _
    (plays_any g.scene c.args.scripts.now c.args.roles.now c.args.port.now c.args.stand c.requires.0) possible)
    c.caller-step.ensures

pub try_call-requires : goal.try_call-requires
try_call-requires g c =
    let possible = by_rank (is_of_consoles g.scene.session) c.args.port.now (role_numbers c.args.roles.now)
    c.args.stand.going (turn.Call c.args.place) c.requires.1 in
    any_call c.args.roles.now c.args.port.now c.args.stand c.args.place (call_of c.in-Some.call)
    (record { scene = g.scene; scripts = c.args.scripts.now; plays = c.requires.0; is_turn = c.requires.1 })
    (next_at g.scene c.args.scripts.now c.args.roles.now c.args.port.now c.args.stand c.args.place _
    c.caller-step.result (call_of c.in-Some.call)
    (plays_any g.scene c.args.scripts.now c.args.roles.now c.args.port.now c.args.stand c.requires.0)
    possible c.caller-step.ensures c.in-Some.ensures)

pub returns-in_ok-_tried-in-Some-clause-ok : goal.returns-in_ok-_tried-in-Some-clause-ok
returns-in_ok-_tried-in-Some-clause-ok g c =
    let possible = by_rank (is_of_consoles g.scene.session) c.args.port.now (role_numbers c.args.roles.now)
    c.args.stand.going (turn.Call c.args.place) c.requires.1 in
    c.in_ok-_tried-in-Some.ensures.ok.in_order
    (record { scene = g.scene; scripts = c.args.scripts.now; plays = c.requires.0; is_turn = c.requires.1 })
    (next_at g.scene c.args.scripts.now c.args.roles.now c.args.port.now c.args.stand c.args.place _
    c.caller-step.result (call_of c.in-Some.call)
    (plays_any g.scene c.args.scripts.now c.args.roles.now c.args.port.now c.args.stand c.requires.0)
    possible c.caller-step.ensures c.in-Some.ensures)

pub end_calls-requires : goal.end_calls-requires
end_calls-requires g c =
    let possible = by_rank (is_of_consoles g.scene.session) c.args.port.now (role_numbers c.args.roles.now)
    c.args.stand.going (turn.Call c.args.place) c.requires.1 in
    any_last c.args.roles.now c.args.port.now c.args.stand c.args.place
    (record { scene = g.scene; scripts = c.args.scripts.now; plays = c.requires.0; is_turn = c.requires.1 })
    (none_at g.scene c.args.scripts.now c.args.roles.now c.args.port.now
    c.args.stand c.args.place _ c.caller-step.result
    (plays_any g.scene c.args.scripts.now c.args.roles.now c.args.port.now c.args.stand c.requires.0)
    possible c.caller-step.ensures c.in-None.ensures)

pub returns-in-None-clause-ok : goal.returns-in-None-clause-ok
returns-in-None-clause-ok g c =
    let possible = by_rank (is_of_consoles g.scene.session) c.args.port.now (role_numbers c.args.roles.now)
    c.args.stand.going (turn.Call c.args.place) c.requires.1 in
    IfOk-weaker c.end_calls.result
    (λ now. PlaysLast c.args.roles.now c.args.port.now c.end_calls.new.port c.args.stand now c.args.place)
    (λ now. PlaysOn g.scene c.args.scripts.now c.args.roles.now c.args.port.now c.end_calls.new.port c.args.stand now)
    (λ now plays.
    plays.in_order
    (record { scene = g.scene; scripts = c.args.scripts.now; plays = c.requires.0; is_turn = c.requires.1 })
    (none_at g.scene c.args.scripts.now c.args.roles.now c.args.port.now
    c.args.stand c.args.place _ c.caller-step.result
    (plays_any g.scene c.args.scripts.now c.args.roles.now c.args.port.now c.args.stand c.requires.0)
    possible c.caller-step.ensures c.in-None.ensures))
    c.end_calls.ensures.ok
