use Rattle.one_thread.proofs.Orders.{plays_last}
use Rattle.one_thread.proofs.Ready.{is_place, last_at, ends_at, ended_at, known_at}
use Rattle.one_thread.proofs.after_line.end_calls.Goals as goal

pub bounds-roles-place : goal.bounds-roles-place
bounds-roles-place c =
    is_place c.args.port.now c.args.roles.now c.args.stand.going c.args.place c.requires.in_turn.possible

pub caller_end-requires-clause-known : goal.caller_end-requires-clause-known
caller_end-requires-clause-known c = known_at c.args.roles.now c.args.port.now c.args.stand c.args.place _ c.requires

pub caller_end-requires-clause-not_over : goal.caller_end-requires-clause-not_over
caller_end-requires-clause-not_over c =
    (last_at c.args.roles.now c.args.port.now c.args.stand c.args.place _ c.requires).not_over

pub caller_end-requires-clause-between : goal.caller_end-requires-clause-between
caller_end-requires-clause-between c =
    (last_at c.args.roles.now c.args.port.now c.args.stand c.args.place _ c.requires).between

pub returns-clause-ended : goal.returns-clause-ended
returns-clause-ended c = ended_at c.args.roles.now c.args.port.now c.caller_end.new.self c.args.stand
    c.args.place _ c.requires c.in_ok-caller_end.ensures.ok

pub returns-clause-ok : goal.returns-clause-ok
returns-clause-ok c =
    plays_last c.args.roles.now c.args.port.now c.caller_end.new.self c.args.stand c.rest.result c.args.place
    (λ h. ends_at c.args.roles.now c.args.port.now c.caller_end.new.self c.args.stand c.args.place _
    c.rest.result h c.in_ok-caller_end.ensures.ok c.rest.ensures)
