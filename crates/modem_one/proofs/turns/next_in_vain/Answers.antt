use Rattle.std.proofs.Common.{rules, [], sym, ◌∙◌}
use Rattle.one_thread.specs.Turns.{role_numbers}
use Rattle.modem_one.specs.Desk.{state_at}
use Rattle.modem_one.specs.Turns.{port_now}
use Rattle.modem_one.proofs.Asking.{told_turn, waits_turn, end_turn}
use Rattle.modem_one.proofs.turns.next_in_vain.Goals as goal

pub returns-in-Some-clause-turn : goal.returns-in-Some-clause-turn
returns-in-Some-clause-turn g c =
    told_turn (port_now g.frame.first.port g.frame.session c.args.port.now) (state_at c.args.desk.now 0 [])
    c.args.port.now.terminal (role_numbers c.args.roles.now) _ _ _
    (sym c.clock_is_over.ensures ∙ c.if-not-clock_is_over.false) c.first_of.ensures c.in-Some.is

pub returns-in-Some-first_of-clause-turn : goal.returns-in-Some-first_of-clause-turn
returns-in-Some-first_of-clause-turn g c =
    waits_turn (port_now g.frame.first.port g.frame.session c.args.port.now) (state_at c.args.desk.now 0 [])
    c.args.port.now.terminal (role_numbers c.args.roles.now) _ _ _ _
    (sym c.clock_is_over.ensures ∙ c.if-not-clock_is_over.false) c.first_of.ensures c.in-None.is
    c.first_of-in-None.ensures
    c.in-Some-first_of.is

pub returns-in-None-first_of-clause-turn : goal.returns-in-None-first_of-clause-turn
returns-in-None-first_of-clause-turn g c =
    end_turn (port_now g.frame.first.port g.frame.session c.args.port.now) (state_at c.args.desk.now 0 [])
    c.args.port.now.terminal (role_numbers c.args.roles.now) _ _ _
    (sym c.clock_is_over.ensures ∙ c.if-not-clock_is_over.false) c.first_of.ensures c.in-None.is
    c.first_of-in-None.ensures
    c.in-None-first_of.is

pub returns-then-not-clock_is_over-clause-turn : goal.returns-then-not-clock_is_over-clause-turn
returns-then-not-clock_is_over-clause-turn g c = search rules steps 300000
