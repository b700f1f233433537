use Rattle.std.proofs.Common.{sym, ◌∙◌}
use Rattle.modem_steps.specs.Derived.{carrier_on}
use Rattle.modem_one.specs.Turns.{port_now}
use Rattle.modem_one.proofs.Asking.{can_turn, others_turn}
use Rattle.modem_one.proofs.turns.next_by_rank.Goals as goal

pub returns-in-Some-clause-turn : goal.returns-in-Some-clause-turn
returns-in-Some-clause-turn g c =
    can_turn (port_now g.frame.first.port g.frame.session c.args.port.now) c.args.desk.now c.args.port.now.terminal
    c.args.roles.now (carrier_on g.frame.first.port g.frame.session) _ c.requires.0.callers c.requires.0.many _ _
    (sym c.has_nothing_to_flush.ensures ∙ c.if-not-has_nothing_to_flush.false) c.first_of.ensures c.in-Some.is

pub returns-in-None-clause-turn : goal.returns-in-None-clause-turn
returns-in-None-clause-turn g c =
    others_turn (port_now g.frame.first.port g.frame.session c.args.port.now) c.args.desk.now c.args.port.now.terminal
    c.args.roles.now (carrier_on g.frame.first.port g.frame.session) _ c.requires.0.callers c.requires.0.many _ _
    (sym c.has_nothing_to_flush.ensures ∙ c.if-not-has_nothing_to_flush.false) c.first_of.ensures c.in-None.is
    c.next_of_others.ensures.turn
