use Rattle.std.proofs.Common.{[], sym, ap, ◌∙◌, if◌then◌else◌, Bool}
use Rattle.std.specs.Option.{option_to_list}
use Rattle.modem_text.specs.Sessions.{step_of}
use Rattle.modem_steps.specs.Steps.{least_live}
use Rattle.modem_one.proofs.Taking.{hanging_up, takes_item}
use Rattle.modem_one.proofs.acts.take_item.Goals as goal

pub returns-then-not-lost-clause-ok : goal.returns-then-not-lost-clause-ok
returns-then-not-lost-clause-ok g c =
    takes_item g.frame c.args.roles.now c.args.port.now c.args.desk.now c.set_pin.new.self c.args.stand
    (step_of c.args.item) c.in_ok-lost.lost c.requires.1.0 c.requires.1.1.0 c.known.ensures.port
    c.requires.1.1.1 c.in_ok-lost.ensures.ok
    (ap (λ (b : Bool). if b then least_live c.args.port.now.terminal else [])
    (sym c.in_ok-lost.ensures.lost ∙ c.if-not-lost.true))

pub hang_up-requires : goal.hang_up-requires
hang_up-requires g c =
    hanging_up g.frame c.args.roles.now c.args.port.now c.args.desk.now c.set_pin.new.self c.args.stand
    (step_of c.args.item) c.in-Some.h c.requires.0 c.requires.1.0 c.requires.1.1.0 c.known.ensures.port
    c.requires.1.1.1 c.in_ok-lost.ensures.ok (sym c.in_ok-lost.ensures.lost ∙ c.if-not-lost.false)
    (sym c.least_live.ensures ∙ c.in-Some.is)

pub returns-in-None-clause-ok : goal.returns-in-None-clause-ok
returns-in-None-clause-ok g c =
    takes_item g.frame c.args.roles.now c.args.port.now c.args.desk.now c.set_pin.new.self c.args.stand
    (step_of c.args.item) c.in_ok-lost.lost c.requires.1.0 c.requires.1.1.0 c.known.ensures.port
    c.requires.1.1.1 c.in_ok-lost.ensures.ok
    (ap (λ (b : Bool). if b then least_live c.args.port.now.terminal else [])
    (sym c.in_ok-lost.ensures.lost ∙ c.if-not-lost.false)
    ∙ ap option_to_list (sym c.least_live.ensures ∙ c.in-None.is))
