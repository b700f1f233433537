use Rattle.std.proofs.Common.{sym, ap, ◌∙◌}
use Rattle.std.proofs.lemmas.Bool.{false≢true}
use Rattle.std.specs.Prelude.{Option, is_some}
use Rattle.modem_text.specs.Sessions.{PinStep, step_of}
use Rattle.modem_one.proofs.Ending.{some_item, item_of, between_item}
use Rattle.modem_one.proofs.after_line.do_item.Goals as goal

pub take_item-requires : goal.take_item-requires
take_item-requires g c = (
  c.requires.0.frame,
  (
    c.requires.0.at,
    (
      c.requires.1,
      item_of g.frame c.args.roles.now c.args.port.now c.args.desk.now c.args.stand c.args.calls.now
          c.args.items.now (step_of c.in-Some.item) c.requires.0 (sym c.in-Some.ensures),
    ),
  ),
)

pub returns-clause-ok : goal.returns-clause-ok
returns-clause-ok g c =
    between_item g.frame c.args.roles.now c.args.port.now c.take_item.new.port c.args.desk.now c.take_item.new.desk
    c.args.stand c.in_ok-now-in-Some.now c.args.calls.now c.args.items.now c.pass.new.self (step_of c.in-Some.item)
    c.requires.0 (sym c.in-Some.ensures) c.in_ok-now-in-Some.ensures.ok c.pass.ensures

pub unreachable-requires : goal.unreachable-requires
unreachable-requires g c =
    absurd (false≢true (ap (λ (o : Option PinStep). is_some o) c.in-None.ensures
    ∙ some_item g.frame c.args.roles.now c.args.port.now c.args.desk.now c.args.stand c.args.calls.now
    c.args.items.now c.requires.0 c.requires.1))
