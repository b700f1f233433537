use Rattle.std.proofs.Common.{rules, sym, ap, ◌∙◌}
use Rattle.tty_base.specs.declared.characters.Flagged.{Flagged}
use Rattle.tty_embed.specs.Embedded.{Embedded, accepts, after_receipt}
use Rattle.tty_embed.proofs.Reserving.{reserved, receipt_made}
use Rattle.tty_embed.proofs.terminal.Tty.receive.Goals as goal

pub returns-clause-after : goal.returns-clause-after
returns-clause-after c =
    let a = c.self.inside in
    let heard : Flagged = record { byte = c.args.byte; flag = c.args.flag } in
    let room = reserved a.disc a.wire c.reserve.new.self a.tally c.reserve-2.new.self c.reserve.ensures.same
    c.reserve-2.ensures.counts c.reserve-2.ensures.signals in
    receipt_made a.modes a.tick heard a.disc a.wire c.reserve.new.self a.tally c.reserve-2.new.self
    c.receive.new.self c.wrap_column.new.self c.receive.new.wire c.receive.new.tally
    (sym c.accepts.ensures ∙ c.if-not-accepts.false) room c.receive.ensures.after c.wrap_column.ensures
    ∙ ap (λ (t : Embedded). after_receipt t heard) c.self.view_is

pub returns-then-not-accepts-clause-accepted : goal.returns-then-not-accepts-clause-accepted
returns-then-not-accepts-clause-accepted c = search rules steps 100000

pub returns-then-not-accepts-clause-after : goal.returns-then-not-accepts-clause-after
returns-then-not-accepts-clause-after c = search rules steps 300000

pub returns-clause-accepted : goal.returns-clause-accepted
returns-clause-accepted c = sym (sym c.accepts.ensures ∙ c.if-not-accepts.false) ∙ ap (λ (t : Embedded). accepts t) c.self.view_is
