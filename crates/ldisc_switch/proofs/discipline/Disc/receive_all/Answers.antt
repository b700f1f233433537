use Rattle.std.proofs.Common.{◌≡◌, ◌∙◌, length, take, take_all, ap, sym, subst, arith}
use Rattle.flow_control.specs.Output.{Output}
use Rattle.flow_control.specs.declared.tally.Tally.{Tally}
use Rattle.n_tty.specs.States.{on_port}
use Rattle.ldisc_switch.specs.declared.discipline.Disc.{Disc}
use Rattle.ldisc_switch.specs.declared.discipline.Disc.TheVariants as disc
use Rattle.ldisc_switch.specs.Disciplines.{DiscOnPort, disc_on_port, tty_on_port, after_characters_of, AcceptsAllOf}
use Rattle.ldisc_switch.proofs.RunLemmas.{tty_run, tty_accepts, slip_accepts, happened_so}
use Rattle.ldisc_switch.proofs.discipline.Disc.receive_all.Goals as goal

pub returns-in-Tty-clause-after : goal.returns-in-Tty-clause-after
returns-in-Tty-clause-after c =
    let cs = take c.receive_all.result c.args.chars.now in
    let output : Output = c.args.wire.now in
    let tally : Tally = c.args.tally.now in
    ap tty_on_port c.receive_all.ensures.after
    ∙ tty_run c.args.modes.now c.args.now cs (on_port c.in-Tty.tty output tally)
    ∙ ap (λ (d : Disc). after_characters_of c.args.modes.now c.args.now cs (disc_on_port d output tally))
    (sym c.in-Tty.is)

pub returns-in-Tty-clause-accepted : goal.returns-in-Tty-clause-accepted
returns-in-Tty-clause-accepted c =
    let cs = take c.receive_all.result c.args.chars.now in
    let output : Output = c.args.wire.now in
    let tally : Tally = c.args.tally.now in
    subst (λ (d : Disc). AcceptsAllOf c.args.modes.now c.args.now cs (disc_on_port d output tally)) (sym c.in-Tty.is)
    (tty_accepts c.args.modes.now c.args.now cs (on_port c.in-Tty.tty output tally) c.receive_all.ensures.accepted)

pub returns-in-Tty-clause-happened : goal.returns-in-Tty-clause-happened
returns-in-Tty-clause-happened c kind events has =
    let cs = take c.receive_all.result c.args.chars.now in
    let output : Output = c.args.wire.now in
    let tally : Tally = c.args.tally.now in
    let before : DiscOnPort = disc_on_port c.args.self.now output tally in
    let left : DiscOnPort =
    disc_on_port (disc.Tty c.receive_all.new.self) c.receive_all.new.wire c.receive_all.new.tally in
    let after : left ≡ after_characters_of c.args.modes.now c.args.now cs before =
    ap tty_on_port c.receive_all.ensures.after
    ∙ tty_run c.args.modes.now c.args.now cs (on_port c.in-Tty.tty output tally)
    ∙ ap (λ (d : Disc). after_characters_of c.args.modes.now c.args.now cs (disc_on_port d output tally))
    (sym c.in-Tty.is) in
    happened_so c.args.modes.now c.args.now cs before left kind events after has

pub returns-in-Slip-clause-after : goal.returns-in-Slip-clause-after
returns-in-Slip-clause-after c =
    let chars = c.args.chars.now in
    let output : Output = c.args.wire.now in
    let tally : Tally = c.args.tally.now in
    c.hear_all.ensures.after c.args.now
    ∙ ap (λ (d : Disc). after_characters_of c.args.modes.now c.args.now chars (disc_on_port d output tally))
    (sym c.in-Slip.is)
    ∙ ap (λ cs. after_characters_of c.args.modes.now c.args.now cs (disc_on_port c.args.self.now output tally))
    (sym (take_all (length chars) chars (omega arith)))

pub returns-in-Slip-clause-accepted : goal.returns-in-Slip-clause-accepted
returns-in-Slip-clause-accepted c =
    let cs = take (length c.args.chars.now) c.args.chars.now in
    let output : Output = c.args.wire.now in
    let tally : Tally = c.args.tally.now in
    subst (λ (d : Disc). AcceptsAllOf c.args.modes.now c.args.now cs (disc_on_port d output tally)) (sym c.in-Slip.is)
    (slip_accepts c.args.modes.now c.args.now cs c.in-Slip.slip output tally)

pub returns-in-Slip-clause-happened : goal.returns-in-Slip-clause-happened
returns-in-Slip-clause-happened c kind events has =
    let chars = c.args.chars.now in
    let output : Output = c.args.wire.now in
    let tally : Tally = c.args.tally.now in
    let before : DiscOnPort = disc_on_port c.args.self.now output tally in
    let left : DiscOnPort = disc_on_port (disc.Slip c.hear_all.new.slip) c.hear_all.new.wire c.hear_all.new.tally in
    let after : left ≡ after_characters_of c.args.modes.now c.args.now chars before =
    c.hear_all.ensures.after c.args.now
    ∙ ap (λ (d : Disc). after_characters_of c.args.modes.now c.args.now chars (disc_on_port d output tally))
    (sym c.in-Slip.is) in
    let all = sym (take_all (length chars) chars (omega arith)) in
    happened_so c.args.modes.now c.args.now (take (length chars) chars) before left kind events
    (after ∙ ap (λ cs. after_characters_of c.args.modes.now c.args.now cs before) all) has
