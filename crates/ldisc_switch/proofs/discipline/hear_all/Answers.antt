use Rattle.std.proofs.Common.{◌≡◌, ◌∙◌, ◌==◌, false, length, sym, arith}
use Rattle.std.proofs.lemmas.Bool.{eqb-false}
use Rattle.ldisc_switch.specs.declared.discipline.Disc.TheVariants as disc
use Rattle.ldisc_switch.specs.Disciplines.{disc_on_port}
use Rattle.ldisc_switch.proofs.RunLemmas.{slip_all}
use Rattle.ldisc_switch.proofs.discipline.hear_all.Goals as goal

pub returns-clause-after : goal.returns-clause-after
returns-clause-after c = λ now.
    let none : (length c.args.chars.now == 0) ≡ false = sym c.is_empty.ensures ∙ c.if-is_empty.false in
    (λ i. disc_on_port (disc.Slip (c.receive_all.ensures.after i)) (c.apply_ixoff_rule.ensures.after i)
    (c.receive_all.ensures.counts i))
    ∙ slip_all c.args.modes.now now c.args.chars.now c.args.slip.now c.args.wire.now c.args.tally.now
    (omega (arith, eqb-false (length c.args.chars.now) 0 none))
