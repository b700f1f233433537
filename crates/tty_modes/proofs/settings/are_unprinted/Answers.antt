use Rattle.std.proofs.Common.{◌∙◌, sym, ap, add-one, drop_of_length-le}
use Rattle.tty_modes.specs.Printed.{are_unprinted}
use Rattle.tty_modes.proofs.PrintedLemmas.{stops, goes_on}
use Rattle.tty_modes.proofs.settings.are_unprinted.Goals as goal

pub returns-then-is_printed : goal.returns-then-is_printed
returns-then-is_printed c =
    sym (c.loop-c.invariant
    ∙ stops c.args.characters.now c.loop-c.c-index c.loop-c-test.true (sym c.is_printed.ensures ∙ c.if-is_printed.true))

pub loop-c-preserved : goal.loop-c-preserved
loop-c-preserved c =
    rw add-one (c.loop-c.invariant
    ∙ goes_on c.args.characters.now c.loop-c.c-index c.loop-c-test.true
    (sym c.is_printed.ensures ∙ c.if-is_printed.false))

pub returns : goal.returns
returns c = sym (c.loop-c.invariant ∙ ap are_unprinted (drop_of_length-le c.args.characters.now c.loop-c-test.false))
