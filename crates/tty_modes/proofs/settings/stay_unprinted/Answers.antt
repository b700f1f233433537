use Rattle.std.proofs.Common.{◌∙◌, sym, ap}
use Rattle.tty_modes.specs.Printed.{are_unprinted}
use Rattle.tty_modes.proofs.PrintedLemmas.{printed-set, unprinted-set}
use Rattle.tty_modes.proofs.settings.stay_unprinted.Goals as goal

pub returns-then-is_printed : goal.returns-then-is_printed
returns-then-is_printed c = λ old place known below set_is.
    sym (ap are_unprinted set_is
    ∙ printed-set old place c.args.value below (sym c.is_printed.ensures ∙ c.if-is_printed.true))

pub returns-then-before : goal.returns-then-before
returns-then-before c = λ old place known below set_is.
    c.if-before.true
    ∙ sym (ap are_unprinted set_is
    ∙ unprinted-set old place c.args.value (sym known ∙ c.if-before.true)
    (sym c.is_printed.ensures ∙ c.if-is_printed.false))
