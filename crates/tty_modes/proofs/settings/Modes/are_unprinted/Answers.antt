use Rattle.std.proofs.Common.{◌∙◌, sym, ap}
use Rattle.tty_modes.specs.Printed.{are_unprinted}
use Rattle.tty_modes.proofs.PrintedLemmas.{apart}
use Rattle.tty_modes.proofs.settings.Modes.are_unprinted.Goals as goal

pub returns-clause-value : goal.returns-clause-value
returns-clause-value c = c.self.invariant.unprinted ∙ ap (λ m. are_unprinted m.characters) c.self.view_is

pub returns-clause-apart : goal.returns-clause-apart
returns-clause-apart c = λ yes place byte printed same.
    apart c.args.self.now.characters place byte (sym (returns-clause-value c) ∙ yes) printed same
