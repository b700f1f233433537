use Rattle.std.proofs.Common.{[], ◌∷◌}
use Rattle.std.proofs.lemmas.Grind.{fold-append}
use Rattle.n_tty_edit.specs.Line.{after_change}
use Rattle.n_tty_edit.proofs.line.edited_by_the_last.Goals as goal

pub returns : goal.returns
returns c = λ changes last. fold-append after_change [] changes (last ∷ [])
