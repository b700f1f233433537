use Rattle.tty_terminal.proofs.DropLaws.{outcome_done, outcome_purge, entry_purged}
use Rattle.tty_terminal.proofs.QuestionLemmas.{outcome_drops}
use Rattle.tty_terminal.proofs.laws.who_drops_is_answered_done.Goals as goal

pub returns : goal.returns
returns c = record { answer = outcome_done; calls = outcome_purge; exactly = outcome_drops; entry = entry_purged }
