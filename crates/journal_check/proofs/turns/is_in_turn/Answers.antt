use Rattle.std.proofs.Common.{rules}
use Rattle.journal_check.proofs.turns.is_in_turn.Goals as goal

pub returns-then-step-turn-clause-end : goal.returns-then-step-turn-clause-end
returns-then-step-turn-clause-end c = search rules steps 1000000
