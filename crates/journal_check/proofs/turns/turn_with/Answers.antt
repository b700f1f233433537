use Rattle.std.proofs.Common.{rules}
use Rattle.journal_check.proofs.turns.turn_with.Goals as goal

pub returns-then-turn-phase : goal.returns-then-turn-phase
returns-then-turn-phase c = search rules steps 100000
