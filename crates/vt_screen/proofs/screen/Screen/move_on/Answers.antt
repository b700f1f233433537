use Rattle.std.proofs.Common.{rules}
use Rattle.vt_screen.proofs.screen.Screen.move_on.Goals as goal

pub returns-then-self-eq-LAST_COLUMN : goal.returns-then-self-eq-LAST_COLUMN
returns-then-self-eq-LAST_COLUMN c = search rules steps 100000
