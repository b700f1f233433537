use Rattle.std.proofs.Common.{rules}
use Rattle.vt_screen.proofs.screen.Screen.print.Goals as goal

pub returns-in-8 : goal.returns-in-8
returns-in-8 c = search rules steps 100000

pub returns-in-9 : goal.returns-in-9
returns-in-9 c = search rules steps 100000

pub returns-in-10 : goal.returns-in-10
returns-in-10 c = search rules steps 100000
