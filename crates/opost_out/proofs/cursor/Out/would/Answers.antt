use Rattle.std.proofs.Common.{rules}
use Rattle.opost_out.proofs.cursor.Out.would.Goals as goal

pub returns-then-not-has : goal.returns-then-not-has
returns-then-not-has c = search rules steps 100000

pub returns-in-10 : goal.returns-in-10
returns-in-10 c = search rules steps 100000

pub returns-in-13 : goal.returns-in-13
returns-in-13 c = search rules steps 100000

pub returns-in-9 : goal.returns-in-9
returns-in-9 c = search rules steps 100000

pub returns-in_default : goal.returns-in_default
returns-in_default c = search rules steps 100000
