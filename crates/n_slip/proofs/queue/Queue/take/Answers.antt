use Rattle.std.proofs.Common.{rules, arith}
use Rattle.std.proofs.lemmas.Grind.{common_steps}
use Rattle.n_slip.proofs.queue.Queue.take.Goals as goal

pub move_front-requires-clause-within : goal.move_front-requires-clause-within
move_front-requires-clause-within c = grind (arith, common_steps) steps 500000

pub move_front-requires-clause-room : goal.move_front-requires-clause-room
move_front-requires-clause-room c = grind (arith, common_steps) steps 500000

pub returns-clause-len : goal.returns-clause-len
returns-clause-len c = grind (arith, common_steps) steps 500000

pub returns-clause-out : goal.returns-clause-out
returns-clause-out c = grind (arith, common_steps) steps 500000

pub returns-clause-rest : goal.returns-clause-rest
returns-clause-rest c = search rules steps 300000
