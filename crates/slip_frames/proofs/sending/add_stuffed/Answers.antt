use Rattle.std.proofs.Common.{arith}
use Rattle.std.proofs.lemmas.Grind.{common_steps}
use Rattle.slip_frames.proofs.sending.add_stuffed.Goals as goal

pub returns-in-192-clause-items : goal.returns-in-192-clause-items
returns-in-192-clause-items c = grind (arith, common_steps) steps 500000
