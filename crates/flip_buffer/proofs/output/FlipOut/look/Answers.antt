use Rattle.flip_buffer.proofs.Characters.{begins_seen}
use Rattle.flip_buffer.proofs.output.FlipOut.look.Goals as goal

pub returns-clause-begins : goal.returns-clause-begins
returns-clause-begins c = begins_seen _ _ c.self.view_is c.look.ensures.begins
