use Rattle.word_ring.proofs.Taking.{begins_seen}
use Rattle.word_ring.proofs.taker.Taker.taken.Goals as goal

pub returns-clause-begins : goal.returns-clause-begins
returns-clause-begins c = begins_seen _ _ c.self.invariant c.self.view_is
