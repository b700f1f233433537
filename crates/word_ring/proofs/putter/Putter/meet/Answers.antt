use Rattle.std.proofs.Common.{rules}
use Rattle.word_ring.proofs.Joining.{meets_head}
use Rattle.word_ring.proofs.putter.Putter.meet.Goals as goal

pub join_seat-requires : goal.join_seat-requires
join_seat-requires c = (search rules, search rules, search rules, search rules, meets_head _ _ _ _ _)

pub returns-clause-same : goal.returns-clause-same
returns-clause-same c = search rules steps 300000
