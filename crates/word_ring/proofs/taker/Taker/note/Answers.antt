use Rattle.std.proofs.Common.{rules}
use Rattle.word_ring.proofs.Joining.{notes_head}
use Rattle.word_ring.proofs.taker.Taker.note.Goals as goal

pub split_seat-requires : goal.split_seat-requires
split_seat-requires c = (search rules, search rules, notes_head _ _ _ c.self.invariant.taking.takes)
