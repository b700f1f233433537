use Rattle.std.proofs.Common.{rules}
use Rattle.port_cell.proofs.Counting.{looks}
use Rattle.port_cell.proofs.cell.Cell.settled.Goals as goal

pub load-word-requires : goal.load-word-requires
load-word-requires g c = (
  search rules,
  search rules,
  looks g.V.Kept.name g.V.Kept.list _ _ _ _ _ c.requires.marked.0 c.requires.marked.1 c.requires.seat.named,
)

pub returns-then-has_users-clause-alone : goal.returns-then-has_users-clause-alone
returns-then-has_users-clause-alone g c = tt

pub returns-then-has_users-clause-unused : goal.returns-then-has_users-clause-unused
returns-then-has_users-clause-unused g c = tt
