use Rattle.std.proofs.Common.{rules}
use Rattle.port_cell.proofs.Counting.{unmarks}
use Rattle.port_cell.proofs.cell.Cell.unmark.Goals as goal

pub fetch_and-requires : goal.fetch_and-requires
fetch_and-requires g c = (
  search rules,
  search rules,
  unmarks g.V.Kept.name g.V.Kept.list _ _ _ _ _ c.requires.marked c.requires.lowered c.requires.seat.named,
)
