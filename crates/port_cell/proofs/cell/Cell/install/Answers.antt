use Rattle.std.proofs.Common.{rules}
use Rattle.port_cell.proofs.Counting.{installs}
use Rattle.port_cell.proofs.cell.Cell.install.Goals as goal

pub fetch_add-requires : goal.fetch_add-requires
fetch_add-requires g c = (
  search rules,
  search rules,
  installs g.V.Kept.name g.V.Kept.list _ _ _ _ _ c.requires.alone
      c.requires.turn c.requires.raised c.requires.seat.named,
)
