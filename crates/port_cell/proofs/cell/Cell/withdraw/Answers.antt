use Rattle.std.proofs.Common.{rules}
use Rattle.port_cell.proofs.Counting.{leaves}
use Rattle.port_cell.proofs.cell.Cell.withdraw.Goals as goal

pub fetch_sub-word-requires : goal.fetch_sub-word-requires
fetch_sub-word-requires g c =
    (search rules, search rules, leaves g.V.Kept.name g.V.Kept.list _ _ _ _ _ c.requires.counted c.requires.seat.named)
