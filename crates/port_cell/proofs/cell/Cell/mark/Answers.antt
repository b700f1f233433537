use Rattle.std.proofs.Common.{rules}
use Rattle.port_cell.proofs.Counting.{marks_it}
use Rattle.port_cell.proofs.cell.Cell.mark.Goals as goal

pub fetch_or-found-requires : goal.fetch_or-found-requires
fetch_or-found-requires g c =
    (search rules, search rules, marks_it g.V.Kept.name g.V.Kept.list _ _ _ _ _ c.requires.free c.requires.seat.named)

pub returns-then-is_changing-clause-marked : goal.returns-then-is_changing-clause-marked
returns-then-is_changing-clause-marked g c = tt

pub returns-then-is_changing-clause-clear : goal.returns-then-is_changing-clause-clear
returns-then-is_changing-clause-clear g c = tt
