use Rattle.port_cell.proofs.Ends.{not_empty, ends_as}
use Rattle.port_cell.proofs.cell.Cell.end.Goals as goal

pub close_with-closed-requires : goal.close_with-closed-requires
close_with-closed-requires g c = c.requires.free.table

pub unreachable-requires : goal.unreachable-requires
unreachable-requires g c =
    let free = c.requires.free in
    not_empty g.V.Kept.name g.V.Kept.list _ _ _ _ _ _ free.named free.free free.turn c.requires.all
    c.close_with-closed.ensures.values.2 _ c.take-place.ensures.value c.in_default.is

pub returns : goal.returns
returns g c =
    let free = c.requires.free in
    let end = ends_as g.V.Kept.name g.V.Kept.list _ _ _ _ _ _ free.named free.free free.turn c.requires.all
    c.close_with-closed.ensures.values.2 _ c.take-place.ensures.value _ c.in-Some.is in
    record { opening = end.opening; seat = end.found; joined = end.joined; list = end.grown; generation = end.grows }
