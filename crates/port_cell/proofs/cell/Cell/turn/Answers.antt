use Rattle.std.proofs.Common.{ap, ◌∙◌}
use Rattle.port_cell.specs.Entries.{entries_by}
use Rattle.port_cell.proofs.OwnEntries.{entries_by_kept}
use Rattle.port_cell.proofs.cell.Cell.turn.Goals as goal

pub returns-in-Some-take-clause-own : goal.returns-in-Some-take-clause-own
returns-in-Some-take-clause-own g c =
    let took = c.in-Some-take.ensures.some in
    ap (λ m. entries_by m.0.number m.0.seen) took.0.2
    ∙ entries_by_kept _ _ _ took.2
    ∙ ap (λ m. entries_by m.0.number m.0.seen) c.loop.invariant.4
