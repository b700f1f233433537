use Rattle.std.proofs.Common.{◌-◌, length, slice_get, ap, ◌∙◌}
use Rattle.port_cell.proofs.Histories.{generation_of-last}
use Rattle.ring_rows.proofs.cells.LogKept.generation.Goals as goal

pub returns-in-Some : goal.returns-in-Some
returns-in-Some c =
    generation_of-last c.args.self.now.entries.items c.in-Some.entry.now
    (c.in-Some.ensures.value ∙ ap (λ items. slice_get items (length items - 1)) c.deref.ensures.value)
