use Rattle.std.proofs.Common.{length, rules, sym, ap, ◌∙◌, subst}
use Rattle.port_cell.specs.Entries.{generation_of, AddsBy}
use Rattle.port_cell.specs.Views.{MayTell}
use Rattle.port_cell.proofs.Handing.{notes}
use Rattle.port_cell.proofs.cell.Cell.tell.Goals as goal

pub store-requires : goal.store-requires
store-requires g c =
    let told = c.requires.told in
    let v = c.args.seat.now.me.0 in (
      search rules,
      search rules,
      notes g.V.Kept.name g.V.Kept.list _ _ _ _ _ _ _ c.requires.turn c.requires.seat.named
          (subst (λ list. AddsBy v.number v.seen list) (sym told) c.requires.list)
          (subst (λ list. MayTell v (generation_of list)) (sym told) c.requires.generation)
          (c.count.ensures ∙ ap length (sym told)),
    )
