use Rattle.std.proofs.Common.{rules, ◌∷◌, Some, sym, ap, ◌∙◌}
use Rattle.atomic_table.specs.Table.{rest}
use Rattle.port_cell.proofs.Handing.{takes_turn}
use Rattle.port_cell.proofs.cell.Cell.take.Goals as goal

pub swap-requires : goal.swap-requires
swap-requires g c =
    (search rules, search rules, takes_turn g.V.Kept.name g.V.Kept.list _ _ _ _ _ c.requires.none c.requires.seat.named)

pub exchange-requires : goal.exchange-requires
exchange-requires g c =
    let took = c.swap.ensures.2.0 c.if-swap-ne0.false in
    let hand = ap (λ m. m.1) took.1 in
    (search rules, (Some took.0, hand ∙ ap (λ held. (0, Some took.0) ∷ rest held) (sym hand)))
