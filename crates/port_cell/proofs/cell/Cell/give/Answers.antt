use Rattle.std.proofs.Common.{rules, ◌∷◌, Some, is_some, ap, ◌∙◌}
use Rattle.atomic_table.specs.Table.{rest}
use Rattle.port_cell.specs.Seats.{in_hand}
use Rattle.port_cell.proofs.Handing.{gives_turn}
use Rattle.port_cell.proofs.cell.Cell.give.Goals as goal

pub store-requires : goal.store-requires
store-requires g c =
    let now = c.exchange-place.ensures.3 in
    let value = c.args.turn.value in (
      search rules,
      search rules,
      gives_turn g.V.Kept.name g.V.Kept.list _ _ _ _ _ value
          (ap (λ m. m.0.turn) now ∙ c.requires.turn)
          (ap (λ m. is_some m.0.name) now ∙ c.requires.seat.named)
          (ap (λ m. m.0.name) now ∙ c.requires.name)
          (ap (λ m. m.0.seen) now ∙ c.requires.noted)
          (ap (λ m. m.0.raised) now ∙ c.requires.installed)
          (ap (λ m. m.1) now
          ∙ ap (λ held. (0, Some value) ∷ rest held) (c.requires.seat.hand ∙ ap in_hand c.requires.turn)),
    )
