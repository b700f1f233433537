use Rattle.std.proofs.Common.{rules, is_some, sym, ap, ◌∙◌}
use Rattle.port_cell.specs.Views.{user_part}
use Rattle.port_cell.specs.Seats.{in_hand}
use Rattle.port_cell.proofs.Counting.{enters}
use Rattle.port_cell.proofs.cell.Cell.enter.Goals as goal

pub fetch_add-word-requires : goal.fetch_add-word-requires
fetch_add-word-requires g c =
    (search rules, search rules, enters g.V.Kept.name g.V.Kept.list _ _ _ _ _ c.requires.free c.requires.seat.named)

pub withdraw-requires-clause-seat : goal.withdraw-requires-clause-seat
withdraw-requires-clause-seat g c =
    let now = c.fetch_add-word.ensures.2.1 (c.is_changing.ensures.0 c.if-is_changing.true) in record {
      table = c.fetch_add-word.ensures.0 ∙ c.requires.seat.table;
      named = ap (λ m. is_some m.0.name) now ∙ c.requires.seat.named;
      hand = ap (λ m. m.1) now ∙ c.requires.seat.hand ∙ sym (ap (λ m. in_hand m.0.turn) now);
    }

pub withdraw-requires-clause-counted : goal.withdraw-requires-clause-counted
withdraw-requires-clause-counted g c =
    let now = c.fetch_add-word.ensures.2.1 (c.is_changing.ensures.0 c.if-is_changing.true) in
    ap (λ m. user_part m.0.user) now
