use Rattle.std.proofs.Common.{◌≡◌, ◌+◌, [], vec_len}
use Rattle.port_cell.specs.Views.{new_view}
use Rattle.port_cell.specs.Seats.{AllNew}
use Rattle.port_cell.proofs.cell.Cell.deal.Given as goal

abbrev pub invariant-seats : goal.invariant-seats
invariant-seats g l =
    let value = l.self.table.shared.key.value.value in record {
      table : l.first.table_id ≡ l.initial.first.table_id;
      first : l.first.me ≡ (new_view (g.V.Kept.name value) 0 l.counter (g.V.Kept.list value), []);
      size : vec_len l.others + 1 ≡ l.counter;
      others : AllNew l.self.table.shared.table_id (g.V.Kept.name value) (g.V.Kept.list value) 1 l.others.items;
    }
