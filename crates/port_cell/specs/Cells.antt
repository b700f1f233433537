-- What a cell is told once, when it is made.
use Rattle.std.specs.Prelude.{ℕ}
use Rattle.atomic_table.specs.Seated.{TableId}
use Rattle.port_cell.specs.declared.cell.Cell.{Cell}

module _ {V N E : Type 0} where
  -- which cell it is
  abbrev pub identity_of : Cell V N E → TableId
  identity_of c = c.table.shared.table_id

  -- the value that it was made with
  abbrev pub opening_value : Cell V N E → V
  opening_value c = c.table.shared.key.value.value

  abbrev pub seat_count : Cell V N E → ℕ
  seat_count c = c.table.shared.key.seats
