use Rattle.std.proofs.Common.{◌≡◌}
use Rattle.port_cell.specs.Knowledge.{number_of}
use Rattle.port_cell.specs.Seats.{IsFree}
use Rattle.port_cell.specs.Cells.{identity_of}
use Rattle.ring_rows.proofs.cells.make.Given as goal

abbrev pub invariant-loop-what : goal.invariant-loop-what
invariant-loop-what g l = IsFree (identity_of l.cell) l.seat × (number_of l.seat ≡ l.number)
