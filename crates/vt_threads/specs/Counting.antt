-- How many entries the seats of a board made.
use Rattle.std.specs.Prelude.{ℕ, zero, suc, ◌+◌, List, length}
use Rattle.port_cell.specs.declared.kept.Stamped.{Stamped}
use Rattle.port_cell.specs.Entries.{entries_by}
use Rattle.vt_consoles.specs.declared.entries.VtEvent.{VtEvent}

-- those of the seats below this number, seat by seat
abbrev pub count_below : ℕ → List (Stamped VtEvent) → ℕ
count_below zero xs = 0
count_below (suc n) xs = count_below n xs + length (entries_by n xs)
