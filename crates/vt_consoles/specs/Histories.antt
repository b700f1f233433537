-- A board as the value of a cell. Its entries are the history, and all stand in generation 0. Its name is what never
-- changes.
use Rattle.std.specs.Prelude.{ℕ, List, map}
use Rattle.port_cell.specs.declared.kept.Stamped.{Stamped}
use Rattle.vt_consoles.specs.declared.entries.VtEntry.{VtEntry}
use Rattle.vt_consoles.specs.declared.entries.VtEvent.{VtEvent}
use Rattle.vt_consoles.specs.declared.kept_board.BoardName.{BoardName}
use Rattle.vt_consoles.specs.Boards.{BoardState}

abbrev pub stamped : (seat : ℕ) → VtEvent → Stamped VtEvent
stamped seat event = record { seat = seat; after = 0; what = event }

abbrev pub history_of : BoardState → List (Stamped VtEvent)
history_of b = map (λ (e : VtEntry). stamped e.seat e.event) b.entries

abbrev pub name_of : BoardState → BoardName
name_of b = record { consoles = b.consoles; limit = b.limit }

-- the board that has this name and history
abbrev pub board_with : BoardName → List (Stamped VtEvent) → BoardState
board_with name xs = record {
  consoles = name.consoles;
  limit = name.limit;
  entries = map (λ (x : Stamped VtEvent). record { seat = x.seat; event = x.what }) xs;
}
