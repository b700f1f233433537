-- What a seat of a board knows, and what its calls come to.
use Rattle.std.specs.Prelude.{◌≡◌, ℕ, List, [], ◌∷◌, ◌++◌}
use Rattle.port_cell.specs.declared.kept.Stamped.{Stamped}
use Rattle.port_cell.specs.Entries.{Keeps, entries_by}
use Rattle.port_cell.specs.Knowledge.{CellSeat, number_of, list_seen, own_entries}
use Rattle.vt_consoles.specs.declared.board.Board.{Board}
use Rattle.vt_consoles.specs.declared.entries.VtEvent.{VtEvent}
use Rattle.vt_consoles.specs.declared.kept_board.BoardName.{BoardName}
use Rattle.vt_consoles.specs.Boards.{HasRoom, active_on}
use Rattle.vt_consoles.specs.Runs.{NamesRightly}
use Rattle.vt_consoles.specs.Histories.{stamped, board_with}

abbrev pub BoardSeat : Type 0
BoardSeat = CellSeat Board BoardName VtEvent

-- the seat with this number made one entry, which may come behind those that it found
pub record Makes (name : BoardName) (n : ℕ) (event : VtEvent) (old new : BoardSeat) : Type 0 where
  pub before : List (Stamped VtEvent)
  pub found : Keeps n (list_seen old) before
  pub rightly : NamesRightly name.consoles (active_on (board_with name before)) event
  pub room : HasRoom (board_with name before)
  pub added : list_seen new ≡ before ++ stamped n event ∷ []
  pub own : own_entries new ≡ own_entries old ++ stamped n event ∷ []

-- it made none
pub record MakesNone (n : ℕ) (old new : BoardSeat) : Type 0 where
  pub found : Keeps n (list_seen old) (list_seen new)
  pub own : own_entries new ≡ own_entries old

-- the history goes on from what the seat saw, with nothing more of it
pub record HasAllOf (xs : List (Stamped VtEvent)) (s : BoardSeat) : Type 0 where
  pub begins : Keeps (number_of s) (list_seen s) xs
  pub own : entries_by (number_of s) xs ≡ own_entries s
