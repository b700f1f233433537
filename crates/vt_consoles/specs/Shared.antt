-- A shared board and its seats.
use Rattle.std.specs.Prelude.{◌≡◌, ℕ, ◌+◌, List, [], ◌∷◌, false, Some}
use Rattle.atomic_table.specs.Seated.{TableId}
use Rattle.port_cell.specs.declared.kept.Stamped.{Stamped}
use Rattle.port_cell.specs.declared.view.User.TheVariants.{Free}
use Rattle.port_cell.specs.Knowledge.{number_of, name_of, list_seen, user_of, has_turn}
use Rattle.port_cell.specs.Seats.{IsSeat}
use Rattle.port_cell.specs.Cells.{identity_of, opening_value, seat_count}
use Rattle.vt_consoles.specs.declared.entries.VtEvent.{VtEvent}
use Rattle.vt_consoles.specs.declared.kept_board.BoardName.{BoardName}
use Rattle.vt_consoles.specs.declared.shared.SharedBoard.{SharedBoard}
use Rattle.vt_consoles.specs.Boards.{BoardState}
use Rattle.vt_consoles.specs.Histories as boards
use Rattle.vt_consoles.specs.Seats.{BoardSeat}

abbrev pub table_of : SharedBoard → TableId
table_of b = identity_of b.cell

-- the board with which it was shared, how many seats that gave, and the name that never changes
abbrev pub opening_board : SharedBoard → BoardState
opening_board b = opening_value b.cell

abbrev pub seats_of : SharedBoard → ℕ
seats_of b = seat_count b.cell

abbrev pub name_of_board : SharedBoard → BoardName
name_of_board b = boards.name_of (opening_board b)

-- the seat of this board with this number, which holds nothing
pub record IsHere (b : SharedBoard) (n : ℕ) (s : BoardSeat) : Type 0 where
  pub seat : IsSeat (table_of b) s
  pub number : number_of s ≡ n
  pub named : name_of s ≡ Some (name_of_board b)
  pub free : user_of s ≡ Free
  pub no_turn : has_turn s ≡ false

-- the seats from this number on, which have seen this history
abbrev pub AreHere : SharedBoard → List (Stamped VtEvent) → ℕ → List BoardSeat → Type 0
AreHere b xs n [] = Unit {0}
AreHere b xs n (s ∷ ss) = (IsHere b n s × (list_seen s ≡ xs)) × AreHere b xs (n + 1) ss
