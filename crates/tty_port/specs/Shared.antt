-- A shared port and its seats.
use Rattle.std.specs.Prelude.{◌≡◌, ℕ, ◌+◌, List, [], ◌∷◌, false, Some}
use Rattle.atomic_table.specs.Seated.{TableId}
use Rattle.port_cell.specs.declared.kept.Stamped.{Stamped}
use Rattle.port_cell.specs.declared.view.User.{User}
use Rattle.port_cell.specs.declared.view.User.TheVariants.{Free, Held, Marked, Alone}
use Rattle.port_cell.specs.Entries.{Keeps, entries_by}
use Rattle.port_cell.specs.Word.{generation_in}
use Rattle.port_cell.specs.Knowledge.{number_of, name_of, list_seen, own_entries}
use Rattle.port_cell.specs.Knowledge.{user_of, has_turn, last_word}
use Rattle.port_cell.specs.Seats.{IsSeat}
use Rattle.port_cell.specs.Cells.{identity_of, opening_value}
use Rattle.tty_port.specs.Inside.{Name, EntryWithCall}
use Rattle.tty_port.specs.Histories as ports
use Rattle.tty_port.specs.Placed.{IsHistoryOf}
use Rattle.tty_port.specs.Calls.{PortSeat}
use Rattle.tty_port.specs.declared.kept_port.KeptPort.{KeptPort}
use Rattle.tty_port.specs.declared.shared.SharedPort.{SharedPort}

abbrev pub table_of : SharedPort → TableId
table_of p = identity_of p.cell

-- the name of the port, and the history with which it was shared
abbrev pub name_of_port : SharedPort → Name
name_of_port p = ports.name_of (opening_value p.cell)

abbrev pub opening_history : SharedPort → List (Stamped EntryWithCall)
opening_history p = ports.history_of (opening_value p.cell)

-- a seat of this port with this number, which uses the generation so, and has not the turn
pub record IsUsing (p : SharedPort) (n : ℕ) (user : User) (s : PortSeat) : Type 0 where
  pub seat : IsSeat (table_of p) s
  pub number : number_of s ≡ n
  pub named : name_of s ≡ Some (name_of_port p)
  pub uses : user_of s ≡ user
  pub no_turn : has_turn s ≡ false

-- it holds no reference, no mark and no turn
abbrev pub IsHere : SharedPort → ℕ → PortSeat → Type 0
IsHere p n s = IsUsing p n Free s

-- it holds a reference to the generation that it found
abbrev pub IsHolding : SharedPort → ℕ → PortSeat → Type 0
IsHolding p n s = IsUsing p n (Held (generation_in (last_word s))) s

-- it has marked the generation that it found
abbrev pub IsMarking : SharedPort → ℕ → PortSeat → Type 0
IsMarking p n s = IsUsing p n (Marked (generation_in (last_word s))) s

-- it has found that nobody holds a reference to the generation that it marked
abbrev pub IsByItself : SharedPort → ℕ → PortSeat → Type 0
IsByItself p n s = IsUsing p n (Alone (generation_in (last_word s))) s

-- the port with this name that a turn of the seat with this number found
pub record IsFound (name : Name) (n : ℕ) (s : PortSeat) (v : KeptPort) : Type 0 where
  pub named : ports.name_of v ≡ name
  pub keeps : Keeps n (list_seen s) (ports.history_of v)
  pub history : IsHistoryOf name.callers v.port.value (ports.history_of v)

-- the seats from this number on, which have seen this history
abbrev pub AreHere : SharedPort → List (Stamped EntryWithCall) → ℕ → List PortSeat → Type 0
AreHere p xs n [] = Unit {0}
AreHere p xs n (s ∷ ss) = (IsHere p n s × (list_seen s ≡ xs)) × AreHere p xs (n + 1) ss

-- the history goes on from what the seat saw, with nothing more of it
pub record HasAllOf (xs : List (Stamped EntryWithCall)) (s : PortSeat) : Type 0 where
  pub begins : Keeps (number_of s) (list_seen s) xs
  pub own : entries_by (number_of s) xs ≡ own_entries s
