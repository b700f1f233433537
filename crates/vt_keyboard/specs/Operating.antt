-- What a seat of a board makes of the calls of operators.
use Rattle.std.specs.Prelude.{◌≡◌, ℕ, ◌<◌, List, [], ◌++◌, flat_map, length, map, if◌then◌else◌}
use Rattle.tty_calls.specs.Sessions.{number_in}
use Rattle.port_cell.specs.Knowledge.{own_entries}
use Rattle.vt_consoles.specs.declared.entries.VtEvent.{VtEvent}
use Rattle.vt_consoles.specs.Histories.{stamped}
use Rattle.vt_consoles.specs.Seats.{BoardSeat}
use Rattle.vt_text.specs.declared.sessions.OpCall.{OpCall}
use Rattle.vt_text.specs.Sessions.{PlainOperator}
use Rattle.vt_account.specs.Account.{granted, call_in, index_in, is_seat}

-- the calls of an operator, where it has this seat, and those of all operators that have it
abbrev pub calls_of_operator : List (List ℕ) → (seat : ℕ) → PlainOperator → List OpCall
calls_of_operator names seat operator = if is_seat (number_in names operator.name) seat then operator.calls else []

abbrev pub calls_of_seat : List (List ℕ) → (seat : ℕ) → List PlainOperator → List OpCall
calls_of_seat names seat operators = flat_map (calls_of_operator names seat) operators

-- the seat with this number made entries of these events, in order, and no others
abbrev pub MakesAll : (n : ℕ) → List VtEvent → (old new : BoardSeat) → Type 0
MakesAll n events old new = own_entries new ≡ own_entries old ++ map (stamped n) events

-- It answered these calls, each that is not refused by one entry, in order, and made no others.
pub record AnswersCalls (consoles n : ℕ) (calls : List OpCall) (old new : BoardSeat) : Type 0 where
  pub events : List VtEvent
  pub makes : MakesAll n events old new
  pub answers : flat_map call_in events ≡ flat_map (granted consoles) calls
  pub no_keys : flat_map index_in events ≡ []

-- .. the calls of a list up to those that are left
pub record AnswersUpTo (consoles n : ℕ) (calls left : List OpCall) (old new : BoardSeat) : Type 0 where
  pub done : List OpCall
  pub parts : calls ≡ done ++ left
  pub answered : AnswersCalls consoles n done old new

-- one of these calls is not refused
abbrev pub SomeAccepted : (consoles : ℕ) → List OpCall → Type 0
SomeAccepted consoles calls = 0 < length (flat_map (granted consoles) calls)

-- .. the first of these calls: one that is not refused is left
abbrev pub AnswersFirst : (consoles n : ℕ) → List OpCall → (old new : BoardSeat) → Type 0
AnswersFirst consoles n calls old new =
    (left : List OpCall) × SomeAccepted consoles left × AnswersUpTo consoles n calls left old new
