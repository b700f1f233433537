-- What the seats of a board bring back from a phase.
use Rattle.std.specs.Prelude.{◌≡◌, ℕ, ◌+◌, ◌<◌, List, [], ◌++◌, Some, flat_map, length, map, slice_get}
use Rattle.port_cell.specs.declared.kept.Stamped.{Stamped}
use Rattle.port_cell.specs.Entries.{entries_by}
use Rattle.port_cell.specs.Knowledge.{number_of, own_entries}
use Rattle.vt_consoles.specs.declared.entries.VtEvent.{VtEvent}
use Rattle.vt_consoles.specs.declared.shared.SharedBoard.{SharedBoard}
use Rattle.vt_consoles.specs.Histories.{history_of, stamped}
use Rattle.vt_consoles.specs.Seats.{BoardSeat}
use Rattle.vt_consoles.specs.Shared.{opening_board, seats_of}
use Rattle.vt_text.specs.Sessions.{PlainVtPhase}
use Rattle.vt_account.specs.Account.{granted, call_in, index_in, calls_at}
use Rattle.vt_keyboard.specs.Phases.{key_events}

-- since the board had this history the seat made entries of these events, in order, and no others
abbrev pub MadeSince : List (Stamped VtEvent) → BoardSeat → List VtEvent → Type 0
MadeSince xs s events = own_entries s ≡ entries_by (number_of s) xs ++ map (stamped (number_of s)) events

-- an operator's seat answered its calls of the phase
pub record OperatorPlayed (consoles : ℕ) (names : List (List ℕ)) (phase : PlainVtPhase) (xs : List (Stamped VtEvent))
    (s : BoardSeat) : Type 0 where
  pub events : List VtEvent
  pub made : MadeSince xs s events
  pub answers : flat_map call_in events ≡ flat_map (granted consoles) (calls_at names (number_of s) phase)
  pub no_keys : flat_map index_in events ≡ []

-- Since the board was shared each of its seats played its part of a phase: the operators, whose names these are, their
-- calls, and the keyboard, whose seat has the next number, the keys, which went to these consoles.
pub record SeatsPlayed (names : List (List ℕ)) (phase : PlainVtPhase) (first : ℕ) (went : List ℕ) (b : SharedBoard)
    (seats : List BoardSeat) : Type 0 where
  pub count : seats_of b ≡ length names + 1
  pub operators : (i : ℕ) (s : BoardSeat) → slice_get seats i ≡ Some s → number_of s < length names
      → OperatorPlayed (opening_board b).consoles names phase (history_of (opening_board b)) s
  pub keyboard : (i : ℕ) (s : BoardSeat)
      → slice_get seats i ≡ Some s
      → number_of s ≡ length names
      → MadeSince (history_of (opening_board b)) s (key_events first went)
  pub each_key : length went ≡ length phase.keys
