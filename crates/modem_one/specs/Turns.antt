-- Whose turn it is behind the line of a phase, as the player finds it.
use Rattle.std.specs.Prelude.{◌≡◌, ◌<◌, ◌+◌, ℕ, Bool, List, [], Option, None}
use Rattle.std.specs.Prelude.{Some, MatchOption, length, sum, slice_index}
use Rattle.tty_calls.specs.declared.journals.Who.TheVariants.{Caller, Flusher, Clock, Session}
use Rattle.tty_terminal.specs.Terminals.{Terminal, opening}
use Rattle.port_core.specs.Ports.{PortValue, call_in}
use Rattle.legal_runs.specs.Order.{is_waiting}
use Rattle.one_thread.specs.Turns.{role_numbers}
use Rattle.play_base.specs.declared.roles.Role.{Role}
use Rattle.passed_calls.specs.Journals.{Journal}
use Rattle.modem_text.specs.Sessions.{ModemSession}
use Rattle.modem_steps.specs.Steps.{Port, ModemState}
use Rattle.modem_steps.specs.Order.{Turn, goes_on, sets_pin, is_told, first_such, can_go_on, open_is_held, turn_by_rank}
use Rattle.modem_one.specs.declared.turns.Next.{Next}
use Rattle.modem_one.specs.declared.turns.Next.TheVariants as next
use Rattle.modem_one.specs.declared.turns.Asked.{Asked}
use Rattle.modem_one.specs.declared.turns.Asked.TheVariants as asked
use Rattle.modem_one.specs.Desk.{DeskState, state_at}
use Rattle.modem_one.specs.Later.{port_with}

-- the port with its journal as it is now
abbrev pub journal_of : PortValue → Journal
journal_of v = record { entries = v.journal; calls = call_in v.kept; opening = opening (sum v.counts) v.flip.capacity }

abbrev pub port_now : ℕ → ModemSession → PortValue → Port
port_now p session v = port_with p session (journal_of v)

-- what is asked of a caller: whether it can go on, whether its open waits for the carrier, whether it waits
abbrev pub is_so : Asked → Port → ModemState → Terminal → ℕ → Bool
is_so asked.GoesOn port s t c = can_go_on port s t c
is_so asked.Held port s t c = open_is_held port s t c
is_so asked.Waits port s t c = is_waiting t c

-- the caller at a place, or another's turn
abbrev pub turn_with : List ℕ → Option ℕ → (ℕ → Turn) → Turn → Turn
turn_with numbers None turn_of other = other
turn_with numbers (Some i) turn_of other = turn_of (slice_index numbers i)

abbrev pub IsPlaceIn : Option ℕ → ℕ → Type 0
IsPlaceIn None n = Unit {0}
IsPlaceIn (Some i) n = i < n

-- the place of the first of these callers that is such a one
pub record IsFirst (is_such : ℕ → Bool) (numbers : List ℕ) (place : Option ℕ) : Type 0 where
  pub first : (turn_of : ℕ → Turn) (other : Turn)
      → first_such is_such turn_of numbers other ≡ turn_with numbers place turn_of other
  pub within : IsPlaceIn place (length numbers)

-- whose turn is meant
abbrev pub whose : List ℕ → Next → Turn
whose numbers next.Flush = goes_on Flusher
whose numbers (next.Call i) = goes_on (Caller (slice_index numbers i))
whose numbers next.Pin = sets_pin
whose numbers next.Pass = goes_on Clock
whose numbers (next.Tell i) = is_told (slice_index numbers i)
whose numbers next.End = goes_on Session

abbrev pub IsNextWithin : Next → ℕ → Type 0
IsNextWithin (next.Call i) n = i < n
IsNextWithin (next.Tell i) n = i + 1 < n
IsNextWithin other n = Unit {0}

-- the turn by rank, where no write goes on, and else its caller's
pub record IsNextTurn (p : ℕ) (session : ModemSession) (v : PortValue) (d : DeskState) (roles : List Role)
    (going : Option ℕ) (next : Next) : Type 0 where
  pub turn : MatchOption going
      (whose (role_numbers roles) next ≡ turn_by_rank (port_now p session v) (state_at d 0 []) v.terminal)
      (λ i. whose (role_numbers roles) next ≡ goes_on (Caller (slice_index (role_numbers roles) i)))
  pub within : IsNextWithin next (length roles)
