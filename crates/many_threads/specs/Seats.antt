-- The seats of a port that was just shared.
use Rattle.std.specs.Prelude.{◌≡◌, ℕ, ◌+◌, length}
use Rattle.port_cell.specs.Knowledge.{list_seen}
use Rattle.tty_port.specs.Calls.{PortSeat}
use Rattle.tty_port.specs.Shared.{IsHere, AreHere, name_of_port, opening_history}
use Rattle.tty_port.specs.declared.shared.SharedPort.{SharedPort}
use Rattle.many_threads.specs.declared.seats.Seats.{Seats}

-- a seat with this number that has seen the history with which the port was shared
pub record IsFresh (p : SharedPort) (n : ℕ) (s : PortSeat) : Type 0 where
  pub here : IsHere p n s
  pub seen : list_seen s ≡ opening_history p

pub record AreDealt (p : SharedPort) (seats : Seats) : Type 0 where
  pub callers : AreHere p (opening_history p) 0 seats.callers.items
  pub count : length seats.callers.items ≡ (name_of_port p).callers
  pub flusher : IsFresh p (name_of_port p).callers seats.flusher
  pub line : IsFresh p ((name_of_port p).callers + 1) seats.line
  pub clock : IsFresh p ((name_of_port p).callers + 2) seats.clock
  pub session : IsFresh p ((name_of_port p).callers + 3) seats.session
