-- What each thread of a phase needs at its beginning: a seat of its own, and that its part is still to come.
use Rattle.std.specs.Prelude.{◌≡◌, ◌+◌, ◌-◌, ◌<◌, ◌≤◌, ◌^◌, ℕ, List, false, IsTrue, All, length, sum}
use Rattle.tty_base.specs.Sizes.{MOST_SENT}
use Rattle.tty_base.specs.declared.lines.LineStep.{LineStep}
use Rattle.tty_base.specs.Lines.{is_step, arrival_count}
use Rattle.uart_line.specs.LineState.{HasDone}
use Rattle.tty_calls.specs.Plain.{PlainCall}
use Rattle.tty_calls.specs.Limits.{IsCallWithin}
use Rattle.port_cell.specs.Knowledge.{list_seen}
use Rattle.tty_port.specs.Seen.{IsBetweenCalls, marks_at, next_run}
use Rattle.tty_port.specs.Calls.{PortSeat}
use Rattle.tty_port.specs.Shared.{IsHere, name_of_port}
use Rattle.tty_port.specs.declared.shared.SharedPort.{SharedPort}
use Rattle.many_threads.specs.declared.line_part.Receiver.{Receiver}

-- caller c can make these calls, the first of which has this step
pub record CanPlayCaller (p : SharedPort) (c first : ℕ) (calls : List PlainCall) (seat : PortSeat) : Type 0 where
  pub here : IsHere p c seat
  pub known : c < sum (name_of_port p).counts
  pub within : All IsCallWithin calls
  pub few : first + length calls < 2 ^ 32
  pub between : IsBetweenCalls c first (list_seen seat)

pub record CanPlayClock (p : SharedPort) (seat : PortSeat) : Type 0 where
  pub here : IsHere p ((name_of_port p).callers + 2) seat
  pub not_over : (marks_at (list_seen seat)).clock_over ≡ false

-- the first flush run has this number
pub record CanPlayFlusher (p : SharedPort) (run : ℕ) (seat : PortSeat) : Type 0 where
  pub here : IsHere p (name_of_port p).callers seat
  pub next : run ≡ next_run (list_seen seat)

-- the line can take these steps, and the putter all that they hand over
pub record CanPlayLine (p : SharedPort) (receiver : Receiver) (steps : List LineStep) : Type 0 where
  pub here : IsHere p ((name_of_port p).callers + 1) receiver.seat
  pub not_over : (marks_at (list_seen receiver.seat)).line_over ≡ false
  pub ring : receiver.putter.ring ≡ (name_of_port p).ring
  pub sent : (marks_at (list_seen receiver.seat)).sent ≤ length receiver.putter.sent
  pub done : (before : List LineStep) × HasDone receiver.line before
  pub good : All (λ step. IsTrue (is_step step)) steps
  pub room : receiver.line.report.arrived + arrival_count steps ≤ receiver.line.most
  pub put : receiver.line.most ≤ (MOST_SENT - length receiver.putter.sent) + receiver.line.handed
