-- A phase of a console in two halves round its threads: the port is shared, and later whole again.
use Rattle.std.specs.Prelude.{◌≡◌, ℕ, List, [], false, length, reverse}
use Rattle.tty_base.specs.declared.lines.LineStep.{LineStep}
use Rattle.uart_line.specs.Received.{is_masked, waiting_list}
use Rattle.tty_base.specs.declared.characters.Flagged.{Flagged}
use Rattle.word_ring.specs.Ends.{PutterState}
use Rattle.uart_line.specs.LineState.{LineState}
use Rattle.port_core.specs.Flips.{MeetsTaker, after_meeting}
use Rattle.port_core.specs.Ports.{PortValue}
use Rattle.play_base.specs.Roles.{Scene}
use Rattle.play_base.specs.declared.stations.Station.{Station}
use Rattle.tty_port.specs.Calls.{PortSeat}
use Rattle.tty_port.specs.declared.shared.SharedPort.{SharedPort}
use Rattle.many_threads.specs.declared.crew.CrewBack.{CrewBack}
use Rattle.many_threads.specs.declared.caller_threads.CallersBack.{CallersBack}
use Rattle.many_threads.specs.declared.thread_bodies.FlusherBack.{FlusherBack}
use Rattle.vt_keyboard.specs.declared.console_ends.KeySeats.{KeySeats}
use Rattle.many_threads.specs.declared.seats.Seats.{Seats}
use Rattle.many_threads.specs.declared.shared_phase.PhaseWork.{PhaseWork}
use Rattle.many_threads.specs.Crew.{CrewComes, crew_in}
use Rattle.many_threads.specs.PhaseStarts.{CanPlayPhase}
use Rattle.many_threads.specs.PhaseEnds.{IsShared}

-- both ends of the flip buffer have met, the port is shared, and its seats are dealt out to so many callers and the
-- others
pub record IsShut (old : Station) (m : ℕ) (p : SharedPort) (dealt : Seats) (line : LineState)
    (putter : PutterState Flagged) : Type 0 where
  pub met : PortValue
  pub met_is : met ≡ record old.port { flip = after_meeting old.port.flip old.putter }
  pub meets : MeetsTaker old.port.flip old.putter putter
  pub shared : IsShared m met p dealt
  pub line_is : line ≡ old.line

-- the threads of a phase came back to the shared port: this work of the scene was played
pub record ThreadsOver (s : Scene) (old : Station) (work : PhaseWork) (p : SharedPort) (dealt : Seats)
    (line : LineState) (putter : PutterState Flagged) (session : PortSeat) (back : CrewBack) : Type 0 where
  pub shut : IsShut old (length work.cast.now) p dealt line putter
  pub can : CanPlayPhase s old work
  pub session_is : session ≡ dealt.session
  pub comes : CrewComes p (crew_in dealt line putter work) back

-- .. of some scene
pub record SomeThreadsOver (p : SharedPort) (session : PortSeat) (back : CrewBack) : Type 0 where
  pub s : Scene
  pub old : Station
  pub work : PhaseWork
  pub dealt : Seats
  pub line : LineState
  pub putter : PutterState Flagged
  pub over : ThreadsOver s old work p dealt line putter session back

-- the work of a phase with other steps on its line
abbrev pub with_steps : List LineStep → PhaseWork → PhaseWork
with_steps steps work = record work { steps = record work.steps { now = record work.steps.now { items = steps } } }

-- after these steps of a line nothing is held back, and nothing waits
pub record IsDrained (before : List LineStep) : Type 0 where
  pub unmasked : is_masked (reverse before) ≡ false
  pub none_waits : waiting_list before ≡ []

-- what a crew brings back, from what the keyboard's thread has of a console and what its own threads brought back
abbrev pub crew_back : KeySeats → LineState → PutterState Flagged → FlusherBack → CallersBack → CrewBack
crew_back seats line putter flusher callers = record {
  line = record { receiver = record { seat = seats.line; line = line; putter = putter }; result = seats.line_result };
  clock = record { seat = seats.clock; result = seats.clock_result };
  flusher = flusher;
  callers = callers;
}
