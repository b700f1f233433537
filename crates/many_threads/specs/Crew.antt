-- The crew of a phase: what it needs, and what comes of it.
use Rattle.std.specs.Prelude.{◌≡◌, List, Option, length}
use Rattle.tty_base.specs.declared.characters.Flagged.{Flagged}
use Rattle.word_ring.specs.Ends.{PutterState}
use Rattle.uart_line.specs.LineState.{LineState}
use Rattle.play_base.specs.Roles.{PlainRole}
use Rattle.port_cell.specs.Knowledge.{list_seen}
use Rattle.tty_port.specs.Calls.{PortSeat}
use Rattle.tty_port.specs.Shared.{AreHere, opening_history}
use Rattle.tty_port.specs.declared.shared.SharedPort.{SharedPort}
use Rattle.many_threads.specs.declared.crew.CallersOfCrew.{CallersOfCrew}
use Rattle.many_threads.specs.declared.crew.Crew.{Crew}
use Rattle.many_threads.specs.declared.crew.CrewBack.{CrewBack}
use Rattle.many_threads.specs.declared.seats.Seats.{Seats}
use Rattle.many_threads.specs.declared.shared_phase.PhaseWork.{PhaseWork}
use Rattle.many_threads.specs.Needs.{CanPlayClock, CanPlayFlusher, CanPlayLine}
use Rattle.many_threads.specs.Comings.{ClockComes, FlusherComes, LineComes}
use Rattle.many_threads.specs.Callers.{plain_cast, CanPlayAll, CallersCome}

-- the role of each caller
abbrev pub cast_of : CallersOfCrew → List (Option PlainRole)
cast_of callers = plain_cast callers.scripts.now callers.cast.now

pub record CanPlayCallers (p : SharedPort) (callers : CallersOfCrew) : Type 0 where
  pub seats : AreHere p (opening_history p) 0 callers.seats.items
  pub count : length callers.seats.items ≡ length callers.cast.now
  pub cast : CanPlayAll p 0 (cast_of callers)

pub record CanRun (p : SharedPort) (crew : Crew) : Type 0 where
  pub line : CanPlayLine p crew.line.receiver crew.line.steps.now.items
  pub clock : CanPlayClock p crew.clock.seat
  pub flusher : CanPlayFlusher p crew.flusher.run crew.flusher.seat
  pub callers : CanPlayCallers p crew.callers

pub record CrewComes (p : SharedPort) (crew : Crew) (back : CrewBack) : Type 0 where
  pub line : LineComes p crew.line.steps.now.items crew.line.receiver back.line
  pub clock : ClockComes p crew.clock.ticks (list_seen crew.clock.seat) back.clock
  pub flusher : FlusherComes p crew.flusher.run crew.flusher.seat back.flusher
  pub callers : CallersCome p (cast_of crew.callers) back.callers

-- who has which of these seats, and which part of the work
abbrev pub crew_in : Seats → LineState → PutterState Flagged → PhaseWork → Crew
crew_in seats line putter work = record {
  line = record {
    receiver = record { seat = seats.line; line = line; putter = putter };
    steps = work.steps;
    phase = work.phase;
  };
  clock = record { seat = seats.clock; ticks = work.ticks };
  flusher = record { seat = seats.flusher; run = work.run };
  callers = record { seats = seats.callers; cast = work.cast; scripts = work.scripts };
}

-- the seats of a crew, with the session's
abbrev pub seats_of : Crew → PortSeat → Seats
seats_of crew session = record {
  callers = crew.callers.seats;
  flusher = crew.flusher.seat;
  line = crew.line.receiver.seat;
  clock = crew.clock.seat;
  session = session;
}
