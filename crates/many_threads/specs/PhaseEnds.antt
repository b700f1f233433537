-- What the threads of a phase leave: their seats, and the port that is whole again.
use Rattle.std.specs.Prelude.{◌≡◌, ◌⊎◌, ◌≤◌, ◌+◌, ℕ, List, [], ◌∷◌, ◌++◌, Bool, true, false}
use Rattle.std.specs.Prelude.{◌||◌, Option, None, Some, Result, Ok, Err, All, length}
use Rattle.tty_base.specs.declared.characters.Flagged.{Flagged}
use Rattle.tty_base.specs.declared.lines.Overrun.{Overrun}
use Rattle.word_ring.specs.Ends.{PutterState}
use Rattle.uart_line.specs.LineState.{LineState}
use Rattle.tty_calls.specs.declared.answers.Denied.{Denied}
use Rattle.tty_calls.specs.declared.answers.Denied.TheVariants as denied
use Rattle.tty_calls.specs.Plain.{PlainEntry, line_ended}
use Rattle.tty_calls.specs.Sessions.{call_at, counts_on}
use Rattle.tty_terminal.specs.Terminals.{caller_at, has_begun}
use Rattle.tty_terminal.specs.Steps.{may_end}
use Rattle.tty_terminal.specs.Runs.{Leads, chars_of}
use Rattle.legal_runs.specs.Legal.{script_of_first, session_events_in, line_ends_in, received_before}
use Rattle.legal_runs.specs.Phases.{CompletesPhase}
use Rattle.port_core.specs.Phases as ports
use Rattle.port_core.specs.Ports.{PortValue, IsPort}
use Rattle.play_base.specs.Roles.{Scene}
use Rattle.play_base.specs.Putting.{HasPut}
use Rattle.port_cell.specs.Seats.{EachSeat}
use Rattle.port_cell.specs.Knowledge.{list_seen}
use Rattle.tty_port.specs.Histories.{history_in, name_in}
use Rattle.tty_port.specs.Seen.{run_after}
use Rattle.tty_port.specs.Placed.{IsHistoryOf}
use Rattle.tty_port.specs.Calls.{PortSeat}
use Rattle.tty_port.specs.Shared.{IsHere, HasAllOf, name_of_port, opening_history}
use Rattle.tty_port.specs.declared.shared.SharedPort.{SharedPort}
use Rattle.many_threads.specs.declared.crew.Crew.{Crew}
use Rattle.many_threads.specs.declared.crew.CrewBack.{CrewBack}
use Rattle.many_threads.specs.declared.seats.Seats.{Seats}
use Rattle.many_threads.specs.declared.shared_phase.PhaseEnd.{PhaseEnd}
use Rattle.many_threads.specs.declared.shared_phase.PhaseEnd.TheVariants.{Over, Full}
use Rattle.many_threads.specs.declared.shared_phase.PhaseBack.{PhaseBack}
use Rattle.many_threads.specs.Parts.{StopsClock, PlaysClock, RunsLine, PlaysLine, PlaysFlusher}
use Rattle.many_threads.specs.Callers.{EachCaller, IsBack, PlayedAs, SomeSawFull, TellsFull}
use Rattle.many_threads.specs.Seats.{AreDealt}
use Rattle.many_threads.specs.Crew.{cast_of}
use Rattle.play_base.specs.Phases.{SeesWithin}
use Rattle.play_base.specs.declared.stations.Station.{Station}
use Rattle.many_threads.specs.PhaseStarts.{IsOfSession, IsAtPhase, PlaysPhase, StopsPhase}

-- ---- the seats

-- seats of the port with the numbers from n on
abbrev pub AreSeats : SharedPort → ℕ → List PortSeat → Type 0
AreSeats p n [] = Unit {0}
AreSeats p n (s ∷ ss) = IsHere p n s × AreSeats p (n + 1) ss

-- all seats of the port, each in its own place
pub record AreBack (p : SharedPort) (seats : Seats) : Type 0 where
  pub callers : AreSeats p 0 seats.callers.items
  pub count : length seats.callers.items ≡ (name_of_port p).callers
  pub flusher : IsHere p (name_of_port p).callers seats.flusher
  pub line : IsHere p ((name_of_port p).callers + 1) seats.line
  pub clock : IsHere p ((name_of_port p).callers + 2) seats.clock
  pub session : IsHere p ((name_of_port p).callers + 3) seats.session

abbrev pub all_seats : Seats → List PortSeat
all_seats seats = seats.callers.items ++ seats.flusher ∷ seats.line ∷ seats.clock ∷ seats.session ∷ []

-- the port v was shared, and its seats dealt out
pub record IsShared (m : ℕ) (v : PortValue) (p : SharedPort) (seats : Seats) : Type 0 where
  pub name : name_of_port p ≡ name_in m v
  pub opening : opening_history p ≡ history_in m v
  pub port : IsPort v
  pub dealt : AreDealt p seats

-- the sharing ended with these seats, and w is the port
pub record IsClosed (p : SharedPort) (seats : Seats) (w : PortValue) : Type 0 where
  pub port : IsPort w
  pub name : name_in (name_of_port p).callers w ≡ name_of_port p
  pub all : EachSeat (HasAllOf (history_in (name_of_port p).callers w)) (all_seats seats)
  pub history : IsHistoryOf (name_of_port p).callers w (history_in (name_of_port p).callers w)

-- ---- what comes of all threads

-- the number of the next flush run, where there is one and nobody found the journal full
abbrev pub end_of : Option ℕ → Bool → PhaseEnd
end_of None full = Full
end_of (Some next) true = Full
end_of (Some next) false = Over next

-- the next run, where the flusher was not denied; want of memory is told otherwise
abbrev pub IsNextTold : Result ℕ Denied → Option ℕ → Type 0
IsNextTold (Ok n) (Some next) = next ≡ n
IsNextTold (Ok n) None = ⊥
IsNextTold (Err denied.Full) (Some next) = ⊥
IsNextTold (Err denied.Full) None = Unit {0}
IsNextTold (Err denied.NoMemory) next = ⊥

-- what the answers of all threads come to
pub record IsEndBy (crew : CrewBack) (end : PhaseEnd) : Type 0 where
  pub line_full : Bool
  pub line_told : TellsFull crew.line.result line_full
  pub clock_full : Bool
  pub clock_told : TellsFull crew.clock.result clock_full
  pub next : Option ℕ
  pub next_told : IsNextTold crew.flusher.result next
  pub end_is : end ≡ end_of next (crew.callers.full || (line_full || clock_full))

-- all seats, the line and its putter, and what the answers of all threads come to
pub record AreTaken (crew : CrewBack) (session : PortSeat) (back : PhaseBack) : Type 0 where
  pub callers_are : back.seats.callers.items ≡ crew.callers.seats.items
  pub flusher_is : back.seats.flusher ≡ crew.flusher.seat
  pub line_is : back.seats.line ≡ crew.line.receiver.seat
  pub clock_is : back.seats.clock ≡ crew.clock.seat
  pub session_is : back.seats.session ≡ session
  pub played_is : back.line ≡ crew.line.receiver.line
  pub putter_is : back.putter ≡ crew.line.receiver.putter
  pub ends : IsEndBy crew back.end

-- every thread has played its part
pub record PartsArePlayed (p : SharedPort) (crew : Crew) (back : PhaseBack) (next : ℕ) : Type 0 where
  pub callers : EachCaller (PlayedAs p) 0 (cast_of crew.callers) back.seats.callers.items
  pub flusher : PlaysFlusher (name_of_port p) crew.flusher.run crew.flusher.seat next back.seats.flusher
  pub line_plays : PlaysLine ((name_of_port p).callers + 1) crew.line.steps.now.items crew.line.receiver.line back.line
      crew.line.receiver.putter back.putter (opening_history p) back.seats.line
  pub clock : PlaysClock ((name_of_port p).callers + 2) crew.clock.ticks (opening_history p) back.seats.clock

-- a thread found the journal full; the line has handed over all that it had to
pub record AreStopped (p : SharedPort) (crew : Crew) (back : PhaseBack) : Type 0 where
  pub full : SomeSawFull (name_of_port p) (all_seats back.seats)
  pub line_runs : PlaysLine ((name_of_port p).callers + 1) crew.line.steps.now.items crew.line.receiver.line back.line
      crew.line.receiver.putter back.putter (opening_history p) back.seats.line
      ⊎ RunsLine crew.line.steps.now.items crew.line.receiver.line back.line crew.line.receiver.putter back.putter
  pub clock : PlaysClock ((name_of_port p).callers + 2) crew.clock.ticks (opening_history p) back.seats.clock
      ⊎ StopsClock ((name_of_port p).callers + 2) crew.clock.ticks (opening_history p) back.seats.clock

abbrev pub Tells : SharedPort → Crew → PhaseBack → PhaseEnd → Type 0
Tells p crew back (Over next) = PartsArePlayed p crew back next
Tells p crew back Full = AreStopped p crew back

pub record ThreadsCome (p : SharedPort) (crew : Crew) (back : PhaseBack) : Type 0 where
  pub seats : AreBack p back.seats
  pub callers : EachCaller (IsBack p) 0 (cast_of crew.callers) back.seats.callers.items
  pub session : list_seen back.seats.session ≡ opening_history p
  pub told : Tells p crew back back.end

-- ---- the port after the threads

-- The threads of phase k are over, and the phase may end.
pub record PlaysThreads (s : Scene) (k : ℕ) (old new : PortValue) (now : PutterState Flagged) (line played : LineState)
    (next : ℕ) : Type 0 where
  pub of_session : IsOfSession s new
  pub front : List PlainEntry
  pub line_end : PlainEntry
  pub back : List PlainEntry
  pub added : new.journal ≡ old.journal ++ (front ++ line_end ∷ back)
  pub leads : Leads (call_at s.port s.session) (counts_on s.port s.session) old.terminal (front ++ line_end ∷ back)
      new.terminal
  pub inside : session_events_in (front ++ line_end ∷ back) ≡ []
  pub may : may_end new.counts new.terminal ≡ true
  pub phase : new.terminal.phase ≡ k
  pub at_rest : (c : ℕ) → has_begun (caller_at new.terminal c) ≡ false
  pub next_run : next ≡ run_after new.terminal.flushed
  pub none : line_ends_in front ≡ []
  pub ends_line : line_end.event ≡ line_ended (length now.sent)
  pub sent : new.terminal.sent ≡ length now.sent
  pub overruns : List Overrun
  pub more_overruns : played.report.overruns.items ≡ line.report.overruns.items ++ overruns
  pub completes : (more : List Overrun)
      → All (λ o. received_before s.port s.session (k + 1) ≤ o.at) more
      → CompletesPhase s.port s.session (played.report.overruns.items ++ more) k old.terminal new.terminal
  pub seen : All (SeesWithin s k (length (chars_of old.journal)) (length (chars_of (old.journal ++ front)))) overruns
  pub ring : new.flip.ring ≡ old.flip.ring
  pub capacity : new.flip.capacity ≡ old.flip.capacity
  pub has_put : HasPut new now played (script_of_first s.port s.session (k + 1))
  pub most : played.most ≡ line.most

abbrev pub ThreadsLeave : Scene → ℕ → Station → Station → PhaseEnd → Type 0
ThreadsLeave s k old new (Over next) = PlaysThreads s k old.port new.port new.putter old.line new.line next
ThreadsLeave s k old new Full = StopsPhase s k old.port new.port new.putter old.line new.line

-- the phase's end, or a journal that takes no further entry
abbrev pub EndsOrStops : (old new : PortValue) (putter now : PutterState Flagged) (next : ℕ) → PhaseEnd → Type 0
EndsOrStops old new putter now next (Over after) = (after ≡ next) × ports.EndsPhase old new putter now
EndsOrStops old new putter now next Full = (length old.journal ≡ old.limit) × (new ≡ old) × (now ≡ putter)

-- phase k of a port: it is played, or comes to a full journal
abbrev pub PhaseComes : Scene → ℕ → Station → Station → PhaseEnd → Type 0
PhaseComes s k old new (Over next) =
    IsAtPhase s (k + 1) new.port new.putter new.line next
    × PlaysPhase s k old.port new.port new.putter old.line new.line
PhaseComes s k old new Full = StopsPhase s k old.port new.port new.putter old.line new.line

-- the phase of a port may end, where its flusher would go on
abbrev pub CanFinish : Station → PhaseEnd → Type 0
CanFinish station (Over next) =
    (may_end station.port.counts station.port.terminal ≡ true) × (station.putter.ring ≡ station.port.flip.ring)
CanFinish station Full = Unit {0}
