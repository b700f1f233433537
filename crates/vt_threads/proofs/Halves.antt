-- What comes of a console's phase, from what its threads brought back.
use Rattle.std.proofs.Common.{◌≡◌, ℕ, sym, subst, length}
use Rattle.tty_base.specs.declared.characters.Flagged.{Flagged}
use Rattle.word_ring.specs.Ends.{PutterState}
use Rattle.uart_line.specs.LineState.{LineState}
use Rattle.port_core.specs.Ports.{PortValue}
use Rattle.play_base.specs.Roles.{Scene}
use Rattle.play_base.specs.Putting.{KnowsTaken}
use Rattle.play_base.specs.declared.stations.Station.{Station}
use Rattle.play_base.proofs.Meetings.{knows_met}
use Rattle.tty_port.specs.Calls.{PortSeat}
use Rattle.tty_port.specs.declared.shared.SharedPort.{SharedPort}
use Rattle.many_threads.specs.declared.crew.Crew.{Crew}
use Rattle.many_threads.specs.declared.crew.CrewBack.{CrewBack}
use Rattle.many_threads.specs.declared.seats.Seats.{Seats}
use Rattle.many_threads.specs.declared.shared_phase.PhaseBack.{PhaseBack}
use Rattle.many_threads.specs.declared.shared_phase.PhaseEnd.{PhaseEnd}
use Rattle.many_threads.specs.declared.shared_phase.PhaseEnd.TheVariants.{Over, Full}
use Rattle.many_threads.specs.declared.shared_phase.PhaseWork.{PhaseWork}
use Rattle.many_threads.specs.Crew.{CanRun, CrewComes, crew_in, seats_of}
use Rattle.many_threads.specs.Seats.{AreDealt}
use Rattle.many_threads.specs.PhaseStarts.{CanPlayPhase, StopsPhase}
use Rattle.many_threads.specs.PhaseEnds.{AreTaken, IsClosed}
use Rattle.many_threads.specs.PhaseEnds.{PlaysThreads, ThreadsCome, ThreadsLeave}
use Rattle.many_threads.proofs.Gathering.{threads_come}
use Rattle.many_threads.proofs.PhaseAccount.{dealt_to, threads_leave}
use Rattle.many_threads.proofs.PhaseEnds.{leaves_from}
use Rattle.many_threads.proofs.PhaseStart.{can_play_met, can_run}
use Rattle.vt_threads.specs.Halves.{ThreadsOver}

module _ (s : Scene) (old : Station) (work : PhaseWork) (p : SharedPort) (dealt : Seats) (line : LineState)
    (putter : PutterState Flagged) (session : PortSeat) (back : CrewBack)
    (over : ThreadsOver s old work p dealt line putter session back) where
  -- the console once both ends have met
  abbrev met : Station
  met = record { port = over.shut.met; putter = putter; line = old.line; steps = old.steps }

  abbrev crew : Crew
  crew = crew_in dealt old.line putter work

  can : CanPlayPhase s met work
  can = can_play_met s old over.shut.met putter work over.shut.met_is over.shut.meets over.can

  runs : CanRun p crew
  runs = can_run s p met work dealt can over.shut.shared

  fresh : AreDealt p (seats_of crew session)
  fresh = subst (λ (seat : PortSeat). AreDealt p (seats_of crew seat)) (sym over.session_is)
      (dealt_to p dealt old.line putter work over.shut.shared.dealt)

  came : CrewComes p crew back
  came = subst (λ (l : LineState). CrewComes p (crew_in dealt l putter work) back) over.shut.line_is over.comes

  pub half_comes : (taken : PhaseBack) → AreTaken back session taken → ThreadsCome p crew taken
  half_comes taken h = threads_come p crew session back taken runs fresh came h

  knows : KnowsTaken (length over.shut.met.flip.taken) putter.heads
  knows = subst (λ (x : PortValue). KnowsTaken (length x.flip.taken) putter.heads) (sym over.shut.met_is)
      (knows_met old.port.flip old.putter putter over.shut.meets)

  pub half_leaves : (taken : PhaseBack) (w : PortValue)
      → AreTaken back session taken
      → IsClosed p taken.seats w
      → ThreadsLeave s work.phase old (record { port = w; putter = taken.putter; line = taken.line; steps = old.steps })
      taken.end
  half_leaves taken w h closed =
      leaves_from s work.phase old (record { port = w; putter = taken.putter; line = taken.line; steps = old.steps })
      over.shut.met putter taken.end over.shut.met_is
      (threads_leave s p met work dealt w taken can knows over.shut.shared (half_comes taken h) closed)

-- the callers' next steps are none of the threads' concern
pub other_steps : (s : Scene) (k : ℕ) (old left now : Station) (end : PhaseEnd)
    → now.port ≡ left.port
    → now.putter ≡ left.putter
    → now.line ≡ left.line
    → ThreadsLeave s k old left end
    → ThreadsLeave s k old now end
other_steps s k old left now (Over next) port putter line h =
    subst (λ (v : PortValue). PlaysThreads s k old.port v now.putter old.line now.line next) (sym port)
    (subst (λ (q : PutterState Flagged). PlaysThreads s k old.port left.port q old.line now.line next) (sym putter)
    (subst (λ (l : LineState). PlaysThreads s k old.port left.port left.putter old.line l next) (sym line) h))
other_steps s k old left now Full port putter line h =
    subst (λ (v : PortValue). StopsPhase s k old.port v now.putter old.line now.line) (sym port)
    (subst (λ (q : PutterState Flagged). StopsPhase s k old.port left.port q old.line now.line) (sym putter)
    (subst (λ (l : LineState). StopsPhase s k old.port left.port left.putter old.line l) (sym line) h))
