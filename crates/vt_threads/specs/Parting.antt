-- A console whose parts are dealt out for the threads of a phase, and what they came to.
use Rattle.std.specs.Prelude.{◌≡◌, ℕ, List, Option, None, Some, length, map, replicate, slice_get, take}
use Rattle.tty_base.specs.declared.characters.Flagged.{Flagged}
use Rattle.word_ring.specs.Ends.{PutterState}
use Rattle.uart_line.specs.LineState.{LineState}
use Rattle.tty_calls.specs.declared.sessions.Script.{Script}
use Rattle.tty_calls.specs.declared.sessions.Session.{Session}
use Rattle.tty_calls.specs.Sessions.{session_of, ticks_on}
use Rattle.legal_runs.specs.Legal.{phase_at}
use Rattle.play_base.specs.Roles.{PlainRole, Scene, AreRolesOf, role_in, scene_of}
use Rattle.play_base.specs.Casting.{scripts_at, steps_after}
use Rattle.play_base.specs.declared.stations.Station.{Station}
use Rattle.tty_port.specs.declared.shared.SharedPort.{SharedPort}
use Rattle.many_threads.specs.declared.caller_threads.CallersBack.{CallersBack}
use Rattle.many_threads.specs.declared.thread_bodies.FlusherBack.{FlusherBack}
use Rattle.many_threads.specs.declared.seats.Seats.{Seats}
use Rattle.many_threads.specs.declared.shared_phase.PhaseWork.{PhaseWork}
use Rattle.many_threads.specs.declared.shared_phase.PhaseEnd.{PhaseEnd}
use Rattle.many_threads.specs.declared.shared_phase.PhaseEnd.TheVariants.{Over, Full}
use Rattle.many_threads.specs.Cast.{seated}
use Rattle.many_threads.specs.Callers.{CallersCome, plain_cast}
use Rattle.many_threads.specs.Comings.{FlusherComes}
use Rattle.many_threads.specs.PhaseEnds.{PhaseComes}
use Rattle.vt_consoles.specs.declared.entries.VtEntry.{VtEntry}
use Rattle.vt_text.specs.declared.sessions.VtSession.{VtSession}
use Rattle.vt_text.specs.Sessions.{PlainVtPhase, PlainVtSession, vt_session_of}
use Rattle.vt_account.specs.Keyed.{all_keys, consoles_in, keys_to}
use Rattle.vt_threads.specs.Between.{IsConsoleBefore}
use Rattle.vt_keyboard.specs.Consoles.{ConsoleComesIf}
use Rattle.vt_threads.specs.Halves.{IsShut, SomeThreadsOver, ThreadsOver, crew_back}
use Rattle.vt_keyboard.specs.declared.console_ends.KeySeats.{KeySeats}
use Rattle.vt_threads.specs.declared.consoles.Console.{Console}
use Rattle.vt_threads.specs.declared.console_phase.Shut.{Shut}
use Rattle.vt_threads.specs.declared.parting.Casting.{Casting}
use Rattle.vt_threads.specs.declared.parting.OwnSeats.{OwnSeats}
use Rattle.vt_threads.specs.declared.parting.Parted.{Parted}
use Rattle.vt_threads.specs.declared.parting.PartedBack.{PartedBack}
use Rattle.vt_threads.specs.declared.parting.Standing.{Standing}
use Rattle.vt_threads.specs.declared.parting.Standing.TheVariants as standing

-- ---- the parts

abbrev pub IsSomeConsoleBefore : PlainVtSession → (p k : ℕ) → Console → Type 0
IsSomeConsoleBefore session p k c = (entries : List VtEntry) × IsConsoleBefore session p k entries c

-- the port is shared, and each has its seat
pub record IsPartedShared (old : Station) (callers ticks run : ℕ) (q : Parted) : Type 0 where
  pub shared : SharedPort
  pub dealt : Seats
  pub keys : KeySeats
  pub port_is : q.port ≡ Some shared
  pub seats_are : q.seats ≡ Some keys
  pub own_are : q.own ≡ Some (record { flusher = dealt.flusher; run = run; callers = dealt.callers })
  pub standing_is : q.rest.standing ≡ standing.Shared dealt.session
  pub line_seat : keys.line ≡ dealt.line
  pub clock_seat : keys.clock ≡ dealt.clock
  pub ticks_are : keys.ticks ≡ ticks
  pub shut : IsShut old callers shared dealt q.line q.end

-- the journal is full, and nobody has a seat
pub record IsPartedFull (old : Station) (q : Parted) : Type 0 where
  pub port_is : q.port ≡ None
  pub seats_are : q.seats ≡ None
  pub own_are : q.own ≡ None
  pub standing_is : q.rest.standing ≡ standing.Full old.port
  pub line_is : q.line ≡ old.line
  pub end_is : q.end ≡ old.putter

abbrev pub PartedAs : Station → (callers ticks : ℕ) → PhaseEnd → Parted → Type 0
PartedAs old callers ticks (Over run) q = IsPartedShared old callers ticks run q
PartedAs old callers ticks Full q = IsPartedFull old q

-- the parts of console p in phase k
pub record IsParted (calls : Session) (p k : ℕ) (c : Console) (q : Parted) : Type 0 where
  pub names_are : q.rest.casting.names ≡ c.names
  pub callers_are : q.rest.casting.callers ≡ c.callers
  pub steps_are : q.rest.steps ≡ c.station.steps
  pub roles_are : AreRolesOf (scene_of p calls) k (map (role_in (scripts_at calls k)) q.rest.casting.roles.items)
  pub cast_is : q.rest.casting.cast.items ≡ seated q.rest.casting.roles.items (replicate c.callers None)
  pub stands : PartedAs c.station c.callers (ticks_on p (phase_at (session_of calls) k)) c.end q

-- ---- what the threads came to

pub record OwnPlayed (shared : SharedPort) (own : OwnSeats) (roles : List (Option PlainRole))
    (back : FlusherBack × CallersBack) : Type 0 where
  pub flushed : FlusherComes shared own.run own.flusher back.0
  pub called : CallersCome shared roles back.1

abbrev pub OwnCame : Option SharedPort → Option OwnSeats → List (Option PlainRole)
    → Option (FlusherBack × CallersBack)
    → Type 0
OwnCame None own roles back = Unit {0}
OwnCame (Some shared) None roles back = Unit {0}
OwnCame (Some shared) (Some own) roles None = ⊥
OwnCame (Some shared) (Some own) roles (Some back) = OwnPlayed shared own roles back

-- Console p in its parts after phase k, in which these keys went to these consoles, and the board had this part more.
pub record IsPlayedIn (session : VtSession) (p k : ℕ) (entries part : List VtEntry) (b : PartedBack) : Type 0 where
  pub phase : PlainVtPhase
  pub went : List ℕ
  pub c : Console
  pub q : Parted
  pub at : slice_get (vt_session_of session).phases k ≡ Some phase
  pub goes : consoles_in part ≡ went
  pub each_key : length went ≡ length phase.keys
  pub before_keys : length (consoles_in entries) ≡ length (all_keys (take k (vt_session_of session).phases))
  pub before : IsConsoleBefore (vt_session_of session) p k entries c
  pub parted : IsParted session.calls p k c q
  pub port_is : b.port ≡ q.port
  pub rest_is : b.rest ≡ q.rest
  pub keyed : ConsoleComesIf q.port (keys_to p phase.keys went) q.seats b.seats q.line b.line q.end b.end
  pub own : OwnCame q.port q.own (plain_cast (scripts_at session.calls k) q.rest.casting.cast.items) b.own

abbrev pub IsPlayed : VtSession → (p k : ℕ) → PartedBack → Type 0
IsPlayed session p k b = (entries : List VtEntry) × (part : List VtEntry) × IsPlayedIn session p k entries part b

-- ---- in between

-- the seats of a shared port are dealt out to the threads
pub record IsDealtOut (shut : Shut) (ticks run : ℕ) (q : Parted) : Type 0 where
  pub keys : KeySeats
  pub port_is : q.port ≡ Some shut.shared
  pub seats_are : q.seats ≡ Some keys
  pub own_are : q.own ≡ Some (record { flusher = shut.dealt.flusher; run = run; callers = shut.dealt.callers })
  pub standing_is : q.rest.standing ≡ standing.Shared shut.dealt.session
  pub line_seat : keys.line ≡ shut.dealt.line
  pub clock_seat : keys.clock ≡ shut.dealt.clock
  pub ticks_are : keys.ticks ≡ ticks
  pub line_is : q.line ≡ shut.line
  pub end_is : q.end ≡ shut.putter

-- what the parts of a console need to be put together, and what they come to
abbrev pub CanPutTogether : Option SharedPort → Option KeySeats
    → Option (FlusherBack × CallersBack)
    → LineState → PutterState Flagged → Standing
    → Type 0
CanPutTogether port seats own line end (standing.Full full) = Unit {0}
CanPutTogether port seats own line end (standing.Shared session) =
    (shared : SharedPort)
    × (keys : KeySeats)
    × (one : FlusherBack × CallersBack)
    × (port ≡ Some shared)
    × (seats ≡ Some keys)
    × (own ≡ Some one)
    × SomeThreadsOver shared session (crew_back keys line end one.0 one.1)

abbrev pub IsPutTogether : Option SharedPort → Option KeySeats
    → Option (FlusherBack × CallersBack)
    → LineState → PutterState Flagged → Standing
    → Station × PhaseEnd
    → Type 0
IsPutTogether port seats own line end (standing.Full full) r =
    (r.0.port ≡ full) × (r.0.putter ≡ end) × (r.0.line ≡ line) × (r.1 ≡ Full)
IsPutTogether port seats own line end (standing.Shared session) r =
    (shared : SharedPort) (keys : KeySeats) (one : FlusherBack × CallersBack)
    → port ≡ Some shared
    → seats ≡ Some keys
    → own ≡ Some one
    → (s : Scene) (old : Station) (work : PhaseWork) (dealt : Seats) (l : LineState) (putter : PutterState Flagged)
    → ThreadsOver s old work shared dealt l putter session (crew_back keys line end one.0 one.1)
    → PhaseComes s work.phase old r.0 r.1

-- the callers' next steps have moved past their calls of these scripts
pub record HasMovedOn (scripts : List Script) (casting : Casting) (station : Station) (end : PhaseEnd)
    (c : Console) : Type 0 where
  pub names_are : c.names ≡ casting.names
  pub callers_are : c.callers ≡ casting.callers
  pub port_is : c.station.port ≡ station.port
  pub putter_is : c.station.putter ≡ station.putter
  pub line_is : c.station.line ≡ station.line
  pub steps_are : c.station.steps.items ≡ steps_after (map (role_in scripts) casting.roles.items) station.steps.items
  pub end_is : c.end ≡ end
