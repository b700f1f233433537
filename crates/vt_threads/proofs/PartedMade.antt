-- How a console is parted, and put together.
use Rattle.std.proofs.Common.{◌≡◌, ℕ, ◌≤◌, [], ◌++◌, Option, None, Some, Result, Ok, Err}
use Rattle.std.proofs.Common.{Vec, Global, map, replicate, sym, subst, ap, ◌∙◌, arith}
use Rattle.std.specs.Prelude.{IfOk}
use Rattle.tty_base.specs.Sizes.{MOST_CALLER_SEATS}
use Rattle.tty_base.specs.declared.characters.Flagged.{Flagged}
use Rattle.word_ring.specs.Ends.{PutterState}
use Rattle.uart_line.specs.LineState.{LineState}
use Rattle.tty_calls.specs.declared.sessions.Session.{Session}
use Rattle.tty_calls.specs.Sessions.{session_of, ticks_on}
use Rattle.legal_runs.specs.Legal.{phase_at}
use Rattle.play_base.specs.Roles.{Scene, AreRolesOf, role_in, scene_of}
use Rattle.play_base.specs.Casting.{scripts_at}
use Rattle.play_base.specs.declared.roles.Role.{Role}
use Rattle.play_base.specs.declared.stations.Station.{Station}
use Rattle.play_base.proofs.RoleLemmas.{few_scripts, sum_counts}
use Rattle.tty_port.specs.Calls.{PortSeat}
use Rattle.tty_port.specs.declared.shared.SharedPort.{SharedPort}
use Rattle.many_threads.specs.declared.caller_threads.CallersBack.{CallersBack}
use Rattle.many_threads.specs.declared.thread_bodies.FlusherBack.{FlusherBack}
use Rattle.many_threads.specs.declared.seats.Seats.{Seats}
use Rattle.many_threads.specs.declared.shared_phase.PhaseEnd.{PhaseEnd}
use Rattle.many_threads.specs.declared.shared_phase.PhaseEnd.TheVariants.{Full}
use Rattle.many_threads.specs.declared.shared_phase.PhaseWork.{PhaseWork}
use Rattle.many_threads.specs.Cast.{seated}
use Rattle.many_threads.specs.PhaseEnds.{PhaseComes}
use Rattle.vt_text.specs.declared.sessions.VtSession.{VtSession}
use Rattle.vt_text.specs.Sessions.{vt_session_of}
use Rattle.vt_account.specs.Keyed.{IsWithinKeys, keyed}
use Rattle.vt_threads.specs.Halves.{IsShut, ThreadsOver, crew_back}
use Rattle.vt_threads.specs.Parting.{IsDealtOut, IsParted, IsPartedFull, IsPartedShared}
use Rattle.vt_threads.specs.Parting.{IsPutTogether, IsSomeConsoleBefore, PartedAs}
use Rattle.vt_keyboard.specs.declared.console_ends.KeySeats.{KeySeats}
use Rattle.vt_threads.specs.declared.console_phase.Shut.{Shut}
use Rattle.vt_threads.specs.declared.consoles.Console.{Console}
use Rattle.vt_threads.specs.declared.parting.Casting.{Casting}
use Rattle.vt_threads.specs.declared.parting.Parted.{Parted}
use Rattle.vt_threads.specs.declared.parting.Standing.{Standing}
use Rattle.vt_threads.specs.declared.parting.Standing.TheVariants as standing
use Rattle.vt_threads.proofs.KeyRoom.{standing_put}

pub parted_shared : (old : Station) (callers ticks run : ℕ) (shut : Shut) (q : Parted)
    → IsShut old callers shut.shared shut.dealt shut.line shut.putter
    → IsDealtOut shut ticks run q
    → IsPartedShared old callers ticks run q
parted_shared old callers ticks run shut q h d = record {
  shared = shut.shared;
  dealt = shut.dealt;
  keys = d.keys;
  port_is = d.port_is;
  seats_are = d.seats_are;
  own_are = d.own_are;
  standing_is = d.standing_is;
  line_seat = d.line_seat;
  clock_seat = d.clock_seat;
  ticks_are = d.ticks_are;
  shut = subst (λ (l : LineState). IsShut old callers shut.shared shut.dealt l q.end) (sym d.line_is)
      (subst (λ (e : PutterState Flagged). IsShut old callers shut.shared shut.dealt shut.line e) (sym d.end_is) h);
}

pub parted_full : (calls : Session) (p k : ℕ) (c d : Console) (roles : Vec Role Global)
    (cast : Vec (Option Role) Global) (q : Parted)
    → d ≡ c
    → d.end ≡ Full
    → IsPartedFull d.station q
    → q.rest.casting ≡ record { names = d.names; callers = d.callers; roles = roles; cast = cast }
    → q.rest.steps ≡ d.station.steps
    → AreRolesOf (scene_of p calls) k (map (role_in (scripts_at calls k)) roles.items)
    → cast.items ≡ seated roles.items (replicate c.callers None)
    → IsParted calls p k c q
parted_full calls p k c d roles cast q same is full casting steps are seats = record {
  names_are = ap (λ (x : Casting). x.names) casting ∙ ap (λ (x : Console). x.names) same;
  callers_are = ap (λ (x : Casting). x.callers) casting ∙ ap (λ (x : Console). x.callers) same;
  steps_are = steps ∙ ap (λ (x : Console). x.station.steps) same;
  roles_are = subst
      (λ (x : Casting). AreRolesOf (scene_of p calls) k (map (role_in (scripts_at calls k)) x.roles.items))
      (sym casting) are;
  cast_is =
      ap (λ (x : Casting). x.cast.items) casting
      ∙ (seats ∙ ap (λ (x : Casting). seated x.roles.items (replicate c.callers None)) (sym casting));
  stands = subst (λ (e : PhaseEnd). PartedAs c.station c.callers (ticks_on p (phase_at (session_of calls) k)) e q)
      (sym (sym (ap (λ (x : Console). x.end) same) ∙ is)) (subst (λ (x : Console). IsPartedFull x.station q) same full);
}

pub few_callers_in : (session : VtSession) (p k : ℕ) (c d : Console)
    → IsWithinKeys (vt_session_of session)
    → IsSomeConsoleBefore (vt_session_of session) p k c
    → d ≡ c
    → d.callers ≤ MOST_CALLER_SEATS
few_callers_in session p k c d within before same =
    let few = few_scripts p (session_of session.calls) within.calls in
    let count = sum_counts p (session_of session.calls) in
    let callers = before.1.callers in
    subst (λ (x : Console). x.callers ≤ MOST_CALLER_SEATS) (sym same) (omega (arith, few, count, callers))

pub ring_before : (session : VtSession) (p k : ℕ) (c d : Console)
    → IsSomeConsoleBefore (vt_session_of session) p k c
    → d ≡ c
    → d.station.putter.ring ≡ d.station.port.flip.ring
ring_before session p k c d before same =
    subst (λ (x : Console). x.station.putter.ring ≡ x.station.port.flip.ring) (sym same)
    (standing_put (record { port = p; session = keyed (vt_session_of session) (before.0 ++ []) }) k c.station c.end
    (before.1.stands [])).0.ring

some_is : {A : Type 0} (x y : A) → Some x ≡ Some y → x ≡ y
some_is x y h = cc

pub put_whole : {E : Type 0} (result : Result (Station × PhaseEnd) E) (port : Option SharedPort)
    (seats : Option KeySeats) (own : Option (FlusherBack × CallersBack)) (line : LineState) (end : PutterState Flagged)
    (n : Standing) (session : PortSeat) (shared : SharedPort) (keys : KeySeats) (one : FlusherBack × CallersBack)
    → n ≡ standing.Shared session
    → port ≡ Some shared
    → seats ≡ Some keys
    → own ≡ Some one
    → ((s : Scene) (old : Station) (work : PhaseWork) (dealt : Seats) (l : LineState) (putter : PutterState Flagged)
    → ThreadsOver s old work shared dealt l putter session (crew_back keys line end one.0 one.1)
    → IfOk result (λ r. PhaseComes s work.phase old r.0 r.1))
    → IfOk result (IsPutTogether port seats own line end n)
put_whole (Ok r) port seats own line end n session shared keys one is is_port is_seats is_own comes =
    subst (λ (m : Standing). IsPutTogether port seats own line end m r) (sym is)
    (λ shared' keys' one' at_port at_seats at_own s old work dealt l putter over.
    comes s old work dealt l putter
    (subst (λ (x : SharedPort). ThreadsOver s old work x dealt l putter session (crew_back keys line end one.0 one.1))
    (some_is shared' shared (sym at_port ∙ is_port))
    (subst (λ (x : KeySeats). ThreadsOver s old work shared' dealt l putter session (crew_back x line end one.0 one.1))
    (some_is keys' keys (sym at_seats ∙ is_seats))
    (subst (λ (x : FlusherBack × CallersBack).
    ThreadsOver s old work shared' dealt l putter session (crew_back keys' line end x.0 x.1))
    (some_is one' one (sym at_own ∙ is_own)) over))))
put_whole (Err e) port seats own line end n session shared keys one is is_port is_seats is_own comes = tt
