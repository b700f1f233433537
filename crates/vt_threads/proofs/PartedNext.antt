-- A console from one phase to the next, by its parts.
use Rattle.std.proofs.Common.{◌≡◌, ℕ, ◌+◌, ◌^◌, ◌<◌, List, [], ◌++◌, Option, None, Some, Result, Ok}
use Rattle.std.proofs.Common.{length, map, refl, sym, subst, ap, ◌∙◌, append_assoc}
use Rattle.std.specs.Prelude.{All, IfOk}
use Rattle.tty_base.specs.declared.characters.Flagged.{Flagged}
use Rattle.word_ring.specs.Ends.{PutterState}
use Rattle.uart_line.specs.LineState.{LineState}
use Rattle.uart_line.specs.Received.{closed_script}
use Rattle.tty_calls.specs.Sessions.{ticks_on}
use Rattle.legal_runs.specs.Legal.{phase_at}
use Rattle.port_core.specs.Ports.{PortValue}
use Rattle.play_base.specs.Roles.{PlainRole, Scene, AreFirstSteps, role_in, scene_of}
use Rattle.play_base.specs.Casting.{scripts_at, steps_after}
use Rattle.play_base.specs.declared.stations.Station.{Station}
use Rattle.play_base.proofs.RoleLemmas.{IsCastIn, cast_in, moved_on, roles_few, roles_within}
use Rattle.tty_port.specs.Calls.{PortSeat}
use Rattle.tty_port.specs.declared.shared.SharedPort.{SharedPort}
use Rattle.many_threads.specs.declared.caller_threads.CallersBack.{CallersBack}
use Rattle.many_threads.specs.declared.thread_bodies.FlusherBack.{FlusherBack}
use Rattle.many_threads.specs.declared.shared_phase.PhaseWork.{PhaseWork}
use Rattle.many_threads.specs.declared.shared_phase.PhaseEnd.{PhaseEnd}
use Rattle.many_threads.specs.declared.shared_phase.PhaseEnd.TheVariants.{Over, Full}
use Rattle.many_threads.specs.InPlay.{IsBeforePhase}
use Rattle.many_threads.specs.Callers.{plain_cast}
use Rattle.many_threads.specs.PhaseEnds.{PhaseComes}
use Rattle.many_threads.proofs.Onward.{at_ok}
use Rattle.vt_consoles.specs.declared.entries.VtEntry.{VtEntry}
use Rattle.vt_text.specs.declared.sessions.VtSession.{VtSession}
use Rattle.vt_text.specs.Sessions.{PlainVtSession, vt_session_of}
use Rattle.vt_account.specs.Keyed.{IsWithinKeys, key_line, keyed, keys_to}
use Rattle.vt_threads.specs.Between.{ConsoleStands, IsConsoleBefore, IsFullBefore}
use Rattle.vt_keyboard.specs.Keying.{DoesSteps}
use Rattle.vt_keyboard.specs.Consoles.{ConsoleComes, ConsoleComesIf}
use Rattle.vt_threads.specs.Halves.{IsShut, ThreadsOver, crew_back, with_steps}
use Rattle.vt_threads.specs.Parting.{CanPutTogether, HasMovedOn, IsPartedFull, IsPartedShared}
use Rattle.vt_threads.specs.Parting.{IsPlayedIn, IsPutTogether, OwnCame, OwnPlayed, PartedAs}
use Rattle.vt_keyboard.specs.declared.console_ends.KeySeats.{KeySeats}
use Rattle.vt_threads.specs.declared.consoles.Console.{Console}
use Rattle.vt_threads.specs.declared.parting.Casting.{Casting}
use Rattle.vt_threads.specs.declared.parting.Rest.{Rest}
use Rattle.vt_threads.specs.declared.parting.OwnSeats.{OwnSeats}
use Rattle.vt_threads.specs.declared.parting.Parted.{Parted}
use Rattle.vt_threads.specs.declared.parting.PartedBack.{PartedBack}
use Rattle.vt_threads.specs.declared.parting.Standing.{Standing}
use Rattle.vt_threads.specs.declared.parting.Standing.TheVariants as standing
use Rattle.vt_threads.proofs.CrewsBack.{crew_comes}
use Rattle.vt_threads.proofs.FullConsoles.{full_next, stands_after}
use Rattle.vt_threads.proofs.KeyedPlay.{can_play_keyed}
use Rattle.vt_threads.proofs.Seating.{seated_count}

-- ---- how a console stood

shared_not_full : (seat : PortSeat) (port : PortValue) → standing.Shared seat ≡ standing.Full port → ⊥
shared_not_full seat port h = cc

same_seat : (s t : PortSeat) → standing.Shared s ≡ standing.Shared t → s ≡ t
same_seat s t h = cc

same_port : (v w : PortValue) → standing.Full v ≡ standing.Full w → v ≡ w
same_port v w h = cc

pub shared_end : (old : Station) (callers ticks : ℕ) (end : PhaseEnd) (q : Parted) (seat : PortSeat)
    → PartedAs old callers ticks end q
    → q.rest.standing ≡ standing.Shared seat
    → (run : ℕ) × (end ≡ Over run) × IsPartedShared old callers ticks run q
shared_end old callers ticks (Over run) q seat h is = (run, refl, h)
shared_end old callers ticks Full q seat h is = absurd (shared_not_full seat old.port (sym is ∙ h.standing_is))

pub full_end : (old : Station) (callers ticks : ℕ) (end : PhaseEnd) (q : Parted) (port : PortValue)
    → PartedAs old callers ticks end q
    → q.rest.standing ≡ standing.Full port
    → (end ≡ Full) × IsPartedFull old q
full_end old callers ticks (Over run) q port h is =
    absurd (shared_not_full h.dealt.session port (sym h.standing_is ∙ is))
full_end old callers ticks Full q port h is = (refl, h)

-- ---- what came back to a shared console

keys_there : (port : SharedPort) (keys : List ℕ) (s : KeySeats) (t : Option KeySeats) (l m : LineState)
    (e f : PutterState Flagged)
    → ConsoleComesIf (Some port) keys (Some s) t l m e f
    → (u : KeySeats) × (t ≡ Some u) × ConsoleComes port keys s u l m e f
keys_there port keys s None l m e f h = absurd h
keys_there port keys s (Some u) l m e f h = (u, refl, h)

own_there : (port : SharedPort) (own : OwnSeats) (roles : List (Option PlainRole))
    (back : Option (FlusherBack × CallersBack))
    → OwnCame (Some port) (Some own) roles back
    → (one : FlusherBack × CallersBack) × (back ≡ Some one) × OwnPlayed port own roles one
own_there port own roles None h = absurd h
own_there port own roles (Some one) h = (one, refl, h)

some_is : {A : Type 0} (x y : A) → Some x ≡ Some y → x ≡ y
some_is x y h = cc

module _ (session : VtSession) (within : IsWithinKeys (vt_session_of session)) (p : ℕ)
    (known : p < (vt_session_of session).calls.ports) (k : ℕ) (below : k < length (vt_session_of session).calls.phases)
    (entries part : List VtEntry) (b : PartedBack) (h : IsPlayedIn session p k entries part b) where
  abbrev vt : PlainVtSession
  vt = vt_session_of session

  abbrev old : Station
  old = h.c.station

  abbrev mine : List ℕ
  mine = keys_to p h.phase.keys h.went

  abbrev ticks : ℕ
  ticks = ticks_on p (phase_at vt.calls k)

  -- the scene that is played, whatever entries follow
  abbrev scene : List VtEntry → Scene
  scene more = record { port = p; session = keyed vt (entries ++ (part ++ more)) }

  stood : (more : List VtEntry) → ConsoleStands (scene more) k old h.c.end
  stood more = h.before.stands (part ++ more)

  -- ---- a shared console

  module _ (run : ℕ) (end_was : h.c.end ≡ Over run) (sh : IsPartedShared old h.c.callers ticks run h.q)
      (seat : PortSeat) (is : h.q.rest.standing ≡ standing.Shared seat) where
    abbrev work : PhaseWork
    work = record {
      phase = old.port.terminal.phase;
      run = run;
      steps = record { ref_ptr = (0, 0); now = record { items = [] } };
      ticks = ticks;
      cast = record { ref_ptr = (0, 0); now = h.q.rest.casting.cast.items };
      scripts = record { ref_ptr = (0, 0); now = scripts_at session.calls k };
    }

    before : (more : List VtEntry) → IsBeforePhase (scene more) k old run
    before more = subst (λ (end : PhaseEnd). ConsoleStands (scene more) k old end) end_was (stood more)

    pub keys_back : (u : KeySeats)
        × (b.seats ≡ Some u)
        × ConsoleComes sh.shared mine sh.keys u h.q.line b.line h.q.end b.end
    keys_back = keys_there sh.shared mine sh.keys b.seats h.q.line b.line h.q.end b.end
        (subst
        (λ (port : Option SharedPort). ConsoleComesIf port mine (Some sh.keys) b.seats h.q.line b.line h.q.end b.end)
        sh.port_is
        (subst (λ (seats : Option KeySeats). ConsoleComesIf h.q.port mine seats b.seats h.q.line b.line h.q.end b.end)
        sh.seats_are h.keyed))

    pub own_back : (one : FlusherBack × CallersBack)
        × (b.own ≡ Some one)
        × OwnPlayed sh.shared (record { flusher = sh.dealt.flusher; run = run; callers = sh.dealt.callers })
        (plain_cast (scripts_at session.calls k) h.q.rest.casting.cast.items) one
    own_back = own_there sh.shared (record { flusher = sh.dealt.flusher; run = run; callers = sh.dealt.callers })
        (plain_cast (scripts_at session.calls k) h.q.rest.casting.cast.items) b.own
        (subst (λ (port : Option SharedPort). OwnCame port
        (Some (record { flusher = sh.dealt.flusher; run = run; callers = sh.dealt.callers }))
        (plain_cast (scripts_at session.calls k) h.q.rest.casting.cast.items) b.own) sh.port_is
        (subst (λ (own : Option OwnSeats).
        OwnCame h.q.port own (plain_cast (scripts_at session.calls k) h.q.rest.casting.cast.items) b.own)
        sh.own_are h.own))

    callers_count : length h.q.rest.casting.cast.items ≡ h.c.callers
    callers_count = ap length h.parted.cast_is ∙ seated_count h.q.rest.casting.roles.items h.c.callers

    pub threads_over : (more : List VtEntry)
        → ThreadsOver (scene more) old (with_steps (key_line mine) work) sh.shared sh.dealt h.q.line h.q.end seat
        (crew_back keys_back.0 b.line b.end own_back.0.0 own_back.0.1)
    threads_over more = record {
      shut = subst (λ (n : ℕ). IsShut old n sh.shared sh.dealt h.q.line h.q.end) (sym callers_count) sh.shut;
      can = can_play_keyed vt within p known k h.phase h.at below entries part more h.went h.goes h.each_key
          h.before_keys h.c.callers old work h.q.rest.casting.roles.items refl (before more) refl h.before.callers
          h.parted.roles_are h.parted.cast_is;
      session_is = same_seat seat sh.dealt.session (sym is ∙ sh.standing_is);
      comes = crew_comes sh.shared sh.dealt work mine sh.keys keys_back.0 h.q.line b.line h.q.end b.end own_back.0.0
          own_back.0.1 sh.line_seat sh.clock_seat sh.ticks_are keys_back.2 own_back.2.flushed own_back.2.called;
    }

    pub can_put : CanPutTogether b.port b.seats b.own b.line b.end (standing.Shared seat)
    can_put = (
      sh.shared,
      keys_back.0,
      own_back.0,
      h.port_is ∙ sh.port_is,
      keys_back.1,
      own_back.1,
      record {
        s = scene [];
        old = old;
        work = with_steps (key_line mine) work;
        dealt = sh.dealt;
        line = h.q.line;
        putter = h.q.end;
        over = threads_over [];
      },
    )

    pub shared_stands : (more : List VtEntry) (r : Station × PhaseEnd) (left : Station)
        → IsPutTogether b.port b.seats b.own b.line b.end (standing.Shared seat) r
        → left.port ≡ r.0.port
        → left.putter ≡ r.0.putter
        → left.line ≡ r.0.line
        → AreFirstSteps (record { port = p; session = vt.calls }) (k + 1) left.steps.items
        → ConsoleStands (scene more) (k + 1) left r.1
    shared_stands more r left whole port putter line steps =
        let comes : PhaseComes (scene more) old.port.terminal.phase old r.0 r.1 =
        whole sh.shared keys_back.0 own_back.0 (h.port_is ∙ sh.port_is) keys_back.1 own_back.1 (scene more) old
        (with_steps (key_line mine) work) sh.dealt h.q.line h.q.end (threads_over more) in
        let at_k : PhaseComes (scene more) k old r.0 r.1 =
        subst (λ (n : ℕ). PhaseComes (scene more) n old r.0 r.1) (before more).at_phase.phase comes in
        stands_after vt p k (entries ++ (part ++ more)) old r.0 left run r.1 within below port putter line (before more)
        at_k steps

  -- ---- a full console

  module _ (full : PortValue) (end_was : h.c.end ≡ Full) (sh : IsPartedFull old h.q)
      (is : h.q.rest.standing ≡ standing.Full full) where
    pub full_stands : (more : List VtEntry) (r : Station × PhaseEnd) (left : Station)
        → IsPutTogether b.port b.seats b.own b.line b.end (standing.Full full) r
        → left.port ≡ r.0.port
        → left.putter ≡ r.0.putter
        → left.line ≡ r.0.line
        → IsFullBefore (scene more) (k + 1) left
    full_stands more r left whole port putter line =
        let before : IsFullBefore (scene more) k old =
        subst (λ (end : PhaseEnd). ConsoleStands (scene more) k old end) end_was (stood more) in
        let does = subst
        (λ (o : Option SharedPort). ConsoleComesIf o mine h.q.seats b.seats h.q.line b.line h.q.end b.end)
        sh.port_is h.keyed in
        full_next vt p k h.phase entries part more h.went old left within known h.at below h.goes h.each_key
        h.before_keys (port ∙ (whole.0 ∙ sym (same_port old.port full (sym sh.standing_is ∙ is))))
        (subst (λ (l : LineState). DoesSteps (closed_script (key_line mine)) old.line l old.putter left.putter)
        (sym (line ∙ whole.2))
        (subst (λ (e : PutterState Flagged). DoesSteps (closed_script (key_line mine)) old.line b.line old.putter e)
        (sym (putter ∙ whole.1))
        (subst (λ (l : LineState). DoesSteps (closed_script (key_line mine)) l b.line old.putter b.end) sh.line_is
        (subst (λ (e : PutterState Flagged). DoesSteps (closed_script (key_line mine)) h.q.line b.line e b.end)
        sh.end_is does)))) before

  -- ---- the callers' steps

  cast : IsCastIn (scene_of p session.calls) k old.steps.items
  cast = cast_in (scene_of p session.calls) p k session.calls old.steps.items refl within.calls below h.before.steps

  pub steps_within : All (λ r. r.number < length old.steps.items)
      (map (role_in (scripts_at session.calls k)) h.q.rest.casting.roles.items)
  steps_within = roles_within (scene_of p session.calls) k old.steps.items
      (map (role_in (scripts_at session.calls k)) h.q.rest.casting.roles.items) cast h.parted.roles_are

  pub steps_few : All (λ r. r.first + length r.calls < 2 ^ 32)
      (map (role_in (scripts_at session.calls k)) h.q.rest.casting.roles.items)
  steps_few = roles_few (scene_of p session.calls) k old.steps.items
      (map (role_in (scripts_at session.calls k)) h.q.rest.casting.roles.items) cast h.parted.roles_are

  steps_next : AreFirstSteps (scene_of p session.calls) (k + 1)
      (steps_after (map (role_in (scripts_at session.calls k)) h.q.rest.casting.roles.items) old.steps.items)
  steps_next = moved_on (scene_of p session.calls) k old.steps.items
      (map (role_in (scripts_at session.calls k)) h.q.rest.casting.roles.items) cast h.parted.roles_are

  -- what moving on asks for, of what came back
  pub moved_within : (casting : Casting) (station : Station)
      → casting ≡ b.rest.casting
      → station.steps ≡ b.rest.steps
      → All (λ r. r.number < length station.steps.items)
      (map (role_in (scripts_at session.calls k)) casting.roles.items)
  moved_within casting station is steps =
      subst (λ (n : ℕ). All (λ r. r.number < n) (map (role_in (scripts_at session.calls k)) casting.roles.items))
      (sym (ap (λ v. length v.items) (steps ∙ (ap (λ (r : Rest). r.steps) h.rest_is ∙ h.parted.steps_are))))
      (subst (λ (x : Casting).
      All (λ r. r.number < length old.steps.items) (map (role_in (scripts_at session.calls k)) x.roles.items))
      (sym (is ∙ ap (λ (r : Rest). r.casting) h.rest_is)) steps_within)

  pub moved_few : (casting : Casting)
      → casting ≡ b.rest.casting
      → All (λ r. r.first + length r.calls < 2 ^ 32)
      (map (role_in (scripts_at session.calls k)) casting.roles.items)
  moved_few casting is = subst (λ (x : Casting).
      All (λ r. r.first + length r.calls < 2 ^ 32) (map (role_in (scripts_at session.calls k)) x.roles.items))
      (sym (is ∙ ap (λ (r : Rest). r.casting) h.rest_is)) steps_few

  -- ---- the console before the next phase

  stands_by : (n : Standing)
      → h.q.rest.standing ≡ n
      → (more : List VtEntry) (r : Station × PhaseEnd) (left : Station)
      → IsPutTogether b.port b.seats b.own b.line b.end n r
      → left.port ≡ r.0.port
      → left.putter ≡ r.0.putter
      → left.line ≡ r.0.line
      → AreFirstSteps (record { port = p; session = vt.calls }) (k + 1) left.steps.items
      → ConsoleStands (scene more) (k + 1) left r.1
  stands_by (standing.Shared seat) is more r left whole port putter line steps =
      let e = shared_end old h.c.callers ticks h.c.end h.q seat h.parted.stands is in
      shared_stands e.0 e.1 e.2 seat is more r left whole port putter line steps
  stands_by (standing.Full full) is more r left whole port putter line steps =
      let e = full_end old h.c.callers ticks h.c.end h.q full h.parted.stands is in
      subst (λ (end : PhaseEnd). ConsoleStands (scene more) (k + 1) left end) (sym whole.3)
      (full_stands full e.0 e.1 is more r left whole port putter line)

  pub can_put_by : (n : Standing) → h.q.rest.standing ≡ n → CanPutTogether b.port b.seats b.own b.line b.end n
  can_put_by (standing.Shared seat) is =
      let e = shared_end old h.c.callers ticks h.c.end h.q seat h.parted.stands is in
      can_put e.0 e.1 e.2 seat is
  can_put_by (standing.Full full) is = tt

  pub console_next : (r : Station × PhaseEnd) (c : Console)
      → IsPutTogether b.port b.seats b.own b.line b.end h.q.rest.standing r
      → r.0.steps ≡ h.q.rest.steps
      → HasMovedOn (scripts_at session.calls k) h.q.rest.casting r.0 r.1 c
      → IsConsoleBefore vt p (k + 1) (entries ++ part) c
  console_next r c whole steps moved =
      let same : r.0.steps.items ≡ old.steps.items = ap (λ v. v.items) (steps ∙ h.parted.steps_are) in
      let first : AreFirstSteps (record { port = p; session = vt.calls }) (k + 1) c.station.steps.items =
      subst (AreFirstSteps (scene_of p session.calls) (k + 1))
      (sym (moved.steps_are
      ∙ ap (steps_after (map (role_in (scripts_at session.calls k)) h.q.rest.casting.roles.items)) same)) steps_next in
      record {
        names = moved.names_are ∙ (h.parted.names_are ∙ h.before.names);
        callers = moved.callers_are ∙ (h.parted.callers_are ∙ h.before.callers);
        steps = first;
        stands = λ more. subst
            (λ (es : List VtEntry). ConsoleStands (record { port = p; session = keyed vt es }) (k + 1) c.station c.end)
            (sym (append_assoc entries part more))
            (subst (λ (end : PhaseEnd). ConsoleStands (scene more) (k + 1) c.station end) (sym moved.end_is)
            (stands_by h.q.rest.standing refl more r c.station
            whole moved.port_is moved.putter_is moved.line_is first));
      }

  pub can_put_back : CanPutTogether b.port b.seats b.own b.line b.end b.rest.standing
  can_put_back = can_put_by b.rest.standing (ap (λ (r : Rest). r.standing) (sym h.rest_is))

  pub console_back : {E : Type 0} (left : Result (Station × PhaseEnd) E) (station : Station) (end : PhaseEnd)
      (casting : Casting) (c : Console)
      → left ≡ Ok (station, end)
      → casting ≡ b.rest.casting
      → IfOk left (IsPutTogether b.port b.seats b.own b.line b.end b.rest.standing)
      → IfOk left (λ r. r.0.steps ≡ b.rest.steps)
      → HasMovedOn (scripts_at session.calls k) casting station end c
      → IsConsoleBefore vt p (k + 1) (entries ++ part) c
  console_back left station end casting c made is whole steps moved =
      let r : Station × PhaseEnd = (station, end) in
      let put : IsPutTogether b.port b.seats b.own b.line b.end b.rest.standing r =
      at_ok left r (IsPutTogether b.port b.seats b.own b.line b.end b.rest.standing) made whole in
      let same : r.0.steps ≡ b.rest.steps = at_ok left r (λ x. x.0.steps ≡ b.rest.steps) made steps in
      console_next r c
      (subst (λ (n : Standing). IsPutTogether b.port b.seats b.own b.line b.end n r)
      (ap (λ (x : Rest). x.standing) h.rest_is) put)
      (same ∙ ap (λ (x : Rest). x.steps) h.rest_is)
      (subst (λ (x : Casting). HasMovedOn (scripts_at session.calls k) x station end c)
      (is ∙ ap (λ (x : Rest). x.casting) h.rest_is) moved)
