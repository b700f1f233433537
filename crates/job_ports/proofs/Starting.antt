-- A port of a session of processes at the beginning of its session.
use Rattle.std.proofs.Common.{◌≡◌, ◌<◌, inl, inr, ℕ, zero, suc, ◌+◌, ◌==◌, Bool, true}
use Rattle.std.proofs.Common.{false, cond, List, [], ◌∷◌, ◌++◌, Option, None, Some, length, map}
use Rattle.std.proofs.Common.{if◌then◌else◌, refl, sym, ap, ◌∙◌, subst, arith}
use Rattle.std.specs.Prelude.{All, IsSome, fold, slice_get, slice_index_or, replicate, unwrap_or}
use Rattle.std.specs.Str.{bytes_eq}
use Rattle.std.specs.List.{list_any, range_with_len}
use Rattle.std.proofs.lemmas.Bool.{false≢true, eqb-true}
use Rattle.std.proofs.lemmas.List.Elements.{All-nil, All-cons, All-head, All-tail, All-push}
use Rattle.tty_base.specs.declared.counters.Signal.{Signal}
use Rattle.tty_calls.specs.Plain.{PlainEntry}
use Rattle.tty_calls.specs.Sessions.{PlainScript, session_of, with_name}
use Rattle.tty_terminal.specs.declared.callers.CallerState.{CallerState}
use Rattle.tty_terminal.specs.Terminals.{Terminal, opening, caller_at, has_begun}
use Rattle.tty_terminal.specs.Runs.{IsRun}
use Rattle.port_core.specs.Ports.{PortValue, IsPort, call_in}
use Rattle.play_base.specs.Phases.{IsUpTo, IsBeforePhase}
use Rattle.play_base.specs.Roles.{Scene, scene_of, names_in}
use Rattle.play_base.specs.declared.stations.Station.{Station}
use Rattle.order_laws.proofs.Opening.{opened_each}
use Rattle.job_control.specs.declared.processes.Proc.{Proc}
use Rattle.job_control.specs.Control.{JobState, first_jobs}
use Rattle.passed_calls.specs.Blocks.{Block, bare, blocks_on, names_on}
use Rattle.passed_calls.specs.Derived.{Passing, BlockPhase, by_caller, blocks_of}
use Rattle.passed_calls.specs.Journals.{Journal}
use Rattle.job_text.specs.declared.sessions.PortProc.{PortProc}
use Rattle.job_text.specs.declared.sessions.JobsSession.{JobsSession as KeptSession}
use Rattle.job_text.specs.Events.{JobLog}
use Rattle.job_text.specs.Sessions.{JobsSession, jobs_session_of, own_of, procs_on, proc_place, blocks_in}
use Rattle.job_text.specs.Within.{IsProc, IsJobsSessionWithin}
use Rattle.job_steps.specs.Derived.{block_phases, passings_on}
use Rattle.job_steps.specs.Steps.{JobsState, first_state, proc_named}
use Rattle.order_laws.specs.Passed.{AreBefore, begin_of, steps_named}
use Rattle.order_laws.specs.Witness.{HasPassed}
use Rattle.job_one.specs.Later.{port_with}
use Rattle.job_one.specs.Desk.{proc_in, signals_of, IsDeskAt}
use Rattle.job_one.specs.Events.{DeskState}
use Rattle.job_one.specs.Playing.{AreLoggedBefore}
use Rattle.job_one.specs.AfterLine.{HasProcs}
use Rattle.order_laws.proofs.PassedAdding.{blocks_same}
use Rattle.order_laws.proofs.Opens.{opens_with_none, nothing_before}
use Rattle.job_ports.specs.Callers.{AreCallers}
use Rattle.job_ports.specs.Between.{IsBetween, IsDeskOpened}
use Rattle.job_ports.specs.declared.phases.JobStation.{JobStation}
use Rattle.job_ports.proofs.Casting.{scene_of_session, names_are}
use Rattle.job_ports.proofs.Opened.{place_within}
use Rattle.passed_ports.proofs.Started.{zeros_at, zeros_long}

-- ---- the processes of a port

procs_from : (from n i : ℕ) (procs : List PortProc)
    → i < n
    → slice_index_or (map (λ q. procs_on q procs) (range_with_len from n)) i [] ≡ procs_on (from + i) procs
procs_from from zero i procs lt = absurd (omega (arith, lt))
procs_from from (suc n) zero procs lt =
    (let same : from ≡ from + 0 = omega arith in ap (λ (q : ℕ). procs_on q procs) same)
procs_from from (suc n) (suc i) procs lt =
    let same : (from + 1) + i ≡ from + suc i = omega arith in
    procs_from (from + 1) n i procs (omega (arith, lt)) ∙ ap (λ (q : ℕ). procs_on q procs) same

pub procs_are : (p : ℕ) (kept : KeptSession)
    → p < (session_of kept.session).ports
    → slice_index_or (jobs_session_of kept).procs p [] ≡ procs_on p kept.procs.items
procs_are p kept lt = (let same : 0 + p ≡ p = omega arith in
    procs_from 0 (session_of kept.session).ports p kept.procs.items lt
    ∙ ap (λ (q : ℕ). procs_on q kept.procs.items) same)

-- ---- the callers are processes

keep_all : (P : List ℕ → Type 0) (names : List (List ℕ)) (name : List ℕ) (b : Bool)
    → All P names
    → P name
    → All P (if b then names else names ++ name ∷ [])
keep_all P names name true h good = h
keep_all P names name false h good = All-push P names name h good

names_all : (P : List ℕ → Type 0) (ss : List PlainScript) (start : List (List ℕ))
    → All P start
    → All (λ (s : PlainScript). P s.name) ss
    → All P (fold (λ names s. with_name names s.name) start ss)
names_all P [] start h all = h
names_all P (s ∷ ss) start h all =
    names_all P ss (with_name start s.name)
    (keep_all P start s.name (list_any (bytes_eq s.name) start) h (All-head (λ (x : PlainScript). P x.name) s ss all))
    (All-tail (λ (x : PlainScript). P x.name) s ss all)

abbrev IsNamed : List Proc → List ℕ → Type 0
IsNamed procs name = IsSome (proc_place procs name)

on_port : (p : ℕ) (session : JobsSession) (bs : List Block)
    → All (IsProc session) bs
    → All (λ (s : PlainScript). IsNamed (slice_index_or session.procs p []) s.name) (map bare (blocks_on p bs))
on_port p session [] h = All-nil (λ (s : PlainScript). IsNamed (slice_index_or session.procs p []) s.name)
on_port p session (b ∷ bs) h = either (b.port == p) refl (on_port p session bs (All-tail (IsProc session) b bs h))
  where
    either : (t : Bool)
        → (b.port == p) ≡ t
        → All (λ (s : PlainScript). IsNamed (slice_index_or session.procs p []) s.name) (map bare (blocks_on p bs))
        → All (λ (s : PlainScript). IsNamed (slice_index_or session.procs p []) s.name)
        (map bare (cond (b.port == p) (b ∷ blocks_on p bs) (blocks_on p bs)))
    either true is rest =
        let here : IsNamed (slice_index_or session.procs p []) b.name =
        subst (λ (q : ℕ). IsNamed (slice_index_or session.procs q []) b.name) (eqb-true b.port p is)
        (All-head (IsProc session) b bs h) in
        subst (λ (t : Bool). All (λ (s : PlainScript). IsNamed (slice_index_or session.procs p []) s.name)
        (map bare (cond t (b ∷ blocks_on p bs) (blocks_on p bs))))
        (sym is)
        (All-cons (λ (s : PlainScript). IsNamed (slice_index_or session.procs p []) s.name) (bare b)
        (map bare (blocks_on p bs)) here rest)
    either false is rest = subst (λ (t : Bool). All
        (λ (s : PlainScript). IsNamed (slice_index_or session.procs p []) s.name)
        (map bare (cond t (b ∷ blocks_on p bs) (blocks_on p bs))))
        (sym is) rest

callers_named : (p : ℕ) (session : JobsSession)
    → IsJobsSessionWithin session
    → All (IsNamed (slice_index_or session.procs p [])) (names_on p (blocks_in session))
callers_named p session within =
    names_all (IsNamed (slice_index_or session.procs p [])) (map bare (blocks_on p (blocks_in session))) []
    (All-nil (IsNamed (slice_index_or session.procs p []))) (on_port p session (blocks_in session) within.callers)

name_at : (names : List (List ℕ)) (P : List ℕ → Type 0) (c : ℕ)
    → All P names
    → c < length names
    → (name : List ℕ) × (slice_get names c ≡ Some name) × P name
name_at [] P c h lt = absurd (omega (arith, lt))
name_at (name ∷ names) P zero h lt = (name, refl, All-head P name names h)
name_at (name ∷ names) P (suc c) h lt = name_at names P c (All-tail P name names h) (omega (arith, lt))

place_below : (procs : List Proc) (name : List ℕ) (o : Option ℕ)
    → proc_place procs name ≡ o
    → IsSome o
    → unwrap_or o (length procs) < length procs
place_below procs name None is some = absurd (false≢true some)
place_below procs name (Some n) is some = place_within procs name n is

known_caller : (p c : ℕ) (session : JobsSession)
    → IsJobsSessionWithin session
    → c < length (names_on p (blocks_in session))
    → proc_in session p c < length (slice_index_or session.procs p [])
known_caller p c session within lt =
    let procs = slice_index_or session.procs p [] in
    let at = name_at (names_on p (blocks_in session)) (IsNamed procs) c (callers_named p session within) lt in
    subst (λ (o : Option (List ℕ)). unwrap_or (proc_named procs o) (length procs) < length procs) (sym at.1)
    (place_below procs at.0 (proc_place procs at.0) refl at.2)

has_procs : (p : ℕ) (session : JobsSession) (procs : List Proc) (names : List (List ℕ)) (d : DeskState)
    → IsJobsSessionWithin session
    → slice_index_or session.procs p [] ≡ procs
    → names ≡ names_on p (blocks_in session)
    → IsDeskOpened p procs d.callers d
    → AreCallers procs names (length names) d.callers
    → HasProcs p session d
has_procs p session procs names d within same named opened callers =
    let many : length d.callers ≡ length (names_on p (blocks_in session)) =
    callers.many ∙ ap (λ (ns : List (List ℕ)). length ns) named in
    let each : (c : ℕ) → c < length d.callers → slice_index_or d.callers c 0 ≡ proc_in session p c =
    λ c lt.
    callers.each c (omega (arith, lt, callers.many))
    ∙ λ i. unwrap_or (proc_named (sym same i) (slice_get (named i) c)) (length (sym same i)) in
    let count = ap (λ (js : JobState). length js.procs) opened.jobs in
    let both = ap (λ (ps : List Proc). length ps) same in
    record {
      callers = many;
      next = ap (λ (ns : List ℕ). length ns) opened.next ∙ (zeros_long (length d.callers) ∙ many);
      each = each;
      known = λ c lt. (let below = known_caller p c session within (omega (arith, lt, many)) in
          let is = each c lt in omega (arith, below, is, count, both));
    }

-- ---- nothing was played

nothing_yet : (journal : List PlainEntry) → IsUpTo 0 journal → journal ≡ []
nothing_yet journal (inl h) = h.1
nothing_yet journal (inr h) = (let count = h.2.count in absurd (omega arith))

no_signals : (v : PortValue) → IsPort v → v.journal ≡ [] → signals_of v.terminal ≡ []
no_signals v port none =
    let run : IsRun (call_in v.kept) v.counts v.flip.capacity [] v.terminal =
    subst (λ (es : List PlainEntry). IsRun (call_in v.kept) v.counts v.flip.capacity es v.terminal) none port.run in
    ap (λ (t : Terminal). signals_of t) run

first_zero : (p : ℕ) (phases : List BlockPhase) (c : ℕ) → begin_of p phases 0 c ≡ 0
first_zero p phases c = by_option (slice_get (names_on p (blocks_of phases)) c)
  where
    by_option : (o : Option (List ℕ)) → steps_named p [] o ≡ 0
    by_option None = refl
    by_option (Some name) = refl

desk_opened : (first : Scene) (session : JobsSession) (procs : List Proc) (v : PortValue) (d : DeskState)
    → slice_index_or session.procs first.port [] ≡ procs
    → length d.callers ≡ length (names_on first.port (blocks_in session))
    → IsDeskOpened first.port procs d.callers d
    → ((c : ℕ) → has_begun (caller_at v.terminal c) ≡ false)
    → IsDeskAt first session [] v d.jobs d.next d.sent []
desk_opened first session procs v d same many opened idle =
    let p = first.port in
    let none : Journal = record { entries = []; calls = call_in v.kept; opening = opening 0 0 } in
    let first_one : JobsState = first_state (port_with p session none) in
    record {
      state = first_one;
      at = record {
        logged = record { leads = λ j later. refl; at = omega arith };
        ordered = record { turns = λ played like agrees j later. tt };
        gone_on = λ c begun. absurd (false≢true (sym (idle c) ∙ begun));
      };
      jobs_are = ap first_jobs same ∙ sym opened.jobs;
      next_are = ap (λ (n : ℕ). replicate n 0) (sym many) ∙ sym opened.next;
      signals_are = sym opened.sent;
      due_are = refl;
      at_once = tt;
    }

pub opened_between : (p : ℕ) (kept : KeptSession) (names : List (List ℕ)) (station : Station) (at : JobStation)
    → IsJobsSessionWithin (jobs_session_of kept)
    → p < (session_of kept.session).ports
    → names ≡ names_in (scene_of p kept.session)
    → IsDeskOpened p (procs_on p kept.procs.items) at.desk.callers at.desk
    → AreCallers (procs_on p kept.procs.items) names (length names) at.desk.callers
    → IsBeforePhase (scene_of p kept.session) 0 station 0
    → IsPort station.port
    → at.names ≡ names
    → at.station ≡ station
    → IsBetween (scene_of p kept.session) (jobs_session_of kept) 0 0 at
opened_between p kept names station at within lt named opened callers before port same_names same_station =
    let first = scene_of p kept.session in
    let session = jobs_session_of kept in
    let base = session_of kept.session in
    let phases = block_phases session in
    let d = at.desk in
    let v = station.port in
    let of_it = scene_of_session p base kept.procs.items (map own_of kept.parts.items) in
    let blocks = blocks_same session.ports session.flips base.ports base.flips phases refl refl within.blocks in
    let procs = procs_are p kept lt in
    let block_names = names_are p base kept.procs.items (map own_of kept.parts.items) in
    let nothing = opens_with_none first phases station before port of_it.of_blocks blocks in
    let log : JobLog = d.log in
    let idle : (c : ℕ) → has_begun (caller_at v.terminal c) ≡ false = λ c.
    ap (λ (q : CallerState). has_begun q) (before.at_phase.callers c) in
    let empty : v.journal ≡ [] = nothing_yet v.journal before.played.played.up_to in
    let many : length d.callers ≡ length (names_on p (blocks_in session)) =
    callers.many ∙ ap (λ (ns : List (List ℕ)). length ns) (named ∙ block_names) in
    let desk : IsDeskAt first session d.log v d.jobs d.next d.sent [] =
    subst (λ (l : JobLog). IsDeskAt first session l v d.jobs d.next d.sent []) (sym opened.log)
    (desk_opened first session (procs_on p kept.procs.items) v d procs many opened idle) in
    let its : IsBetween first session 0 0 (record { names = names; station = station; desk = d }) = record {
      before = record {
        each = opened_each first station before;
        has = subst (λ (l : JobLog). HasPassed first phases (λ c. by_caller c (passings_on session l p)) v)
            (sym opened.log) nothing;
        before = subst
            (λ (l : JobLog). AreBefore p phases v.terminal.phase (λ c. by_caller c (passings_on session l p)))
            (sym opened.log) (nothing_before p v.terminal.phase phases);
        date = record {
          stands = record { number = sym opened.number; desk = desk };
          all_sent = (let none = ap (λ (ss : List Signal). length ss) (no_signals v port empty) in omega (arith, none));
        };
        logged_before = λ c. subst (λ (l : JobLog). AreLoggedBefore session l p c (slice_index_or d.next c 0))
            (sym opened.log) (All-nil (λ (m : Passing). m.step < slice_index_or d.next c 0));
        steps = λ c.
            ap (λ (ns : List ℕ). slice_index_or ns c 0) opened.next
            ∙ (zeros_at (length d.callers) c
            ∙ (sym (first_zero p phases c) ∙ ap (λ (k : ℕ). begin_of p phases k c) (sym before.at_phase.phase)));
      };
      phase = before.at_phase.phase;
      port = port;
      names = named;
      steps = before.steps.count ∙ ap (λ (ns : List (List ℕ)). length ns) (sym named);
      procs =
          has_procs p session (procs_on p kept.procs.items) names d within procs (named ∙ block_names) opened callers;
    } in
    subst (λ (ns : List (List ℕ)). IsBetween first session 0 0 (record { names = ns; station = at.station; desk = d }))
    (sym same_names)
    (subst (λ (st : Station). IsBetween first session 0 0 (record { names = names; station = st; desk = d }))
    (sym same_station) its)
