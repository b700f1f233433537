-- A phase of a port of processes: from its beginning to its end, or as far as it went.
use Rattle.std.proofs.Common.{◌≡◌, ◌<◌, ℕ, ◌+◌, Bool, true, false, List, [], ◌∷◌, ◌++◌, None, length}
use Rattle.std.proofs.Common.{if◌then◌else◌, refl, sym, ap, ◌∙◌, subst, arith, append-nil}
use Rattle.std.specs.Prelude.{slice_index_or}
use Rattle.std.proofs.lemmas.Bool.{false≢true}
use Rattle.tty_base.specs.declared.characters.Flagged.{Flagged}
use Rattle.tty_base.specs.declared.lines.LineStep.{LineStep}
use Rattle.word_ring.specs.Ends.{PutterState}
use Rattle.uart_line.specs.LineState.{LineState}
use Rattle.tty_calls.specs.declared.answers.Denied.{Denied}
use Rattle.tty_calls.specs.declared.answers.Denied.TheVariants.{NoMemory, Full}
use Rattle.tty_calls.specs.declared.sessions.Script.{Script}
use Rattle.tty_calls.specs.Sessions.{line_on, ticks_on}
use Rattle.tty_terminal.specs.declared.callers.CallerState.{CallerState}
use Rattle.tty_terminal.specs.Terminals.{has_begun}
use Rattle.legal_runs.specs.Legal.{phase_at}
use Rattle.port_core.specs.Ports.{PortValue, IsPort}
use Rattle.one_thread.specs.Acts.{BeginsLine, BeginsInOrder, PlaysItsLine, StopsItsLine, Playing}
use Rattle.play_base.specs.Roles.{Scene, names_in}
use Rattle.play_base.specs.Beginning.{IsAtPhase}
use Rattle.one_thread.specs.Lines.{PlaysLine}
use Rattle.one_thread.specs.Stages.{EndsAfterLine, StopsAfterLine}
use Rattle.play_base.specs.declared.roles.Role.{Role}
use Rattle.one_thread.proofs.StationLemmas.{at_next_phase, stopped_in_line, stopped_after_line}
use Rattle.order_laws.specs.Agreed.{IsLike, AreRolesOfEach}
use Rattle.order_laws.proofs.Agreeing.{before_all}
use Rattle.order_laws.proofs.Shapes.{phases_same, at_phase}
use Rattle.passed_calls.specs.Derived.{Passing, by_caller}
use Rattle.job_text.specs.Sessions.{JobCall, JobsSession}
use Rattle.job_steps.specs.Derived.{block_phases, passings_on}
use Rattle.order_laws.specs.Passed.{begin_of}
use Rattle.order_laws.specs.Witness.{scene_on, HasPassed}
use Rattle.order_laws.specs.Filled.{scripts_in}
use Rattle.order_laws.specs.Begun.{HadBegun}
use Rattle.job_one.specs.Desk.{proc_in}
use Rattle.job_one.specs.Events.{DeskState, IsSameDesk}
use Rattle.job_one.specs.Along.{SendsAlong, StopsAlong, StopsBy}
use Rattle.job_one.specs.Between.{value_at, passed_by, IsBeforeJobs}
use Rattle.order_laws.specs.Begun.{begun_at}
use Rattle.job_one.specs.Playing.{passings_with, next_passing, IsPlayingJobs}
use Rattle.job_one.specs.Frames.{Frame}
use Rattle.job_one.specs.AfterLine.{HasProcs, BeginsTurns, EndsTurns, FillsTurns, StopsTurns}
use Rattle.job_one.specs.Remaining.{AreLeft}
use Rattle.order_laws.proofs.PassedAdding.{blocks_same}
use Rattle.job_one.proofs.Along.{same_kept}
use Rattle.order_laws.proofs.Casts.{roles_each}
use Rattle.job_one.proofs.Phasing.{phase_begins, phase_ends}
use Rattle.order_laws.proofs.Witnessed.{begins_line, end_on}
use Rattle.job_ports.specs.declared.phases.JobStation.{JobStation}
use Rattle.job_ports.specs.Ports.{IsJobsFull}
use Rattle.job_ports.specs.Between.{IsStoppedBy, Setting, BeginsPhase}

-- ---- the line

abbrev pub line_begins : (s : Setting) (roles : List Role) (at : JobStation) (run : ℕ) (left : List (List JobCall))
    (steps : List LineStep) (ticks : ℕ) (clock : Bool)
    → BeginsPhase s roles at at.station.port.terminal.phase run left steps ticks clock
    → BeginsLine steps at.station.port at.station.putter at.station.line run
line_begins s roles at run left steps ticks clock h =
    let b = h.between.before in
    begins_line s.first (block_phases s.session) (passed_by s.session s.first.port at.desk) steps at.station.port
    at.station.putter at.station.line run b.each b.has h.phase h.steps_are

-- a port in which no caller has begun a call, since none had before
nothing_begun : (v w : PortValue)
    → ((c : ℕ) → HadBegun v w c)
    → ((c : ℕ) → begun_at v c ≡ false)
    → (c : ℕ)
    → begun_at w c ≡ false
nothing_begun v w had none c = by_cases (begun_at w c) refl
  where
    by_cases : (b : Bool) → begun_at w c ≡ b → b ≡ false
    by_cases true is = absurd (false≢true (sym (none c) ∙ (had c is).0))
    by_cases false is = refl

idle_first : (first : Scene) (session : JobsSession) (v : PortValue) (putter : PutterState Flagged) (line : LineState)
    (run : ℕ) (d : DeskState)
    → IsBeforeJobs first session v putter line run d
    → (c : ℕ)
    → begun_at v c ≡ false
idle_first first session v putter line run d b c =
    ap (λ (q : CallerState). has_begun q)
    ((b.each.each (scene_on first.port b.has.session) b.has.like b.has.agrees).0.callers c)

-- with nothing begun all that was passed down is logged
only_logged : (session : JobsSession) (p : ℕ) (v : PortValue) (d x : DeskState)
    → ((c : ℕ) → begun_at v c ≡ false)
    → passings_on session x.log p ≡ passings_on session d.log p
    → (c : ℕ)
    → passed_by session p d c ≡ passings_with session x.log p (value_at x) (begun_at v) c
only_logged session p v d x none same c =
    sym (ap (λ (b : Bool).
    by_caller c (passings_on session x.log p) ++ (if b then next_passing session p (value_at x) c ∷ [] else []))
    (none c)
    ∙ (append-nil (by_caller c (passings_on session x.log p)) ∙ ap (by_caller c) same))

-- the same steps in a scene like it
its_steps : (s : Setting) (at : JobStation) (k : ℕ) (steps : List LineStep) (z : Scene)
    → IsLike s.first z
    → steps ≡ line_on s.first.port (phase_at s.first.session k)
    → steps ≡ line_on z.port (phase_at z.session k)
its_steps s at k steps z like is =
    is
    ∙ (sym (at_phase (line_on s.first.port) s.first.session z.session k like.shape.lines)
    ∙ λ i. line_on (sym like.port i) (phase_at z.session k))

line_full : (s : Setting) (roles : List Role) (at : JobStation) (run : ℕ) (left : List (List JobCall))
    (steps : List LineStep) (ticks : ℕ) (clock : Bool) (v : PortValue) (putter : PutterState Flagged) (line : LineState)
    (x : DeskState)
    → BeginsPhase s roles at at.station.port.terminal.phase run left steps ticks clock
    → StopsItsLine Full steps at.station.port v at.station.putter putter at.station.line line run
    → StopsAlong at.station.port v at.desk x
    → IsPort v
    → IsJobsFull s.first s.session v putter line x
line_full s roles at run left steps ticks clock v putter line x h stops along port =
    let first = s.first in
    let p = first.port in
    let old = at.station.port in
    let k = old.terminal.phase in
    let b = h.between.before in
    let has = b.has in
    let d = at.desk in
    let begins = line_begins s roles at run left steps ticks clock h in
    let stopped = stops.each begins in
    let number : p ≡ d.number = b.date.stands.number in
    let same : passings_on s.session x.log p ≡ passings_on s.session d.log p =
    subst (λ (n : ℕ). passings_on s.session x.log n ≡ passings_on s.session d.log n) (sym number)
    (along.alone.passes s.session) in
    let none =
    nothing_begun old v along.begun (idle_first first s.session old at.station.putter at.station.line run d b) in
    let mine = only_logged s.session p v d x none same in
    record {
      port = port;
      number = number ∙ sym along.alone.same.number;
      ring = stopped.has_put.ring;
      due = [];
      desk = (along.each first s.session b.date).desk;
      has = subst (λ (m : ℕ → List Passing). HasPassed first (block_phases s.session) m v) (λ i. λ c. mine c i)
          (record {
            session = has.session;
            by = has.by;
            within = has.within;
            ports = has.ports;
            flips = has.flips;
            like = has.like;
            agrees = record { known = stopped.of_scene.known; in_phases = stopped.of_scene.in_phases };
          });
      full = λ z like agrees.
          let agreed = before_all z old v stopped.part (stops.each begins).added (same_kept old v along.kept) agrees in
          let there = b.each.each z like agreed in
          let within : k < length z.session.phases =
          subst (λ (n : ℕ). k < n) (sym (phases_same p first.session z.session like.shape)) h.phase in
          let at_line : BeginsInOrder steps old at.station.putter at.station.line run = record {
            scene = z;
            begins = there.0;
            within = within;
            steps_are = its_steps s at k steps z like h.steps_are;
          } in
          stopped_in_line Full z k old v at.station.putter putter at.station.line line run within there.0 there.1
          (stops.in_order at_line);
    }

-- ---- behind the line

-- the phase as the player's functions speak of it
abbrev pub frame_of : Setting → PortValue → (ticks : ℕ) → Frame
frame_of s v ticks = record {
  first = s.first;
  session = s.session;
  scripts = scripts_in s.first.port s.callers v.terminal.phase;
  start = v;
  ticks = ticks;
}

same_procs : (p : ℕ) (session : JobsSession) (d x : DeskState)
    → IsSameDesk d x
    → HasProcs p session d
    → HasProcs p session x
same_procs p session d x same h =
    let callers = same.callers in
    record {
      callers = ap (λ (cs : List ℕ). length cs) callers ∙ h.callers;
      next = ap (λ (ns : List ℕ). length ns) same.next ∙ h.next;
      each = subst (λ (cs : List ℕ). (c : ℕ) → c < length cs → slice_index_or cs c 0 ≡ proc_in session p c)
          (sym callers) h.each;
      known =
          subst (λ js. (c : ℕ) → c < length x.callers → slice_index_or x.callers c 0 < length js.procs) (sym same.jobs)
          (subst (λ (cs : List ℕ). (c : ℕ) → c < length cs → slice_index_or cs c 0 < length d.jobs.procs) (sym callers)
          h.known);
    }

roles_of_each : (s : Setting) (roles : List Role) (at : JobStation) (run : ℕ) (left : List (List JobCall))
    (steps : List LineStep) (ticks : ℕ) (clock : Bool) (mid : PortValue) (putter : PutterState Flagged)
    (line : LineState) (later : ℕ)
    → BeginsPhase s roles at at.station.port.terminal.phase run left steps ticks clock
    → PlaysItsLine steps at.station.port mid at.station.putter putter at.station.line line run later
    → AreRolesOfEach s.first (scripts_in s.first.port s.callers at.station.port.terminal.phase)
    roles at.station.port.terminal.phase mid
roles_of_each s roles at run left steps ticks clock mid putter line later h plays =
    let cast = h.roles_are in
    roles_each s.first s.callers (names_in s.first) cast.steps roles steps at.station.port mid at.station.putter
    putter at.station.line line run later h.between.before.each
    (line_begins s roles at run left steps ticks clock h) plays h.phase h.own refl cast.next cast.cast

pub turns_begin : (s : Setting) (roles : List Role) (at : JobStation) (run : ℕ) (left : List (List JobCall))
    (steps : List LineStep) (ticks : ℕ) (clock : Bool) (mid : PortValue) (putter : PutterState Flagged)
    (line : LineState) (later : ℕ) (x : DeskState)
    → BeginsPhase s roles at at.station.port.terminal.phase run left steps ticks clock
    → PlaysItsLine steps at.station.port mid at.station.putter putter at.station.line line run later
    → SendsAlong at.station.port mid at.desk x
    → IsPort mid
    → BeginsTurns (frame_of s mid ticks) roles mid x (record { run = later; part = 0; ticks = ticks; going = None })
    left
    × (putter.ring ≡ mid.flip.ring)
turns_begin s roles at run left steps ticks clock mid putter line later x h plays along port =
    let first = s.first in
    let p = first.port in
    let old = at.station.port in
    let k = old.terminal.phase in
    let b = h.between.before in
    let d = at.desk in
    let on = plays.each (line_begins s roles at run left steps ticks clock h) in
    let phase : mid.terminal.phase ≡ k = on.phase in
    let scripts : (j : ℕ) → Scene → List Script = scripts_in p s.callers in
    let plays_first = phase_begins first s.session (scripts k) roles steps old mid at.station.putter putter
    at.station.line line run later ticks d x b plays along h.phase h.steps_are h.ticks_are port
    (roles_of_each s roles at run left steps ticks clock mid putter line later h plays) in (
      record {
        at = record {
          number = b.date.stands.number ∙ sym along.alone.same.number;
          playing = subst (λ (j : ℕ). IsPlayingJobs first s.session (scripts j) roles mid x.log mid (value_at x) ticks
              (record { run = later; part = 0; ticks = ticks; going = None }))
              (sym phase) plays_first;
          all_sent = (along.each first s.session b.date).all_sent;
        };
        frame = record {
          within = h.within;
          of_blocks = h.scene.of_blocks;
          blocks = blocks_same s.session.ports s.session.flips first.session.ports first.session.flips
              (block_phases s.session) h.scene.ports h.scene.flips h.within.blocks;
        };
        procs = same_procs p s.session d x along.alone.same h.between.procs;
        none_over = λ c. ap (λ (q : CallerState). q.over) (on.after_line.callers c);
        calls = subst (λ (j : ℕ). AreLeft p j s.session roles x.next left) (sym phase)
            (subst (λ (ns : List ℕ). AreLeft p k s.session roles ns left) (sym along.alone.same.next) h.calls);
      },
      on.has_put.ring,
    )

-- ---- up to the end of the phase

-- the scene that the port has played, at the end of the phase
pub phase_over : (s : Setting) (roles : List Role) (at : JobStation) (run : ℕ) (left : List (List JobCall))
    (steps : List LineStep) (ticks : ℕ) (clock : Bool) (mid : PortValue) (putter : PutterState Flagged)
    (line : LineState) (later : ℕ) (x : DeskState) (new : PortValue) (now : PutterState Flagged) (y : DeskState)
    (next : ℕ)
    → BeginsPhase s roles at at.station.port.terminal.phase run left steps ticks clock
    → PlaysItsLine steps at.station.port mid at.station.putter putter at.station.line line run later
    → EndsTurns (frame_of s mid ticks) roles new putter now y next
    → IsBeforeJobs s.first s.session new now line next y × (new.terminal.phase ≡ at.station.port.terminal.phase + 1)
phase_over s roles at run left steps ticks clock mid putter line later x new now y next h plays ends =
    let first = s.first in
    let p = first.port in
    let old = at.station.port in
    let k = old.terminal.phase in
    let b = h.between.before in
    let d = at.desk in
    let scripts = scripts_in p s.callers mid.terminal.phase in
    let on = plays.each (line_begins s roles at run left steps ticks clock h) in
    let v = ends.last in
    let phases = block_phases s.session in
    let mine = passings_with s.session y.log p (value_at y) (begun_at v) in
    let both = end_on first phases scripts roles mid mine v new putter now ticks ends.stand
    next ends.at.playing.playing ends.is_end ends.ends ends.adds in
    let z = scene_on p both.1.session in
    let ended : EndsAfterLine z mid new putter now next = both.0.each z both.1.like both.1.agrees in
    let agrees_mid = before_all z mid new (ended.part ++ ended.last ∷ []) ended.added both.0.grows both.1.agrees in
    let agrees_old =
    before_all z old mid (on.flushes ++ on.last ∷ []) on.added (same_kept old mid on.kept) agrees_mid in
    let at_old : IsAtPhase z k old at.station.putter at.station.line run = (b.each.each z both.1.like agrees_old).0 in
    let here : PlaysLine z k old mid putter at.station.line line later = plays.in_order (record {
      scene = z;
      begins = at_old;
      within = subst (λ (n : ℕ). k < n) (sym (phases_same p first.session z.session both.1.like.shape)) h.phase;
      steps_are = h.steps_are ∙ sym (at_phase (line_on p) first.session z.session k both.1.like.shape.lines);
    }) in
    let steps_then : (c : ℕ) → slice_index_or y.next c 0 ≡ begin_of p phases (k + 1) c = λ c.
    ends.steps c ∙ ap (λ (j : ℕ). begin_of p phases (j + 1) c) on.phase in (
      phase_ends first s.session scripts roles steps old mid v new at.station.putter putter now at.station.line line run
          later next ticks ends.stand d y b plays h.phase h.steps_are ends.at.playing ends.at.number
          ends.at.all_sent ends.is_end ends.ends ends.adds
          ends.was_port ends.is_port steps_then,
      (at_next_phase z k old mid new at.station.putter putter
          now at.station.line line run later next at_old here ended).phase,
    )

-- ---- as far as it went

pub turns_full : (s : Setting) (roles : List Role) (at : JobStation) (run : ℕ) (left : List (List JobCall))
    (steps : List LineStep) (ticks : ℕ) (clock : Bool) (mid : PortValue) (putter : PutterState Flagged)
    (line : LineState) (later : ℕ) (v : PortValue) (now : PutterState Flagged) (y : DeskState)
    → BeginsPhase s roles at at.station.port.terminal.phase run left steps ticks clock
    → PlaysItsLine steps at.station.port mid at.station.putter putter at.station.line line run later
    → FillsTurns (frame_of s mid ticks) roles v y
    → now ≡ putter
    → IsPort v
    → IsJobsFull s.first s.session v now line y
turns_full s roles at run left steps ticks clock mid putter line later v now y h plays fills same port =
    let first = s.first in
    let p = first.port in
    let old = at.station.port in
    let k = old.terminal.phase in
    let b = h.between.before in
    let on = plays.each (line_begins s roles at run left steps ticks clock h) in
    let playing = fills.playing.playing in
    let has = playing.has in
    let mine : Playing (scene_on p has.session) _ roles mid v ticks fills.stand =
    playing.each.each (scene_on p has.session) has.like has.agrees in
    record {
      port = port;
      number = fills.number;
      ring = ap (λ (q : PutterState Flagged). q.ring) same ∙ (on.has_put.ring ∙ sym mine.ring);
      due = fills.due;
      desk = fills.playing.desk;
      has = has;
      full = λ z like agrees.
          let its = playing.each.each z like agrees in
          let agrees_mid = before_all z mid v its.part its.added playing.each.grows agrees in
          let agrees_old =
          before_all z old mid (on.flushes ++ on.last ∷ []) on.added (same_kept old mid on.kept) agrees_mid in
          let there = b.each.each z like agrees_old in
          let within : k < length z.session.phases =
          subst (λ (n : ℕ). k < n) (sym (phases_same p first.session z.session like.shape)) h.phase in
          let here : PlaysLine z k old mid putter at.station.line line later = plays.in_order (record {
            scene = z;
            begins = there.0;
            within = within;
            steps_are = its_steps s at k steps z like h.steps_are;
          }) in
          let tick = its.tick in
          let ticks_same : ticks ≡ ticks_on z.port (phase_at z.session mid.terminal.phase) =
          playing.each.ticks_are
          ∙ sym ((λ i. ticks_on (like.port i) (phase_at z.session mid.terminal.phase))
          ∙ at_phase (ticks_on p) first.session z.session mid.terminal.phase like.ticks) in
          let stops : StopsAfterLine z mid v Full = record {
            part = its.part;
            added = its.added;
            leads = its.leads;
            inside = its.inside;
            ticks = omega (arith, tick, ticks_same);
            of_scene = its.plays.of_scene;
            full = fills.full;
            ring = its.ring;
          } in
          stopped_after_line Full z k old mid v at.station.putter putter now at.station.line
          line run later within there.0 there.1 here stops same;
    }

-- whatever it was denied for
pub turns_stop : (denied : Denied) (s : Setting) (roles : List Role) (at : JobStation) (run : ℕ)
    (left : List (List JobCall)) (steps : List LineStep) (ticks : ℕ) (clock : Bool) (mid : PortValue)
    (putter : PutterState Flagged) (line : LineState) (later : ℕ) (then_at : JobStation) (v : PortValue)
    (now : PutterState Flagged) (y : DeskState)
    → BeginsPhase s roles at at.station.port.terminal.phase run left steps ticks clock
    → PlaysItsLine steps at.station.port mid at.station.putter putter at.station.line line run later
    → StopsTurns denied (frame_of s mid ticks) roles v y
    → now ≡ putter
    → IsPort v
    → then_at.station.port ≡ v
    → then_at.station.putter ≡ now
    → then_at.station.line ≡ line
    → then_at.desk ≡ y
    → IsStoppedBy denied s.first s.session then_at
turns_stop NoMemory s roles at run left steps ticks clock mid putter
    line later then_at v now y h plays stops same port a b c e = tt
turns_stop Full s roles at run left steps ticks clock mid putter
    line later then_at v now y h plays stops same port a b c e =
    let full = turns_full s roles at run left steps ticks clock mid putter line later v now y h plays stops same port in
    subst (λ (q : PortValue). IsJobsFull s.first s.session q then_at.station.putter then_at.station.line then_at.desk)
    (sym a)
    (subst (λ (q : PutterState Flagged). IsJobsFull s.first s.session v q then_at.station.line then_at.desk) (sym b)
    (subst (λ (q : LineState). IsJobsFull s.first s.session v now q then_at.desk) (sym c)
    (subst (λ (q : DeskState). IsJobsFull s.first s.session v now line q) (sym e) full)))

pub line_stops : (denied : Denied) (s : Setting) (roles : List Role) (at : JobStation) (run : ℕ)
    (left : List (List JobCall)) (steps : List LineStep) (ticks : ℕ) (clock : Bool) (then_at : JobStation)
    (v : PortValue) (putter : PutterState Flagged) (line : LineState) (x : DeskState)
    → BeginsPhase s roles at at.station.port.terminal.phase run left steps ticks clock
    → StopsItsLine denied steps at.station.port v at.station.putter putter at.station.line line run
    → StopsBy denied at.station.port v at.desk x
    → IsPort v
    → then_at.station.port ≡ v
    → then_at.station.putter ≡ putter
    → then_at.station.line ≡ line
    → then_at.desk ≡ x
    → IsStoppedBy denied s.first s.session then_at
line_stops NoMemory s roles at run left steps ticks clock then_at v putter line x h stops along port a b c e = tt
line_stops Full s roles at run left steps ticks clock then_at v putter line x h stops along port a b c e =
    let full = line_full s roles at run left steps ticks clock v putter line x h stops along port in
    subst (λ (q : PortValue). IsJobsFull s.first s.session q then_at.station.putter then_at.station.line then_at.desk)
    (sym a)
    (subst (λ (q : PutterState Flagged). IsJobsFull s.first s.session v q then_at.station.line then_at.desk) (sym b)
    (subst (λ (q : LineState). IsJobsFull s.first s.session v putter q then_at.desk) (sym c)
    (subst (λ (q : DeskState). IsJobsFull s.first s.session v putter line q) (sym e) full)))
