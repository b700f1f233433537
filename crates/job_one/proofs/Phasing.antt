-- A phase of a port of processes, from its beginning to its end.
use Rattle.std.proofs.Common.{◌≡◌, ◌≤◌, ◌<◌, ℕ, ◌+◌, Bool, true, false, List, [], ◌∷◌, ◌++◌, Option, None}
use Rattle.std.proofs.Common.{length, sum, refl, sym, ap, ◌∙◌, subst, arith, append-nil, append_assoc}
use Rattle.std.specs.Prelude.{All, slice_index_or}
use Rattle.tty_base.specs.declared.counters.Signal.{Signal}
use Rattle.tty_base.specs.declared.lines.LineStep.{LineStep}
use Rattle.tty_base.specs.declared.characters.Flagged.{Flagged}
use Rattle.word_ring.specs.Ends.{PutterState}
use Rattle.uart_line.specs.LineState.{LineState}
use Rattle.tty_calls.specs.declared.sessions.Script.{Script}
use Rattle.tty_calls.specs.Plain.{PlainCall, PlainEntry, phase_ended}
use Rattle.tty_calls.specs.Sessions.{line_on, ticks_on}
use Rattle.tty_terminal.specs.Terminals.{Terminal, opening, caller_at, has_begun}
use Rattle.tty_terminal.specs.Steps.{after}
use Rattle.tty_terminal.specs.Runs.{KnowsMore, is_flush}
use Rattle.tty_terminal.specs.declared.callers.CallerState.{CallerState}
use Rattle.legal_runs.specs.Legal.{phase_at}
use Rattle.passed_calls.specs.Derived.{Passing, AreInSteps, by_caller}
use Rattle.passed_calls.specs.Journals.{terminal_after}
use Rattle.port_core.specs.Ports.{PortValue, IsPort, call_in}
use Rattle.legal_runs.specs.Order.{is_of_consoles}
use Rattle.play_base.specs.Roles.{Scene}
use Rattle.play_base.specs.Scenes.{AreAtFirst}
use Rattle.one_thread.specs.Stages.{EndsAfterLine}
use Rattle.play_base.specs.Beginning.{IsAtPhase}
use Rattle.one_thread.specs.Lines.{PlaysLine}
use Rattle.one_thread.proofs.StationLemmas.{at_next_phase}
use Rattle.one_thread.specs.Turns.{role_numbers, IsTurn}
use Rattle.one_thread.specs.Acts.{PlaysItsLine, AddsEntry, PlaysEnd}
use Rattle.play_base.specs.declared.roles.Role.{Role}
use Rattle.one_thread.specs.declared.after_line.Stand.{Stand}
use Rattle.one_thread.specs.declared.after_line.Turn.TheVariants as turn
use Rattle.order_laws.specs.Agreed.{IsBeforeEach, AreRolesOfEach}
use Rattle.order_laws.proofs.Agreeing.{before_all}
use Rattle.order_laws.proofs.InEach.{phase_each}
use Rattle.order_laws.proofs.Shapes.{phases_same, at_phase}
use Rattle.job_text.specs.Events.{JobLog}
use Rattle.job_text.specs.Sessions.{JobsSession}
use Rattle.job_steps.specs.Derived.{block_phases, passings_on}
use Rattle.order_laws.specs.Passed.{begin_of}
use Rattle.order_laws.specs.Later.{ComesBy}
use Rattle.order_laws.specs.Witness.{scene_on, HasPassed, IsPlaying}
use Rattle.job_one.specs.Desk.{signals_of}
use Rattle.job_one.specs.Events.{DeskState}
use Rattle.job_one.specs.Along.{SendsAlong}
use Rattle.order_laws.specs.Begun.{begun_at}
use Rattle.job_one.specs.Playing.{DeskValue, passings_with, next_passing, AreLoggedBefore, IsPlayingJobs}
use Rattle.job_one.specs.Between.{value_at, passed_by, IsBeforeJobs}
use Rattle.job_one.proofs.Along.{keeps, kept_by, had_by, same_kept, stands_on}
use Rattle.order_laws.proofs.Laters.{run_after}
use Rattle.job_one.proofs.Raised.{entry_still}
use Rattle.order_laws.proofs.Witnessed.{begins_line, begins_playing, end_on}
use Rattle.order_laws.proofs.Steps.{tail_none}

-- nobody has begun a call
rests : (session : JobsSession) (p : ℕ) (log : JobLog) (d : DeskValue) (begun : ℕ → Bool)
    → ((c : ℕ) → begun c ≡ false)
    → (c : ℕ)
    → passings_with session log p d begun c ≡ by_caller c (passings_on session log p)
rests session p log d begun none c =
    ap (λ (t : List Passing). by_caller c (passings_on session log p) ++ t)
    (tail_none (begun c) (next_passing session p d c) (none c))
    ∙ append-nil (by_caller c (passings_on session log p))

at_rest : (s : Scene) (k : ℕ) (t : Terminal) → AreAtFirst s k t → (c : ℕ) → has_begun (caller_at t c) ≡ false
at_rest s k t first c = ap (λ (q : CallerState). has_begun q) (first c)

-- ---- by one entry of the port

after_append : (f : ℕ → ℕ → Option PlainCall) (t : Terminal) (es : List PlainEntry) (e : PlainEntry)
    → terminal_after f t (es ++ e ∷ []) ≡ after f (terminal_after f t es) e
after_append f t [] e = refl
after_append f t (x ∷ es) e = after_append f (after f t x) es e

same_grows : (f : ℕ → ℕ → Option PlainCall) → KnowsMore f f
same_grows f c step call is = is

pub one_after : (v w : PortValue) (e : PlainEntry)
    → IsPort v
    → IsPort w
    → ComesBy v w (e ∷ [])
    → w.terminal ≡ after (call_in w.kept) v.terminal e
one_after v w e port later by =
    let g = call_in w.kept in
    let opens : Terminal = opening (sum w.counts) w.flip.capacity in
    let was : terminal_after g opens v.journal ≡ v.terminal =
    ap (λ (t : Terminal). terminal_after g t v.journal) (λ i. opening (sum (by.counts i)) (by.capacity i))
    ∙ run_after (call_in v.kept) g v.counts (opening (sum v.counts) v.flip.capacity)
    v.journal v.terminal by.grows port.run in
    sym (run_after g g w.counts opens w.journal w.terminal (same_grows g) later.run)
    ∙ (ap (λ (es : List PlainEntry). terminal_after g opens es) by.added
    ∙ (after_append g opens v.journal e ∙ ap (λ (t : Terminal). after g t e) was))

pub signals_stay : (v w : PortValue) (e : PlainEntry)
    → IsPort v
    → IsPort w
    → ComesBy v w (e ∷ [])
    → is_flush e.event ≡ false
    → signals_of w.terminal ≡ signals_of v.terminal
signals_stay v w e port later by none =
    ap signals_of (one_after v w e port later by) ∙ entry_still (call_in w.kept) v.terminal e none

-- ---- the beginning

pub phase_begins : (first : Scene) (session : JobsSession) (scripts : Scene → List Script) (roles : List Role)
    (lines : List LineStep) (old mid : PortValue) (putter now : PutterState Flagged) (line played : LineState)
    (run later ticks : ℕ) (d x : DeskState)
    → IsBeforeJobs first session old putter line run d
    → PlaysItsLine lines old mid putter now line played run later
    → SendsAlong old mid d x
    → old.terminal.phase < length first.session.phases
    → lines ≡ line_on first.port (phase_at first.session old.terminal.phase)
    → ticks ≡ ticks_on first.port (phase_at first.session old.terminal.phase)
    → IsPort mid
    → AreRolesOfEach first scripts roles old.terminal.phase mid
    → IsPlayingJobs first session scripts roles mid x.log mid (value_at x) ticks
    (record { run = later; part = 0; ticks = ticks; going = None })
phase_begins first session scripts roles lines old mid putter now line played run
    later ticks d x b plays along within is ticks_is port are =
    let p = first.port in
    let phases = block_phases session in
    let stand : Stand = record { run = later; part = 0; ticks = ticks; going = None } in
    let line_begins =
    begins_line first phases (passed_by session p d) lines old putter line run b.each b.has within is in
    let on = plays.each line_begins in
    let idle : (c : ℕ) → begun_at mid c ≡ false =
    at_rest line_begins.scene mid.terminal.phase mid.terminal on.after_line.callers in
    let number : p ≡ d.number = b.date.stands.number in
    let same : passings_on session x.log p ≡ passings_on session d.log p =
    subst (λ (n : ℕ). passings_on session x.log n ≡ passings_on session d.log n) (sym number)
    (along.alone.passes session) in
    let mine_same : (c : ℕ) → passed_by session p d c ≡ passings_with session x.log p (value_at x) (begun_at mid) c =
    λ c. sym (rests session p x.log (value_at x) (begun_at mid) idle c ∙ ap (by_caller c) same) in
    let plays_first = begins_playing first phases scripts roles (passed_by session p d) lines old mid putter now line
    played run later ticks b.each b.has b.before plays within is ticks_is port are in
    record {
      playing = subst (λ (mine : ℕ → List Passing). IsPlaying first phases scripts roles mid mine mid ticks stand)
          (λ i. λ c. mine_same c i) plays_first;
      desk = (along.each first session b.date).stands.desk;
      logged_before = λ c.
          subst (λ (ns : List ℕ). AreLoggedBefore session x.log p c (slice_index_or ns c 0)) (sym along.alone.same.next)
          (subst (λ (ms : List Passing). All (λ m. m.step < slice_index_or d.next c 0) (by_caller c ms)) (sym same)
          (b.logged_before c));
    }

-- ---- the end

abbrev last_or : PlainEntry → List PlainEntry → PlainEntry
last_or d [] = d
last_or d (e ∷ es) = last_or e es

last_is : (d : PlainEntry) (es : List PlainEntry) (e : PlainEntry) → last_or d (es ++ e ∷ []) ≡ e
last_is d [] e = refl
last_is d (x ∷ es) e = last_is x es e

one_last : (xs ys : List PlainEntry) (e f : PlainEntry) → xs ++ e ∷ [] ≡ ys ++ f ∷ [] → e ≡ f
one_last xs ys e f same = sym (last_is e xs e) ∙ (ap (last_or e) same ∙ last_is e ys f)

pub phase_ends : (first : Scene) (session : JobsSession) (scripts : Scene → List Script) (roles : List Role)
    (lines : List LineStep) (old mid v new : PortValue) (putter now left : PutterState Flagged)
    (line played : LineState) (run later next ticks : ℕ) (stand : Stand) (d x : DeskState)
    → IsBeforeJobs first session old putter line run d
    → PlaysItsLine lines old mid putter now line played run later
    → old.terminal.phase < length first.session.phases
    → lines ≡ line_on first.port (phase_at first.session old.terminal.phase)
    → IsPlayingJobs first session scripts roles mid x.log v (value_at x) ticks stand
    → first.port ≡ x.number
    → length (signals_of v.terminal) ≤ x.sent
    → IsTurn (is_of_consoles first.session) v (role_numbers roles) stand.going turn.End
    → PlaysEnd roles v new now left stand next
    → AddsEntry v new
    → IsPort v
    → IsPort new
    → ((c : ℕ) → slice_index_or x.next c 0 ≡ begin_of first.port (block_phases session) (old.terminal.phase + 1) c)
    → IsBeforeJobs first session new left played next x
phase_ends first session scripts roles lines old mid v new putter now left line played run later next ticks stand d x b
    plays within is h number few whose ends adds port after_port done =
    let p = first.port in
    let k = old.terminal.phase in
    let phases = block_phases session in
    let mine = passings_with session x.log p (value_at x) (begun_at v) in
    let line_begins =
    begins_line first phases (passed_by session p d) lines old putter line run b.each b.has within is in
    let both = end_on first phases scripts roles mid mine v new now left ticks stand next h.playing whose ends adds in
    let s = scene_on p both.1.session in
    let ended : EndsAfterLine s mid new now left next = both.0.each s both.1.like both.1.agrees in
    let plays_v =
    (h.playing.each.each (scene_on p h.playing.has.session) h.playing.has.like h.playing.has.agrees).plays in
    let each : IsBeforeEach first new left played next =
    phase_each first lines old mid new putter now left line played
    run later next b.each line_begins plays within is both.0 in
    let entry : adds.entry ≡ ended.last =
    one_last v.journal (mid.journal ++ ended.part) adds.entry ended.last
    (sym adds.added ∙ (ended.added ∙ sym (append_assoc mid.journal ended.part (ended.last ∷ [])))) in
    let event : adds.entry.event ≡ phase_ended = ap (λ (e : PlainEntry). e.event) entry ∙ ended.ends in
    let agrees_v = before_all s v new (adds.entry ∷ []) adds.added (same_kept v new adds.kept) both.1.agrees in
    let of_v = (h.playing.each.each s both.1.like agrees_v).plays.of_scene in
    let by : ComesBy v new (adds.entry ∷ []) = record {
      added = adds.added;
      grows = same_kept v new adds.kept;
      counts = ended.of_scene.counts ∙ sym of_v.counts;
      capacity = ended.of_scene.capacity ∙ sym of_v.capacity;
    } in
    let keeps_it : keeps adds.entry.event ≡ true = ap keeps event in
    let idle_new : (c : ℕ) → begun_at new c ≡ false = at_rest s (mid.terminal.phase + 1) new.terminal ended.at_first in
    let idle : (c : ℕ) → begun_at v c ≡ false = λ c.
    sym (kept_by v new adds.entry port after_port adds.added keeps_it c).0 ∙ idle_new c in
    let mine_same : (c : ℕ) → mine c ≡ passed_by session p x c = rests session p x.log (value_at x) (begun_at v) idle in
    let on = plays.each line_begins in
    let agrees_mid = before_all s mid new (ended.part ++ ended.last ∷ []) ended.added both.0.grows both.1.agrees in
    let agrees_old =
    before_all s old mid (on.flushes ++ on.last ∷ []) on.added (same_kept old mid on.kept) agrees_mid in
    let at_old : IsAtPhase s k old putter line run = (b.each.each s both.1.like agrees_old).0 in
    let here : PlaysLine s k old mid now line played later = plays.in_order (record {
      scene = s;
      begins = at_old;
      within = subst (λ (n : ℕ). k < n) (sym (phases_same p first.session s.session both.1.like.shape)) within;
      steps_are = is ∙ sym (at_phase (line_on p) first.session s.session k both.1.like.shape.lines);
    }) in
    let phase : new.terminal.phase ≡ k + 1 =
    (at_next_phase s k old mid new putter now left line played run later next at_old here ended).phase in
    let phase_v : v.terminal.phase ≡ k = (h.playing.each.each s both.1.like agrees_v).phase ∙ here.phase in
    record {
      each = each;
      has = subst (λ (m : ℕ → List Passing). HasPassed first phases m new) (λ i. λ c. mine_same c i) both.1;
      before = λ c. subst (λ (j : ℕ). AreInSteps 0 (begin_of p phases j c) (passed_by session p x c)) (sym phase)
          (subst (λ (ms : List Passing). AreInSteps 0 (begin_of p phases (k + 1) c) ms) (mine_same c)
          (subst (λ (j : ℕ). AreInSteps 0 (begin_of p phases (j + 1) c) (mine c)) phase_v (h.playing.up_to c)));
      date = record {
        stands = stands_on first session v new (adds.entry ∷ []) x by
            (had_by v new adds.entry port after_port adds.added keeps_it) (record { number = number; desk = h.desk });
        all_sent = omega (
          arith,
          few,
          ap (λ (ss : List Signal). length ss) (signals_stay v new adds.entry port after_port by (ap is_flush event)),
        );
      };
      logged_before = h.logged_before;
      steps = λ c. subst (λ (j : ℕ). slice_index_or x.next c 0 ≡ begin_of p phases j c) (sym phase) (done c);
    }
