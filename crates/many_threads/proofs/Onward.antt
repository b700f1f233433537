-- A port on threads from its opening over its phases to its end.
use Rattle.std.proofs.Common.{◌≡◌, ◌⊎◌, inl, inr, ℕ, ◌+◌, ◌<◌, ◌≤◌, List, [], ◌∷◌, ◌++◌}
use Rattle.std.proofs.Common.{Option, None, Some, length, refl, sym, ◌∙◌, ap, subst, arith}
use Rattle.std.specs.Prelude.{IsTrue, Result, Ok, Err, IfOk, All, slice_get, sum}
use Rattle.std.proofs.lemmas.Bool.Decides.{nat_tests}
use Rattle.std.proofs.lemmas.List.{length-map}
use Rattle.std.proofs.lemmas.List.Elements.{All-nil}
use Rattle.tty_base.specs.declared.characters.Flagged.{Flagged}
use Rattle.tty_base.specs.declared.lines.Overrun.{Overrun}
use Rattle.tty_base.specs.Lines.{is_step}
use Rattle.word_ring.specs.Ends.{PutterState}
use Rattle.uart_line.specs.LineState.{LineState}
use Rattle.tty_calls.specs.Plain.{PlainEntry}
use Rattle.tty_calls.specs.Limits.{IsWithinLimits}
use Rattle.tty_calls.specs.Sessions.{call_at, scripts_on, counts_on, line_on, ticks_on}
use Rattle.tty_terminal.specs.declared.callers.CallerState.{CallerState}
use Rattle.tty_terminal.specs.declared.callers.Piece.{Piece}
use Rattle.tty_terminal.specs.Terminals.{opening}
use Rattle.tty_terminal.specs.Standing.{standing_of}
use Rattle.tty_terminal.specs.Steps.{follows}
use Rattle.tty_terminal.specs.Runs.{AgreesOn}
use Rattle.tty_terminal.proofs.Agreeing.{leads_agrees}
use Rattle.legal_runs.specs.Legal.{phase_at, received_before}
use Rattle.legal_runs.specs.Phases.{CompletesPhase}
use Rattle.port_core.specs.Ports.{PortValue, call_in}
use Rattle.tty_port.specs.Seen.{run_after}
use Rattle.play_base.specs.Roles.{Scene, AreFirstSteps}
use Rattle.play_base.specs.Beginning as lines
use Rattle.play_base.specs.Phases as phases
use Rattle.play_base.specs.Phases.{HavePlayed, IsPortOf, IsFullRun, IsAtEnd, IsUpTo}
use Rattle.play_base.specs.declared.stations.Station.{Station}
use Rattle.play_base.proofs.PhaseLemmas.{PlaysPart, played_more}
use Rattle.play_base.proofs.FullRuns.{full_in_phase}
use Rattle.play_base.proofs.PortLemmas.{last_or, some_is}
use Rattle.many_threads.specs.Callers.{plain_cast}
use Rattle.many_threads.specs.PhaseStarts.{IsOfSession, IsAtPhase, IsCast, CanPlayPhase, PlaysPhase, StopsPhase}
use Rattle.many_threads.specs.PhaseEnds.{PhaseComes}
use Rattle.many_threads.specs.InPlay.{IsBeforePhase, WerePlayedBefore, CanEnd}
use Rattle.many_threads.specs.declared.shared_phase.PhaseWork.{PhaseWork}
use Rattle.many_threads.specs.declared.shared_phase.PhaseEnd.{PhaseEnd}
use Rattle.many_threads.specs.declared.shared_phase.PhaseEnd.TheVariants.{Over, Full}
use Rattle.legal_runs.proofs.NameLemmas.{get_append, get_past}

-- ---- at the beginning

follows_none : (o : Option Piece) → IsTrue (follows o 0 0) → 0 ≡ run_after o
follows_none None h = refl
follows_none (Some p) h = absurd (grind (arith, nat_tests))

empty_at_first : (journal : List PlainEntry) → IsUpTo 0 journal → journal ≡ []
empty_at_first journal (inl (none, empty)) = empty
empty_at_first journal (inr (before, last, comes)) = let count = comes.count in absurd (omega (arith, count))

-- a port that was opened for the scene stands before its first phase on threads too
pub opened_before : (s : Scene) (station : Station) → phases.IsBeforePhase s 0 station 0 → IsBeforePhase s 0 station 0
opened_before s station h =
    let v : PortValue = station.port in
    let at : lines.IsAtPhase s 0 v station.putter station.line 0 = h.at_phase in
    record {
      at_phase = record {
        of_session = record {
          counts = at.of_scene.counts;
          capacity = at.of_scene.capacity;
          limit = at.of_scene.limit;
          calls = subst (AgreesOn (call_in v.kept) (call_at s.port s.session))
              (sym (empty_at_first v.journal h.played.played.up_to)) tt;
          in_phases = at.of_scene.in_phases;
        };
        phase = at.phase;
        line_over = at.line_over;
        clock_over = at.clock_over;
        callers = λ c. record {
          next_is = ap (λ (x : CallerState). x.next) (at.callers c);
          not_over = ap (λ (x : CallerState). x.over) (at.callers c);
          not_begun = ap (λ (x : CallerState). (standing_of x).begun) (at.callers c);
        };
        next_run = follows_none v.terminal.flushed at.begins_run.follows;
        sent = at.sent;
        has_put = at.has_put;
        most = at.most;
      };
      steps = h.steps;
      played = h.played.played;
    }

-- ---- one more phase

plays_part : (s : Scene) (k : ℕ) (old new : PortValue) (putter now : PutterState Flagged) (line played : LineState)
    (run : ℕ)
    → k < length s.session.phases
    → IsAtPhase s k old putter line run
    → (plays : PlaysPhase s k old new now line played)
    → PlaysPart s k old.terminal plays.front plays.line_end (length now.sent) plays.back plays.last plays.terminal
plays_part s k old new putter now line played run within at plays = record {
  within = within;
  begins = record { line = at.line_over; clock = at.clock_over; callers = λ c. (at.callers c).not_over };
  inside = plays.inside;
  none = plays.none;
  line = plays.ends_line;
  leads = plays.leads;
  ends = plays.ends;
  tick = (plays.completes [] (All-nil (λ (o : Overrun). received_before s.port s.session (k + 1) ≤ o.at))).tick;
}

played_on : (s : Scene) (k : ℕ) (old new : PortValue) (putter now : PutterState Flagged) (line played : LineState)
    (run : ℕ)
    → k < length s.session.phases
    → IsAtPhase s k old putter line run
    → PlaysPhase s k old new now line played
    → HavePlayed s k old.journal line.report.overruns.items
    → HavePlayed s (k + 1) new.journal played.report.overruns.items
played_on s k old new putter now line played run within at plays before =
    let part = plays_part s k old new putter now line played run within at plays in
    let whole : List PlainEntry = old.journal ++ ((plays.front ++ plays.line_end ∷ plays.back) ++ plays.last ∷ []) in
    subst (λ (es : List PlainEntry). HavePlayed s (k + 1) es played.report.overruns.items) (sym plays.added)
    (subst (λ (os : List Overrun). HavePlayed s (k + 1) whole os) (sym plays.more_overruns)
    (played_more s k old.terminal old.journal plays.front plays.line_end (length now.sent) plays.back plays.last
    plays.terminal line.report.overruns.items plays.overruns before part
    (λ more later. subst
    (λ (os : List Overrun). CompletesPhase s.port s.session (os ++ more) k old.terminal plays.terminal)
    plays.more_overruns (plays.completes more later))
    plays.seen))

pub before_next : (s : Scene) (k : ℕ) (old : Station) (new : PortValue) (now : PutterState Flagged) (played : LineState)
    (station : Station) (run next : ℕ)
    → station.port ≡ new
    → station.putter ≡ now
    → station.line ≡ played
    → k < length s.session.phases
    → IsBeforePhase s k old run
    → IsAtPhase s (k + 1) new now played next
    → PlaysPhase s k old.port new now old.line played
    → AreFirstSteps s (k + 1) station.steps.items
    → IsBeforePhase s (k + 1) station next
before_next s k old new now played station run next port putter line within before at plays steps =
    let on = played_on s k old.port new old.putter now old.line played run within before.at_phase plays before.played in
    record {
      at_phase = subst (λ (v : PortValue). IsAtPhase s (k + 1) v station.putter station.line next) (sym port)
          (subst (λ (p : PutterState Flagged). IsAtPhase s (k + 1) new p station.line next) (sym putter)
          (subst (λ (l : LineState). IsAtPhase s (k + 1) new now l next) (sym line) at));
      steps = steps;
      played = subst (λ (v : PortValue). HavePlayed s (k + 1) v.journal station.line.report.overruns.items) (sym port)
          (subst (λ (l : LineState). HavePlayed s (k + 1) new.journal l.report.overruns.items) (sym line) on);
    }

-- ---- a full journal

pub port_of_session : (s : Scene) (v : PortValue) → IsOfSession s v → IsPortOf s v
port_of_session s v h = record {
  counts = h.counts;
  capacity = h.capacity;
  limit = h.limit;
  calls = λ capacity run. leads_agrees (call_in v.kept) (call_at s.port s.session) v.counts
      (opening (sum v.counts) capacity) v.journal v.terminal h.calls run;
  in_phases = h.in_phases;
}

pub full_stands : (s : Scene) (k : ℕ) (old : Station) (new : PortValue) (now : PutterState Flagged) (played : LineState)
    (station : Station) (run : ℕ)
    → station.port ≡ new
    → station.putter ≡ now
    → station.line ≡ played
    → k < length s.session.phases
    → IsBeforePhase s k old run
    → StopsPhase s k old.port new now old.line played
    → IsPortOf s station.port × IsFullRun s station.port station.putter station.line
full_stands s k old new now played station run port putter line within before stops =
    let full = full_in_phase s k old.port new now played old.line.report.overruns.items stops.part within before.played
    stops.full stops.added stops.leads stops.inside stops.ticks stops.has_put in (
      subst (IsPortOf s) (sym port) (port_of_session s new stops.of_session),
      subst (λ (v : PortValue). IsFullRun s v station.putter station.line) (sym port)
          (subst (λ (p : PutterState Flagged). IsFullRun s new p station.line) (sym putter)
          (subst (λ (l : LineState). IsFullRun s new now l) (sym line) full)),
    )

-- ---- the work of a phase

pub can_play_on : (s : Scene) (k callers : ℕ) (station : Station) (work : PhaseWork)
    → work.phase ≡ station.port.terminal.phase
    → IsWithinLimits s.session
    → k < length s.session.phases
    → IsBeforePhase s k station work.run
    → work.steps.now.items ≡ line_on s.port (phase_at s.session k)
    → All (λ step. IsTrue (is_step step)) work.steps.now.items
    → work.ticks ≡ ticks_on s.port (phase_at s.session k)
    → callers ≡ sum (counts_on s.port s.session)
    → IsCast s k callers (plain_cast work.scripts.now work.cast.now)
    → CanPlayPhase s station work
can_play_on s k callers station work phase limits within before steps good ticks all cast =
    let is : k ≡ work.phase = sym before.at_phase.phase ∙ sym phase in
    record {
      limits = limits;
      within = subst (λ (n : ℕ). n < length s.session.phases) is within;
      at_phase = subst (λ (n : ℕ). IsAtPhase s n station.port station.putter station.line work.run) is before.at_phase;
      steps = subst (λ (n : ℕ). work.steps.now.items ≡ line_on s.port (phase_at s.session n)) is steps;
      good = good;
      ticks = subst (λ (n : ℕ). work.ticks ≡ ticks_on s.port (phase_at s.session n)) is ticks;
      roles = subst (λ (n : ℕ). IsCast s n (sum station.port.counts) (plain_cast work.scripts.now work.cast.now)) is
          (subst (λ (n : ℕ). IsCast s k n (plain_cast work.scripts.now work.cast.now))
          (all ∙ sym (ap sum before.at_phase.of_session.counts)) cast);
    }

-- ---- what a phase comes to

pub stands_next : (s : Scene) (k : ℕ) (old new station : Station) (run : ℕ) (end : PhaseEnd)
    → station.port ≡ new.port
    → station.putter ≡ new.putter
    → station.line ≡ new.line
    → k < length s.session.phases
    → IsBeforePhase s k old run
    → PhaseComes s k old new end
    → AreFirstSteps s (k + 1) station.steps.items
    → WerePlayedBefore s (k + 1) station end
stands_next s k old new station run (Over next) port putter line within before comes steps =
    before_next s k old new.port new.putter new.line station run
    next port putter line within before comes.0 comes.1 steps
stands_next s k old new station run Full port putter line within before comes steps =
    full_stands s k old new.port new.putter new.line station run port putter line within before comes

-- ---- at the end

pub at_end_of : (s : Scene) (station : Station) (run : ℕ)
    → IsBeforePhase s (length s.session.phases) station run
    → IsAtEnd s station.port station.putter station.line
at_end_of s station run h = record {
  port_of = port_of_session s station.port h.at_phase.of_session;
  has_put = h.at_phase.has_put;
  played = h.played;
}

-- a port that has come to the end of its phases can be hung up
over_all : (s : Scene) (station : Station) (run : ℕ)
    → IsBeforePhase s (length s.session.phases) station run
    → station.port.terminal.phase ≡ length station.port.counts
over_all s station run h =
    h.at_phase.phase
    ∙ sym (ap (λ (xs : List ℕ). length xs) h.at_phase.of_session.counts
    ∙ length-map s.session.phases (λ phase. length (scripts_on s.port phase)))

pub can_end : (s : Scene) (station : Station) (end : PhaseEnd)
    → WerePlayedBefore s (length s.session.phases) station end
    → CanEnd station end
can_end s station (Over run) h = (over_all s station run h, h.at_phase.has_put.ring, h.at_phase.sent)
can_end s station Full h = h.1.has_put.ring

-- ---- ports by number

pub each_front : {X : Type 0} (P : ℕ → X → Type 0) (all xs : List X) (y : X)
    → all ≡ xs ++ y ∷ []
    → ((p : ℕ) (x : X) → slice_get all p ≡ Some x → P p x)
    → (p : ℕ) (x : X)
    → slice_get xs p ≡ Some x
    → P p x
each_front P all xs y is h p x at = h p x (ap (λ l. slice_get l p) is ∙ get_append xs (y ∷ []) p x at)

pub each_last : {X : Type 0} (P : ℕ → X → Type 0) (all xs : List X) (y : X)
    → all ≡ xs ++ y ∷ []
    → ((p : ℕ) (x : X) → slice_get all p ≡ Some x → P p x)
    → P (length xs) y
each_last P all xs y is h =
    h (length xs) y (ap (λ l. slice_get l (length xs)) is ∙ get_past xs (y ∷ []) (length xs) 0 (omega arith))

pub each_one_more : {X : Type 0} (P : ℕ → X → Type 0) (all xs : List X) (y : X)
    → all ≡ xs ++ y ∷ []
    → ((p : ℕ) (x : X) → slice_get xs p ≡ Some x → P p x)
    → P (length xs) y
    → (p : ℕ) (x : X)
    → slice_get all p ≡ Some x
    → P p x
each_one_more P all xs y is h k p x at = one_of (last_or xs y p x (ap (λ l. slice_get l p) (sym is) ∙ at))
  where
    one_of : (slice_get xs p ≡ Some x) ⊎ ((p ≡ length xs) × (Some y ≡ Some x)) → P p x
    one_of (inl a) = h p x a
    one_of (inr a) = subst (λ (n : ℕ). P n x) (sym a.0) (subst (P (length xs)) (some_is y x a.1) k)

pub at_ok : {T E : Type 0} (r : Result T E) (x : T) (P : T → Type 0) → r ≡ Ok x → IfOk r P → P x
at_ok {T = T} {E = E} r x P is h = subst (λ (o : Result T E). IfOk o P) is h

-- ---- what was kept beside what was made

pub kept_ok : {T U E : Type 0} (r : Result (T × U) E) (kept : T) (P : T → Type 0)
    → IfOk r (λ both. both.0 ≡ kept)
    → P kept
    → IfOk r (λ both. P both.0)
kept_ok (Ok both) kept P is h = subst P (sym is) h
kept_ok (Err e) kept P is h = tt

pub beside_ok : {T U E : Type 0} (r : Result (T × U) E) (kept : T) (made : Result U E) (P : T → U → Type 0)
    (Q : U → Type 0)
    → IfOk r (λ both. both.0 ≡ kept)
    → IfOk r (λ both. made ≡ Ok both.1)
    → IfOk made Q
    → ((u : U) → Q u → P kept u)
    → IfOk r (λ both. P both.0 both.1)
beside_ok {T = T} (Ok both) kept made P Q is_kept is_made h f =
    subst (λ (t : T). P t both.1) (sym is_kept) (f both.1 (at_ok made both.1 Q is_made h))
beside_ok (Err e) kept made P Q is_kept is_made h f = tt
