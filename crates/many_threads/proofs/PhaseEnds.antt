-- The end of a phase whose threads are over.
use Rattle.std.proofs.Common.{◌≡◌, ℕ, ◌+◌, ◌<◌, ◌≤◌, List, [], ◌∷◌, ◌++◌, false, Option}
use Rattle.std.proofs.Common.{length, refl, sym, ◌∙◌, ap, subst, arith, append_assoc}
use Rattle.std.proofs.lemmas.Bool.{false≢true}
use Rattle.std.proofs.lemmas.List.Elements.{All-nil}
use Rattle.tty_base.specs.declared.characters.Flagged.{Flagged}
use Rattle.tty_base.specs.declared.lines.Overrun.{Overrun}
use Rattle.word_ring.specs.Ends.{PutterState}
use Rattle.uart_line.specs.LineState.{LineState}
use Rattle.tty_calls.specs.declared.journals.Who.TheVariants.{Session}
use Rattle.tty_calls.specs.Plain.{PlainCall, phase_ended, line_ended, PlainEntry}
use Rattle.tty_calls.specs.Sessions.{scripts_on, call_at}
use Rattle.tty_terminal.specs.Terminals.{Terminal, caller_at}
use Rattle.tty_terminal.specs.Steps.{next_phase}
use Rattle.tty_terminal.specs.Runs.{AgreesAt, AgreesOn}
use Rattle.tty_terminal.specs.Standing.{Standing, standing_of}
use Rattle.tty_terminal.proofs.StandingLaws.{step_stands}
use Rattle.legal_runs.specs.Legal.{phase_at, name_at, has_script, script_of_first, received_before, AreInPhases}
use Rattle.legal_runs.specs.Phases.{CompletesPhase}
use Rattle.legal_runs.proofs.CallerLemmas.{played_next}
use Rattle.port_core.specs.Flips.{after_meeting}
use Rattle.port_core.specs.Phases.{EndsPhase}
use Rattle.port_core.specs.Ports.{PortValue, call_in, phase_entry}
use Rattle.play_base.specs.Roles.{Scene}
use Rattle.play_base.proofs.Meetings.{has_put_met, has_put_at, sent_met}
use Rattle.legal_runs.proofs.Places.{in_phases_more}
use Rattle.tty_port.specs.Seen.{run_after}
use Rattle.play_base.specs.declared.stations.Station.{Station}
use Rattle.many_threads.specs.declared.shared_phase.PhaseWork.{PhaseWork}
use Rattle.many_threads.specs.declared.shared_phase.PhaseEnd.{PhaseEnd}
use Rattle.many_threads.specs.declared.shared_phase.PhaseEnd.TheVariants.{Over, Full}
use Rattle.many_threads.specs.PhaseStarts.{IsOfSession, IsAtPhase, CanPlayPhase, PlaysPhase, StopsPhase}
use Rattle.many_threads.specs.PhaseEnds.{CanFinish, PlaysThreads, ThreadsLeave, EndsOrStops, PhaseComes}

agrees_push : (f g : ℕ → ℕ → Option PlainCall) (es : List PlainEntry) (e : PlainEntry)
    → AgreesOn f g es
    → AgreesAt f g e.who e.step e.event
    → AgreesOn f g (es ++ e ∷ [])
agrees_push f g [] e h last = (last, tt)
agrees_push f g (x ∷ es) e h last = (h.0, agrees_push f g es e h.1 last)

module _ (s : Scene) (k : ℕ) (v w u : PortValue) (putter now last : PutterState Flagged) (line played : LineState)
    (run next : ℕ) (within : k < length s.session.phases) (start : IsAtPhase s k v putter line run)
    (h : PlaysThreads s k v w now line played next) (ends : EndsPhase w u now last) where
  abbrev e : PlainEntry
  e = phase_entry w Session phase_ended

  abbrev kept : ℕ → ℕ → Option PlainCall
  kept = call_in w.kept

  terminal : u.terminal ≡ next_phase w.terminal
  terminal = ap (λ (x : PortValue). x.terminal) ends.appends.appended

  journal : u.journal ≡ w.journal ++ e ∷ []
  journal = ap (λ (x : PortValue). x.journal) ends.appends.appended

  ring : u.flip.ring ≡ w.flip.ring
  ring = ap (λ (x : PortValue). x.flip.ring) ends.appends.appended

  capacity : u.flip.capacity ≡ w.flip.capacity
  capacity = ap (λ (x : PortValue). x.flip.capacity) ends.appends.appended

  sent : last.sent ≡ now.sent
  sent = sent_met w.flip now last ends.meets

  stands : (c : ℕ)
      → standing_of (caller_at u.terminal c) ≡ record (standing_of (caller_at w.terminal c)) { over = false }
  stands c =
      ap (λ (t : Terminal). standing_of (caller_at t c)) terminal
      ∙ step_stands kept w.counts w.terminal e ends.appends.allowed c

  complete : CompletesPhase s.port s.session (played.report.overruns.items ++ []) k v.terminal w.terminal
  complete = h.completes [] (All-nil (λ (o : Overrun). received_before s.port s.session (k + 1) ≤ o.at))

  of_session : IsOfSession s u
  of_session = record {
    counts = ap (λ (x : PortValue). x.counts) ends.appends.appended ∙ h.of_session.counts;
    capacity = capacity ∙ h.of_session.capacity;
    limit = ap (λ (x : PortValue). x.limit) ends.appends.appended ∙ h.of_session.limit;
    calls = subst (λ (es : List PlainEntry). AgreesOn (call_in u.kept) (call_at s.port s.session) es) (sym journal)
        (subst (λ ks. AgreesOn (call_in ks) (call_at s.port s.session) (w.journal ++ e ∷ []))
        (sym (ap (λ (x : PortValue). x.kept) ends.appends.appended))
        (agrees_push kept (call_at s.port s.session) w.journal e h.of_session.calls
        (λ c of by. absurd (false≢true of))));
    in_phases = subst (AreInPhases s.port s.session 0) (sym journal)
        (in_phases_more s.port s.session 0 w.journal e h.of_session.in_phases tt);
  }

  pub next_begins : IsAtPhase s (k + 1) u last played next
  next_begins = record {
    of_session = of_session;
    phase = ap (λ (t : Terminal). t.phase) terminal ∙ ap (λ (n : ℕ). n + 1) h.phase;
    line_over = ap (λ (t : Terminal). t.line_over) terminal;
    clock_over = ap (λ (t : Terminal). t.clock_over) terminal;
    callers = λ c. record {
      next_is = ap (λ (q : Standing). q.next) (stands c)
          ∙ played_next s.port s.session k c (caller_at w.terminal c).next (caller_at w.terminal c).over
          (has_script (scripts_on s.port (phase_at s.session k)) (name_at s.port s.session c)) within refl
          (complete.callers c);
      not_over = ap (λ (q : Standing). q.over) (stands c);
      not_begun = ap (λ (q : Standing). q.begun) (stands c) ∙ h.at_rest c;
    };
    next_run = h.next_run ∙ ap (λ (t : Terminal). run_after t.flushed) (sym terminal);
    sent = ap (λ (t : Terminal). t.sent) terminal ∙ (h.sent ∙ ap length (sym sent));
    has_put = has_put_at w u last played (script_of_first s.port s.session (k + 1)) ring capacity
        (has_put_met w now last played (script_of_first s.port s.session (k + 1)) h.has_put ends.meets);
    most = (let same = h.most in let most = start.most in omega arith);
  }

  pub phase_is_played : PlaysPhase s k v u last line played
  phase_is_played = record {
    front = h.front;
    line_end = h.line_end;
    back = h.back;
    last = e;
    terminal = w.terminal;
    added =
        journal
        ∙ (ap (λ (es : List PlainEntry). es ++ e ∷ []) h.added
        ∙ append_assoc v.journal (h.front ++ h.line_end ∷ h.back) (e ∷ []));
    leads = h.leads;
    inside = h.inside;
    ends = refl;
    next = terminal;
    none = h.none;
    ends_line = h.ends_line ∙ ap (λ (cs : List Flagged). line_ended (length cs)) (sym sent);
    overruns = h.overruns;
    more_overruns = h.more_overruns;
    completes = h.completes;
    seen = h.seen;
  }

-- the phase's end finds the journal full
pub threads_stop : (s : Scene) (k : ℕ) (v w : PortValue) (now : PutterState Flagged) (line played : LineState)
    (next : ℕ)
    → PlaysThreads s k v w now line played next
    → length w.journal ≡ w.limit
    → StopsPhase s k v w now line played
threads_stop s k v w now line played next h full =
    let complete = h.completes [] (All-nil (λ (o : Overrun). received_before s.port s.session (k + 1) ≤ o.at)) in
    record {
      of_session = h.of_session;
      part = h.front ++ h.line_end ∷ h.back;
      added = h.added;
      leads = h.leads;
      inside = h.inside;
      ticks = omega (arith, complete.tick);
      full = full ∙ h.of_session.limit;
      ring = h.ring;
      capacity = h.capacity;
      has_put = h.has_put;
      most = h.most;
    }

-- both ends of the flip buffer met before the threads began
plays_from : (s : Scene) (k : ℕ) (v w : PortValue) (putter now : PutterState Flagged) (line played : LineState)
    (next : ℕ)
    → PlaysThreads s k (record v { flip = after_meeting v.flip putter }) w now line played next
    → PlaysThreads s k v w now line played next
plays_from s k v w putter now line played next h = record {
  of_session = h.of_session;
  front = h.front;
  line_end = h.line_end;
  back = h.back;
  added = h.added;
  leads = h.leads;
  inside = h.inside;
  may = h.may;
  phase = h.phase;
  at_rest = h.at_rest;
  next_run = h.next_run;
  none = h.none;
  ends_line = h.ends_line;
  sent = h.sent;
  overruns = h.overruns;
  more_overruns = h.more_overruns;
  completes = h.completes;
  seen = h.seen;
  ring = h.ring;
  capacity = h.capacity;
  has_put = h.has_put;
  most = h.most;
}

stops_from : (s : Scene) (k : ℕ) (v w : PortValue) (putter now : PutterState Flagged) (line played : LineState)
    → StopsPhase s k (record v { flip = after_meeting v.flip putter }) w now line played
    → StopsPhase s k v w now line played
stops_from s k v w putter now line played h = record {
  of_session = h.of_session;
  part = h.part;
  added = h.added;
  leads = h.leads;
  inside = h.inside;
  ticks = h.ticks;
  full = h.full;
  ring = h.ring;
  capacity = h.capacity;
  has_put = h.has_put;
  most = h.most;
}

pub leaves_from : (s : Scene) (k : ℕ) (old left : Station) (met : PortValue) (now : PutterState Flagged)
    (end : PhaseEnd)
    → met ≡ record old.port { flip = after_meeting old.port.flip old.putter }
    → ThreadsLeave s k (record { port = met; putter = now; line = old.line; steps = old.steps }) left end
    → ThreadsLeave s k old left end
leaves_from s k old left met now (Over next) is h =
    plays_from s k old.port left.port old.putter left.putter old.line left.line next
    (subst (λ (x : PortValue). PlaysThreads s k x left.port left.putter old.line left.line next) is h)
leaves_from s k old left met now Full is h =
    stops_from s k old.port left.port old.putter left.putter old.line left.line
    (subst (λ (x : PortValue). StopsPhase s k x left.port left.putter old.line left.line) is h)

pub phase_comes : (s : Scene) (old left : Station) (u : PortValue) (last : PutterState Flagged) (work : PhaseWork)
    (next : ℕ) (end : PhaseEnd)
    → CanPlayPhase s old work
    → ThreadsLeave s work.phase old left (Over next)
    → EndsOrStops left.port u left.putter last next end
    → PhaseComes s work.phase old (record { port = u; putter = last; line = left.line; steps = left.steps }) end
phase_comes s old left u last work next (Over after) can h ends = (
  subst (IsAtPhase s (work.phase + 1) u last left.line) (sym ends.0)
      (next_begins s work.phase old.port left.port u old.putter left.putter last old.line
      left.line work.run next can.within can.at_phase h ends.1),
  phase_is_played s work.phase old.port left.port u old.putter left.putter last old.line
      left.line work.run next can.within can.at_phase h ends.1,
)
phase_comes s old left u last work next Full can h ends =
    let stops = threads_stop s work.phase old.port left.port left.putter old.line left.line next h ends.0 in
    subst (λ (x : PortValue). StopsPhase s work.phase old.port x last old.line left.line) (sym ends.1)
    (subst (λ (q : PutterState Flagged). StopsPhase s work.phase old.port left.port q old.line left.line) (sym ends.2)
    stops)

pub can_finish : (s : Scene) (k : ℕ) (old left : Station) (end : PhaseEnd)
    → ThreadsLeave s k old left end
    → CanFinish left end
can_finish s k old left (Over next) h = (h.may, h.has_put.ring)
can_finish s k old left Full h = tt
