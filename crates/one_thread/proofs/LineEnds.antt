-- How the line of a phase begins, ends, and stops at a full journal.
use Rattle.std.proofs.Common.{◌≡◌, ◌⊎◌, ℕ, ◌+◌, ◌<◌, ◌≤◌, true, ◌==◌, List, [], ◌∷◌, ◌++◌, length}
use Rattle.std.proofs.Common.{get_or, reverse, refl, sym, ◌∙◌, ap, subst, arith, append_assoc}
use Rattle.std.proofs.Common.{append-nil, length-append, inl, inr, Option, Some, IsTrue}
use Rattle.std.specs.List.{All}
use mathlib.Core.List.{IsPrefix}
use Rattle.std.proofs.lemmas.Bool.Decides.{nat_tests}
use Rattle.std.proofs.lemmas.Bool.{false≢true, or_cases}
use Rattle.std.proofs.lemmas.List.Elements.{All-nil, All-push}
use Rattle.tty_base.specs.declared.characters.Flagged.{Flagged}
use Rattle.tty_base.specs.declared.lines.LineStep.{LineStep}
use Rattle.tty_base.specs.declared.lines.LineStep.TheVariants.{Idle, Unmask}
use Rattle.tty_base.specs.declared.lines.Overrun.{Overrun}
use Rattle.tty_base.specs.Lines.{arrival_count}
use Rattle.word_ring.specs.Ends.{PutterState, TakerState}
use Rattle.word_ring.proofs.Beginnings.{begins_whole}
use Rattle.uart_line.specs.LineState.{LineState}
use Rattle.uart_line.specs.Received.{received_list, closed_script}
use Rattle.uart_line.proofs.Steps.{arrival_count-append}
use Rattle.tty_calls.specs.declared.answers.Denied.{Denied}
use Rattle.tty_calls.specs.declared.answers.Denied.TheVariants.{NoMemory, Full}
use Rattle.tty_calls.specs.declared.journals.Who.TheVariants.{Line}
use Rattle.tty_calls.specs.Plain.{PlainEntry, line_ended}
use Rattle.tty_calls.specs.Sessions.{call_at, counts_on, line_on}
use Rattle.tty_terminal.specs.declared.callers.Piece.{Piece}
use Rattle.tty_terminal.specs.Terminals.{Terminal, caller_at}
use Rattle.tty_terminal.specs.Steps.{follows, Allowed, after, nothing_to_flush}
use Rattle.tty_terminal.specs.Runs.{Leads, KnowsMore, is_flush, chars_of}
use Rattle.tty_terminal.proofs.Runs.{leads_more}
use Rattle.legal_runs.specs.Legal.{phase_at, first_step, script_of_first, received_before, AreInPhases}
use Rattle.port_core.specs.Flips.{MeetsTaker, after_meeting}
use Rattle.port_core.specs.Phases.{EndsLine}
use Rattle.port_core.specs.Ports.{PortValue, IsPort, Denies, call_in, is_stuck, phase_entry}
use Rattle.legal_runs.specs.Order.{Place, cuts_in, cuts_after, due, front_to_flush, turn_after, is_after_flush, IsInTurn}
use Rattle.legal_runs.specs.Order.{first_place}
use Rattle.play_base.specs.Roles.{Scene}
use Rattle.play_base.specs.Scenes.{HasAnyOrder, IsOfSceneIn, BeginsRun, RunsBelow, caller_at_rest, place_of}
use Rattle.one_thread.specs.Stages.{IsAfterLineIn}
use Rattle.play_base.specs.Putting.{HasPut, SeesIn, SeesFrom}
use Rattle.play_base.specs.Beginning.{IsAtPhaseIn}
use Rattle.one_thread.specs.Lines.{PlaysLineIn, StopsInLineIn, StopsLineIn}
use Rattle.one_thread.specs.LineInside.{LineStart, steps_before, steps_of, IsInLine, HasFlushedAll, IsBetweenSteps}
use Rattle.one_thread.specs.LineInside.{DeniesCut, LineAt, line_at, IsLineBetween, PlaysSteps, StopsSteps}
use Rattle.one_thread.specs.LineInside.{StandsBefore}
use Rattle.one_thread.proofs.LineLists.{no_cut_left}
use Rattle.play_base.proofs.Refusals.{All_later, overruns_see_most}
use Rattle.legal_runs.proofs.Places.{in_phases_more, place_more, turns_more}
use Rattle.one_thread.proofs.AfterLine.{run_of_port}
use Rattle.one_thread.proofs.Entries.{place_is}
use Rattle.one_thread.proofs.LineTurns.{front_stuck, front_of_none, due_at, line_in_turn}
use Rattle.one_thread.proofs.LineSteps.{place_is_after, in_line_met, in_line_heard, StepsTo, in_line_steps}
use Rattle.play_base.proofs.Meetings.{sent_met, knows_met, has_put_met, has_put_at}
use Rattle.legal_runs.proofs.LineLemmas.{first_more}

same_number : (m n : ℕ) → (m == n) ≡ true → m ≡ n
same_number m n h = grind (arith, nat_tests)

-- ---- the beginning

-- where the line begins
abbrev pub start_of : Scene → PortValue → LineState → LineStart
start_of s v line = record { scene = s; phase = v.terminal.phase; port = v; line = line }

module _ (s : Scene) (v : PortValue) (putter met : PutterState Flagged) (line : LineState) (run : ℕ)
    (a : IsAtPhaseIn HasAnyOrder s v.terminal.phase v putter line run)
    (within : v.terminal.phase < length s.session.phases) (taken : v.terminal.taken ≡ length v.flip.taken)
    (meets : MeetsTaker v.flip putter met) where
  in_line_first : IsInLine (start_of s v line) v putter line []
  in_line_first = record {
    of_scene = a.of_scene;
    within = within;
    phase = refl;
    line_over = a.line_over;
    clock_over = a.clock_over;
    callers = a.callers;
    flushes = [];
    added = sym (append-nil v.journal);
    leads = refl;
    in_turn = tt;
    inside = refl;
    no_end = refl;
    kept = refl;
    tick = refl;
    sent = omega (arith, a.sent);
    ring = refl;
    capacity = refl;
    some_room = a.some_room;
    has_put = subst (λ (l : List LineStep). HasPut v putter line l)
        (sym (append-nil (script_of_first s.port s.session v.terminal.phase))) a.has_put;
    most = refl;
    arrived = omega arith;
  }

  open_first : (v.terminal.taken == v.terminal.sent) ≡ true → HasFlushedAll (start_of s v line) v met [] []
  open_first h =
      let sent : met.sent ≡ putter.sent = sent_met v.flip putter met meets in
      let same : v.terminal.taken ≡ v.terminal.sent = same_number v.terminal.taken v.terminal.sent h in
      record {
        all = begins_whole v.flip.taken putter.sent meets.begins (omega (arith, same, taken, a.sent)) ∙ sym sent;
        cuts = a.cuts;
        none = refl;
      }

  open_or_stuck_first : (nothing_to_flush v.terminal ≡ true)
      → HasFlushedAll (start_of s v line) v met [] [] ⊎ (is_stuck v.terminal ≡ true)
  open_or_stuck_first h = elim (or_cases (v.terminal.taken == v.terminal.sent) (is_stuck v.terminal) h)
      [ inl all ↦ inl (open_first all) | inr stuck ↦ inr stuck ]

  pub begins_line : IsBetweenSteps (start_of s v line) (record v { flip = after_meeting v.flip putter }) met line [] run
  begins_line =
      let before = script_of_first s.port s.session v.terminal.phase in
      let here : received_before s.port s.session v.terminal.phase ≤ length (received_list (before ++ [])) =
      omega (arith, ap (λ (l : List LineStep). length (received_list l)) (append-nil before)) in
      record {
        in_line = in_line_met (start_of s v line) v putter met line [] in_line_first meets;
        begins_run = record { follows = a.begins_run.follows; below = a.begins_run.below; few = a.begins_run.few };
        knows = knows_met v.flip putter met meets;
        begins = subst (λ (xs : List Flagged). IsPrefix v.flip.taken xs) (sym (sent_met v.flip putter met meets))
            meets.begins;
        overruns = [];
        more_overruns = sym (append-nil line.report.overruns.items);
        floor = here;
        seen = All-nil (SeesFrom (received_before s.port s.session v.terminal.phase)
            (length (received_list (before ++ []))) (length v.flip.taken));
        open_or_stuck = elim (open_or_stuck_first a.rest) [
          | inl c ↦ inl (record { all = c.all; cuts = c.cuts; none = c.none })
          | inr stuck ↦ inr stuck
        ];
      }

  -- from there on
  module _ (steps : List LineStep) (is : steps ≡ line_on s.port (phase_at s.session v.terminal.phase))
      (at_start : PortValue) (start_is : at_start ≡ record v { flip = after_meeting v.flip putter }) where
    script_is : steps_of (start_of s v line) ≡ [] ++ (closed_script steps ++ [])
    script_is = ap closed_script (sym is) ∙ sym (append-nil (closed_script steps))

    begins : IsBetweenSteps (start_of s v line) at_start met line [] run
    begins = subst (λ (x : PortValue). IsBetweenSteps (start_of s v line) x met line [] run) (sym start_is) begins_line

    pub stands_at_start : line.report.arrived + arrival_count steps ≤ line.most
        → StandsBefore (closed_script steps) (line_at at_start met line) run
    stands_at_start room = record {
      b = start_of s v line;
      done = [];
      left = [];
      script = script_is;
      between = begins;
      room = omega (arith, room, arrival_count-append steps (Unmask ∷ Idle 4 ∷ []));
    }

    pub plays_all : (new : LineAt) (later : ℕ)
        → PlaysSteps (closed_script steps) (line_at at_start met line) new run later
        → IsLineBetween (start_of s v line) new (steps_of (start_of s v line)) later
    plays_all new later p =
        subst (λ (l : List LineStep). IsLineBetween (start_of s v line) new (closed_script l) later) is
        (p.each (start_of s v line) [] [] script_is begins)

    pub stops_all : (d : Denied) (new : LineAt)
        → StopsSteps d (closed_script steps) (line_at at_start met line) new run
        → StopsLineIn HasAnyOrder d s v.terminal.phase v new.port new.putter new.line
    stops_all d new h = h.each (start_of s v line) [] [] script_is begins

-- ---- a full journal

stops_in_line : (b : LineStart) (v : PortValue) (putter : PutterState Flagged) (line : LineState)
    (steps left : List LineStep)
    → steps_of b ≡ steps ++ left
    → IsInLine b v putter line steps
    → length v.journal ≡ v.limit
    → StopsInLineIn HasAnyOrder b.scene b.phase b.port v putter line
stops_in_line b v putter line steps left script i full = record {
  of_scene = i.of_scene;
  part = i.flushes;
  added = i.added;
  leads = i.leads;
  in_turn = i.in_turn;
  inside = i.inside;
  no_end = i.no_end;
  line_over = i.line_over;
  kept = i.kept;
  tick = i.tick;
  full = full ∙ i.of_scene.limit;
  ring = i.ring;
  capacity = i.capacity;
  steps = steps_before b ++ steps;
  left = left;
  script =
      first_more b.scene.port b.scene.session b.phase i.within
      ∙ ap (λ (l : List LineStep). steps_before b ++ l) script
      ∙ sym (append_assoc (steps_before b) steps left);
  has_put = i.has_put;
}

pub stops_denied : (d : Denied) (b : LineStart) (v w : PortValue) (putter : PutterState Flagged) (line : LineState)
    (steps left : List LineStep)
    → steps_of b ≡ steps ++ left
    → IsInLine b v putter line steps
    → Denies d v w
    → StopsLineIn HasAnyOrder d b.scene b.phase b.port w putter line
stops_denied NoMemory b v w putter line steps left script i h = tt
stops_denied Full b v w putter line steps left script i h =
    subst (λ (x : PortValue). StopsInLineIn HasAnyOrder b.scene b.phase b.port x putter line) (sym h.1)
    (stops_in_line b v putter line steps left script i h.0)

-- where the flush at a cut was denied
pub stops_at_cut : (d : Denied) (b : LineStart) (v w : PortValue) (putter now met : PutterState Flagged)
    (line next : LineState) (done left : List LineStep) (step : LineStep)
    → steps_of b ≡ done ++ step ∷ left
    → IsInLine b v putter line done
    → StepsTo putter now line next (steps_before b ++ done) step
    → DeniesCut d v w now met
    → StopsLineIn HasAnyOrder d b.scene b.phase b.port w met next
stops_at_cut d b v w putter now met line next done left step script i st h =
    stops_denied d b (record v { flip = after_meeting v.flip now }) w met next (done ++ step ∷ []) left
    (script ∙ sym (append_assoc done (step ∷ []) left))
    (in_line_heard b v now met next (done ++ step ∷ []) (in_line_steps b v putter now line next done step i st) h.hears)
    h.denies

-- ---- the end

module _ (b : LineStart) (v w : PortValue) (putter now : PutterState Flagged) (line : LineState) (run : ℕ)
    (i : IsBetweenSteps b v putter line (steps_of b) run) (port : IsPort v) (x : EndsLine v w putter now) where
  abbrev end : PlainEntry
  end = phase_entry v Line (line_ended (length putter.sent))

  journal_end : w.journal ≡ v.journal ++ end ∷ []
  journal_end = ap (λ (y : PortValue). y.journal) x.appends.appended

  terminal_end : w.terminal ≡ record v.terminal { sent = length putter.sent; line_over = true }
  terminal_end = ap (λ (y : PortValue). y.terminal) x.appends.appended

  place_at : (place_of b.scene v.journal).terminal ≡ v.terminal
  place_at = place_is b.scene v (run_of_port b.scene v i.in_line.of_scene port)

  none_due : HasFlushedAll b v putter (steps_of b) i.overruns ⊎ (is_stuck v.terminal ≡ true)
      → due b.scene.port b.scene.session (place_of b.scene v.journal) ≡ []
  none_due (inl c) =
      due_at b.scene.port b.scene.session (place_of b.scene v.journal) v.terminal b.phase
      (length (cuts_after (reverse (steps_before b)) (steps_of b))) place_at i.in_line.phase c.cuts
      ∙ ap (λ (xs : List Flagged). front_to_flush v.terminal xs)
      (no_cut_left (cuts_in b.scene.port b.scene.session b.phase)
      (length (cuts_after (reverse (steps_before b)) (steps_of b))) refl)
      ∙ front_of_none v.terminal
  none_due (inr stuck) =
      due_at b.scene.port b.scene.session (place_of b.scene v.journal) v.terminal b.phase
      (place_of b.scene v.journal).cuts place_at i.in_line.phase refl
      ∙ front_stuck v.terminal
      (get_or (cuts_in b.scene.port b.scene.session b.phase) (place_of b.scene v.journal).cuts []) stuck

  in_turn : IsInTurn b.scene.port b.scene.session (place_of b.scene v.journal) end
  in_turn =
      let phase : (place_of b.scene v.journal).terminal.phase ≡ b.phase =
      ap (λ (t : Terminal). t.phase) place_at ∙ i.in_line.phase in
      line_in_turn b.scene.port b.scene.session (place_of b.scene v.journal) v.terminal.phase v.terminal.generation
      (length putter.sent)
      (subst (λ (k : ℕ). k < length b.scene.session.phases) (sym phase) i.in_line.within)
      (ap (λ (t : Terminal). t.line_over) place_at ∙ i.in_line.line_over) (none_due i.open_or_stuck)

  scene_end : IsOfSceneIn HasAnyOrder b.scene w
  scene_end = record {
    counts = ap (λ (y : PortValue). y.counts) x.appends.appended ∙ i.in_line.of_scene.counts;
    capacity = ap (λ (f : TakerState Flagged). f.capacity) x.flip ∙ i.in_line.of_scene.capacity;
    limit = ap (λ (y : PortValue). y.limit) x.appends.appended ∙ i.in_line.of_scene.limit;
    known = subst (λ ks. KnowsMore (call_in ks) (call_at b.scene.port b.scene.session))
        (sym (ap (λ (y : PortValue). y.kept) x.appends.appended)) i.in_line.of_scene.known;
    in_phases = subst (λ (es : List PlainEntry). AreInPhases b.scene.port b.scene.session 0 es) (sym journal_end)
        (in_phases_more b.scene.port b.scene.session 0 v.journal end i.in_line.of_scene.in_phases tt);
    turns = tt;
  }

  before_is : (place_of b.scene w.journal).before ≡ Some end
  before_is =
      ap (λ (es : List PlainEntry). (place_of b.scene es).before) journal_end
      ∙ ap (λ (p : Place). p.before)
      (place_more (call_at b.scene.port b.scene.session) (first_place b.scene.port b.scene.session) v.journal end)

  run_end : BeginsRun run w
  run_end =
      let few : run ≤ length w.journal =
      omega (arith, i.begins_run.few, ap length journal_end, length-append v.journal (end ∷ [])) in
      record {
        follows = subst (λ (f : Option Piece). IsTrue (follows f run 0))
            (sym (ap (λ (t : Terminal). t.flushed) terminal_end)) i.begins_run.follows;
        below = subst (λ (es : List PlainEntry). RunsBelow run es) (sym journal_end)
            (All-push (λ y. IsTrue (is_flush y.event) → y.step < run) v.journal end i.begins_run.below
            (λ is. absurd (false≢true is)));
        few = few;
      }

  after_end : IsAfterLineIn HasAnyOrder b.scene w run
  after_end =
      let phase : w.terminal.phase ≡ b.phase = ap (λ (t : Terminal). t.phase) terminal_end ∙ i.in_line.phase in
      record {
        of_scene = scene_end;
        within = subst (λ (k : ℕ). k < length b.scene.session.phases) (sym phase) i.in_line.within;
        line = ap (λ (t : Terminal). t.line_over) terminal_end;
        clock = ap (λ (t : Terminal). t.clock_over) terminal_end ∙ i.in_line.clock_over;
        callers = λ c. ap (λ (t : Terminal). caller_at t c) terminal_end
            ∙ subst (λ (k : ℕ). caller_at v.terminal c ≡ caller_at_rest (first_step b.scene.port b.scene.session k c))
            (sym phase) (i.in_line.callers c);
        begins_run = run_end;
        no_part = λ other. ap (λ (e : Option PlainEntry). turn_after e other) before_is;
        no_flush = ap is_after_flush before_is;
      }

  number_seen : length v.flip.taken ≡ length (chars_of (b.port.journal ++ i.in_line.flushes))
  number_seen = ap length (sym port.chars) ∙ ap (λ (es : List PlainEntry). length (chars_of es)) i.in_line.added

  has_put_end : HasPut w now line (script_of_first b.scene.port b.scene.session (b.phase + 1))
  has_put_end =
      subst (λ (l : List LineStep). HasPut w now line l)
      (sym (first_more b.scene.port b.scene.session b.phase i.in_line.within))
      (has_put_at v w now line (steps_before b ++ steps_of b) (ap (λ (f : TakerState Flagged). f.ring) x.flip)
      (ap (λ (f : TakerState Flagged). f.capacity) x.flip)
      (has_put_met v putter now line (steps_before b ++ steps_of b) i.in_line.has_put x.meets))

  -- all overruns of this line have seen what is taken now
  all_see : All (SeesIn b.scene b.phase (length (chars_of (b.port.journal ++ i.in_line.flushes)))) i.overruns
  all_see = λ j d lt.
      let most : All (λ o. o.seen ≤ length v.flip.taken) line.report.overruns.items =
      overruns_see_most w.flip.capacity (length v.flip.taken)
      (received_list (script_of_first b.scene.port b.scene.session (b.phase + 1))) now.sent now.heads
      line.report.overruns.items has_put_end.hands_over x.meets.heads in
      let mine : All (λ o. o.seen ≤ length v.flip.taken) i.overruns =
      All_later (λ o. o.seen ≤ length v.flip.taken) b.line.report.overruns.items i.overruns
      (subst (λ (os : List Overrun). All (λ o. o.seen ≤ length v.flip.taken) os) i.more_overruns most) in
      let low = i.seen j d lt in
      let high = mine j d lt in
      let reach : length (received_list (steps_before b ++ steps_of b))
      ≡ received_before b.scene.port b.scene.session (b.phase + 1) =
      ap (λ (l : List LineStep). length (received_list l))
      (sym (first_more b.scene.port b.scene.session b.phase i.in_line.within)) in
      record {
        from = low.from;
        below = omega (arith, low.below, reach);
        sees = omega (arith, low.sees, high, number_seen);
      }

  pub line_ends : PlaysLineIn HasAnyOrder b.scene b.phase b.port w now b.line line run
  line_ends =
      let sent : now.sent ≡ putter.sent = sent_met v.flip putter now x.meets in
      let p = b.scene.port in
      let session = b.scene.session in
      let allowed : Allowed (call_at p session) (counts_on p session) v.terminal end = x.appends.allowed in
      let leads : Leads (call_at p session) (counts_on p session) b.port.terminal (i.in_line.flushes ++ end ∷ [])
      (after (call_at p session) v.terminal end) =
      leads_more (call_at p session) (counts_on p session) b.port.terminal
      i.in_line.flushes v.terminal end i.in_line.leads allowed in
      record {
        after_line = after_end;
        phase = ap (λ (t : Terminal). t.phase) terminal_end ∙ i.in_line.phase;
        flushes = i.in_line.flushes;
        last = end;
        added =
            journal_end
            ∙ ap (λ (es : List PlainEntry). es ++ end ∷ []) i.in_line.added
            ∙ append_assoc b.port.journal i.in_line.flushes (end ∷ []);
        leads = subst (λ (u : Terminal).
            Leads (call_at p session) (counts_on p session) b.port.terminal (i.in_line.flushes ++ end ∷ []) u)
            (sym terminal_end) leads;
        in_turn = turns_more p session (place_of b.scene b.port.journal) i.in_line.flushes end i.in_line.in_turn
            (subst (λ (x : Place). IsInTurn p session x end) (place_is_after b v putter line (steps_of b) i.in_line)
            in_turn);
        inside = i.in_line.inside;
        no_end = i.in_line.no_end;
        kept = ap (λ (y : PortValue). y.kept) x.appends.appended ∙ i.in_line.kept;
        ends = ap (λ (xs : List Flagged). line_ended (length xs)) (sym sent);
        tick = ap (λ (t : Terminal). t.tick) terminal_end ∙ i.in_line.tick;
        sent = ap (λ (t : Terminal). t.sent) terminal_end ∙ ap length (sym sent);
        has_put = has_put_end;
        ring = ap (λ (f : TakerState Flagged). f.ring) x.flip ∙ i.in_line.ring;
        capacity = ap (λ (f : TakerState Flagged). f.capacity) x.flip ∙ i.in_line.capacity;
        most = i.in_line.most;
        overruns = i.overruns;
        more_overruns = i.more_overruns;
        seen = all_see;
      }
