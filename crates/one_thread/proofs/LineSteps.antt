-- What a step of a line, and a flush after it, come to.
use Rattle.std.proofs.Common.{◌≡◌, ℕ, ◌+◌, ◌-◌, ◌<◌, ◌≤◌, Bool, true, false, ◌||◌, ◌&&◌}
use Rattle.std.proofs.Common.{◌==◌, List, [], ◌∷◌, ◌++◌, length, get_or, refl, sym, ◌∙◌, ap, subst}
use Rattle.std.proofs.Common.{arith, append_assoc, length-append, Option, Some, IsTrue}
use Rattle.std.specs.List.{flat_map}
use Rattle.std.specs.List.Sorted.{IsNonDecreasing}
use Rattle.std.proofs.lemmas.Bool.Decides.{nat_tests}
use Rattle.std.proofs.lemmas.List.{flat_map_more}
use Rattle.std.proofs.lemmas.List.Elements.{All-push, All-weaker}
use Rattle.tty_base.specs.Sizes.{LEAST_FLIP, MOST_SENT}
use Rattle.tty_base.specs.declared.characters.Flagged.{Flagged}
use Rattle.tty_base.specs.declared.lines.LineStep.{LineStep}
use Rattle.tty_base.specs.Lines.{arrival}
use Rattle.word_ring.specs.Ends.{PutterState}
use Rattle.word_ring.specs.Names.{name_of}
use Rattle.uart_line.specs.LineState.{LineState, HasDone}
use Rattle.uart_line.specs.Received.{received_list}
use Rattle.uart_line.specs.Offered.{HandsOver, appended_list}
use Rattle.uart_line.proofs.OfferedLemmas.{HandsOver-trans}
use Rattle.uart_line.proofs.Steps.{arrival_count-step}
use Rattle.tty_calls.specs.Plain.{PlainEntry}
use Rattle.tty_calls.specs.Sessions.{call_at, counts_on}
use Rattle.tty_terminal.specs.declared.callers.CallerState.{CallerState}
use Rattle.tty_terminal.specs.declared.callers.Piece.{Piece}
use Rattle.tty_terminal.specs.Terminals.{Terminal, caller_at, idle_caller, live_count}
use Rattle.tty_terminal.specs.Receiving.{accepts, after_character, after_characters}
use Rattle.tty_terminal.specs.Steps.{follows, Allowed, after}
use Rattle.tty_terminal.specs.Runs.{Leads, KnowsMore, is_flush}
use Rattle.tty_terminal.proofs.Runs.{leads_more}
use Rattle.legal_runs.specs.Legal.{session_events, line_ends, AreInPhases}
use Rattle.port_core.specs.Flips.{MeetsTaker, after_meeting}
use Rattle.port_core.specs.Flushes.{Takes}
use Rattle.port_core.specs.Ports.{PortValue, call_in, is_stuck, flush_entry}
use Rattle.legal_runs.specs.Order.{Place, IsInTurn, first_place, place_after}
use Rattle.play_base.specs.Roles.{Scene}
use Rattle.play_base.specs.Scenes.{HasAnyOrder, IsOfSceneIn, BeginsRun, RunsBelow, place_of}
use Rattle.play_base.specs.Putting.{HasPut}
use Rattle.one_thread.specs.LineInside.{LineStart, steps_before, IsInLine, with_all_pushed}
use Rattle.legal_runs.proofs.Places.{in_phases_more, place_more, place_both, turns_more}
use Rattle.legal_runs.proofs.Truths.{if_false}
use Rattle.play_base.proofs.Meetings.{names_tell, sent_met, has_put_met, has_put_at}

-- ---- small facts

pub empty_is : {A : Type 0} (xs : List A) → length xs ≡ 0 → xs ≡ []
empty_is [] h = refl
empty_is (x ∷ xs) h = absurd (omega arith)

or_true : (a : Bool) → (a || true) ≡ true
or_true true = refl
or_true false = refl

pub no_more_of : {A : Type 0} (f : PlainEntry → List A) (es : List PlainEntry) (e : PlainEntry)
    → flat_map f es ≡ []
    → f e ≡ []
    → flat_map f (es ++ e ∷ []) ≡ []
no_more_of f es e h k = sym (flat_map_more f [] es e) ∙ (λ i. h i ++ k i)

-- ---- what a step of the line comes to

pub record StepsTo (putter now : PutterState Flagged) (line next : LineState) (before : List LineStep)
    (step : LineStep) : Type 0 where
  pub done : HasDone next (before ++ step ∷ [])
  pub hands_over : HandsOver putter.capacity (received_list before) (received_list (before ++ step ∷ [])) putter.sent
      now.sent putter.heads now.heads line.report.overruns.items next.report.overruns.items
  pub capacity : now.capacity ≡ putter.capacity
  pub name : name_of now.ring ≡ name_of putter.ring
  pub room : next.most ≤ (MOST_SENT - length now.sent) + next.handed
  pub rise : IsNonDecreasing putter.heads → IsNonDecreasing now.heads
  pub most : next.most ≡ line.most
  pub arrived : next.report.arrived ≡ line.report.arrived + length (arrival step)

has_put_steps : (v : PortValue) (putter now : PutterState Flagged) (line next : LineState) (before : List LineStep)
    (step : LineStep)
    → HasPut v putter line before
    → StepsTo putter now line next before step
    → HasPut v now next (before ++ step ∷ [])
has_put_steps v putter now line next before step h st = record {
  ring = names_tell now.ring putter.ring st.name ∙ h.ring;
  capacity = st.capacity ∙ h.capacity;
  done = st.done;
  hands_over = HandsOver-trans v.flip.capacity [] (received_list before) (received_list (before ++ step ∷ [])) []
      putter.sent now.sent [] putter.heads now.heads [] line.report.overruns.items
      next.report.overruns.items h.hands_over
      (subst (λ (n : ℕ). HandsOver n (received_list before) (received_list (before ++ step ∷ [])) putter.sent now.sent
      putter.heads now.heads line.report.overruns.items next.report.overruns.items) h.capacity st.hands_over);
  room = st.room;
}

pub in_line_steps : (b : LineStart) (v : PortValue) (putter now : PutterState Flagged) (line next : LineState)
    (done : List LineStep) (step : LineStep)
    → IsInLine b v putter line done
    → StepsTo putter now line next (steps_before b ++ done) step
    → IsInLine b v now next (done ++ step ∷ [])
in_line_steps b v putter now line next done step i st =
    let o = st.hands_over.offers in
    let sent : v.terminal.sent ≤ length now.sent =
    omega
    (arith, i.sent, ap length o.appends_rest, length-append putter.sent (appended_list st.hands_over.list o.answers)) in
    let arrived_more = arrival_count-step done step in
    record {
      of_scene = i.of_scene;
      within = i.within;
      phase = i.phase;
      line_over = i.line_over;
      clock_over = i.clock_over;
      callers = i.callers;
      flushes = i.flushes;
      added = i.added;
      leads = i.leads;
      in_turn = i.in_turn;
      inside = i.inside;
      no_end = i.no_end;
      kept = i.kept;
      tick = i.tick;
      sent = sent;
      ring = i.ring;
      capacity = i.capacity;
      some_room = i.some_room;
      has_put = subst (λ (l : List LineStep). HasPut v now next l) (append_assoc (steps_before b) done (step ∷ []))
          (has_put_steps v putter now line next (steps_before b ++ done) step i.has_put st);
      most = st.most ∙ i.most;
      arrived = omega (arith, st.arrived, i.arrived, arrived_more);
    }

-- ---- both ends meet

pub scene_met : (s : Scene) (v : PortValue) (putter : PutterState Flagged)
    → IsOfSceneIn HasAnyOrder s v
    → IsOfSceneIn HasAnyOrder s (record v { flip = after_meeting v.flip putter })
scene_met s v putter o =
    record {
      counts = o.counts;
      capacity = o.capacity;
      limit = o.limit;
      known = o.known;
      in_phases = o.in_phases;
      turns = tt;
    }

pub in_line_met : (b : LineStart) (v : PortValue) (putter now : PutterState Flagged) (line : LineState)
    (steps : List LineStep)
    → IsInLine b v putter line steps
    → MeetsTaker v.flip putter now
    → IsInLine b (record v { flip = after_meeting v.flip putter }) now line steps
in_line_met b v putter now line steps i m = record {
  of_scene = scene_met b.scene v putter i.of_scene;
  within = i.within;
  phase = i.phase;
  line_over = i.line_over;
  clock_over = i.clock_over;
  callers = i.callers;
  flushes = i.flushes;
  added = i.added;
  leads = i.leads;
  in_turn = i.in_turn;
  inside = i.inside;
  no_end = i.no_end;
  kept = i.kept;
  tick = i.tick;
  sent = omega (arith, i.sent, ap length (sent_met v.flip putter now m));
  ring = i.ring;
  capacity = i.capacity;
  some_room = i.some_room;
  has_put = has_put_at v (record v { flip = after_meeting v.flip putter }) now line (steps_before b ++ steps) refl refl
      (has_put_met v putter now line (steps_before b ++ steps) i.has_put m);
  most = i.most;
  arrived = i.arrived;
}

-- the end that takes out was told of all that was put
pub in_line_heard : (b : LineStart) (v : PortValue) (putter now : PutterState Flagged) (line : LineState)
    (steps : List LineStep)
    → IsInLine b v putter line steps
    → now ≡ with_all_pushed putter
    → IsInLine b (record v { flip = after_meeting v.flip putter }) now line steps
in_line_heard b v putter now line steps i heard =
    subst (λ (p : PutterState Flagged). IsInLine b (record v { flip = after_meeting v.flip putter }) p line steps)
    (sym heard)
    (record {
      of_scene = scene_met b.scene v putter i.of_scene;
      within = i.within;
      phase = i.phase;
      line_over = i.line_over;
      clock_over = i.clock_over;
      callers = i.callers;
      flushes = i.flushes;
      added = i.added;
      leads = i.leads;
      in_turn = i.in_turn;
      inside = i.inside;
      no_end = i.no_end;
      kept = i.kept;
      tick = i.tick;
      sent = i.sent;
      ring = i.ring;
      capacity = i.capacity;
      some_room = i.some_room;
      has_put = record {
        ring = i.has_put.ring;
        capacity = i.has_put.capacity;
        done = i.has_put.done;
        hands_over = i.has_put.hands_over;
        room = i.has_put.room;
      };
      most = i.most;
      arrived = i.arrived;
    })

-- ---- a piece is flushed

-- what characters leave of a terminal
record Keeps (t u : Terminal) : Type 0 where
  phase : u.phase ≡ t.phase
  line_over : u.line_over ≡ t.line_over
  clock_over : u.clock_over ≡ t.clock_over
  tick : u.tick ≡ t.tick
  sent : u.sent ≡ t.sent
  callers : u.callers ≡ t.callers

receives_keeps : (t : Terminal) (chars : List Flagged) → Keeps t (after_characters t chars)
receives_keeps t [] =
    record { phase = refl; line_over = refl; clock_over = refl; tick = refl; sent = refl; callers = refl }
receives_keeps t (c ∷ cs) =
    let k = receives_keeps (after_character t c) cs in
    record {
      phase = k.phase;
      line_over = k.line_over;
      clock_over = k.clock_over;
      tick = k.tick;
      sent = k.sent;
      callers = k.callers;
    }

-- where the journal stands, from where the line began
pub place_is_after : (b : LineStart) (v : PortValue) (putter : PutterState Flagged) (line : LineState)
    (steps : List LineStep) (i : IsInLine b v putter line steps)
    → place_of b.scene v.journal
    ≡ place_after (call_at b.scene.port b.scene.session) (place_of b.scene b.port.journal) i.flushes
place_is_after b v putter line steps i =
    ap (λ (es : List PlainEntry). place_of b.scene es) i.added
    ∙ place_both (call_at b.scene.port b.scene.session) (first_place b.scene.port b.scene.session)
    b.port.journal i.flushes

module _ (b : LineStart) (v w : PortValue) (putter : PutterState Flagged) (line : LineState) (steps : List LineStep)
    (run most n : ℕ) (i : IsInLine b v putter line steps) (takes : Takes v w run 0 most n) where
  pub journal_is : w.journal ≡ v.journal ++ flush_entry v run 0 takes.chars ∷ []
  journal_is = ap (λ (x : PortValue). x.journal) takes.appends.appended

  pub terminal_is : w.terminal
      ≡ record (after_characters v.terminal takes.chars) { flushed = Some (record { run = run; part = 0 }) }
  terminal_is = ap (λ (x : PortValue). x.terminal) takes.appends.appended

  pub in_line_flushed : IsInTurn b.scene.port b.scene.session (place_of b.scene v.journal)
      (flush_entry v run 0 takes.chars)
      → IsInLine b w putter line steps
  in_line_flushed in_turn =
      let e = flush_entry v run 0 takes.chars in
      let k = receives_keeps v.terminal takes.chars in
      let p = b.scene.port in
      let session = b.scene.session in
      let allowed : Allowed (call_at p session) (counts_on p session) v.terminal e = takes.appends.allowed in
      let leads : Leads (call_at p session) (counts_on p session) b.port.terminal (i.flushes ++ e ∷ [])
      (after (call_at p session) v.terminal e) =
      leads_more (call_at p session) (counts_on p session) b.port.terminal i.flushes v.terminal e i.leads allowed in
      record {
        of_scene = record {
          counts = ap (λ (x : PortValue). x.counts) takes.appends.appended ∙ i.of_scene.counts;
          capacity = takes.takes_out.capacity ∙ i.of_scene.capacity;
          limit = ap (λ (x : PortValue). x.limit) takes.appends.appended ∙ i.of_scene.limit;
          known = subst (λ ks. KnowsMore (call_in ks) (call_at p session))
              (sym (ap (λ (x : PortValue). x.kept) takes.appends.appended)) i.of_scene.known;
          in_phases = subst (λ (es : List PlainEntry). AreInPhases p session 0 es) (sym journal_is)
              (in_phases_more p session 0 v.journal e i.of_scene.in_phases tt);
          turns = tt;
        };
        within = i.within;
        phase = ap (λ (t : Terminal). t.phase) terminal_is ∙ k.phase ∙ i.phase;
        line_over = ap (λ (t : Terminal). t.line_over) terminal_is ∙ k.line_over ∙ i.line_over;
        clock_over = ap (λ (t : Terminal). t.clock_over) terminal_is ∙ k.clock_over ∙ i.clock_over;
        callers = λ c.
            ap (λ (t : Terminal). caller_at t c) terminal_is
            ∙ ap (λ (cs : List CallerState). get_or cs c idle_caller) k.callers
            ∙ i.callers c;
        flushes = i.flushes ++ e ∷ [];
        added =
            journal_is
            ∙ ap (λ (es : List PlainEntry). es ++ e ∷ []) i.added
            ∙ append_assoc b.port.journal i.flushes (e ∷ []);
        leads = subst
            (λ (u : Terminal). Leads (call_at p session) (counts_on p session) b.port.terminal (i.flushes ++ e ∷ []) u)
            (sym terminal_is) leads;
        in_turn = turns_more p session (place_of b.scene b.port.journal) i.flushes e i.in_turn
            (subst (λ (x : Place). IsInTurn p session x e) (place_is_after b v putter line steps i) in_turn);
        inside = no_more_of (λ x. session_events x.event) i.flushes e i.inside refl;
        no_end = no_more_of (λ x. line_ends x.event) i.flushes e i.no_end refl;
        kept = ap (λ (x : PortValue). x.kept) takes.appends.appended ∙ i.kept;
        tick = ap (λ (t : Terminal). t.tick) terminal_is ∙ k.tick ∙ i.tick;
        sent =
            subst (λ (m : ℕ). m ≤ length putter.sent) (sym (ap (λ (t : Terminal). t.sent) terminal_is ∙ k.sent)) i.sent;
        ring = takes.takes_out.ring ∙ i.ring;
        capacity = takes.takes_out.capacity ∙ i.capacity;
        some_room = subst (λ (m : ℕ). LEAST_FLIP ≤ m) (sym takes.takes_out.capacity) i.some_room;
        has_put = has_put_at v w putter line (steps_before b ++ steps)
            takes.takes_out.ring takes.takes_out.capacity i.has_put;
        most = i.most;
        arrived = i.arrived;
      }

  next_follows : IsTrue (follows (Some (record { run = run; part = 0 })) (run + 1) 0)
  next_follows =
      let same : (run + 1 == run + 1) ≡ true = grind (arith, nat_tests) in
      rw same (or_true ((run + 1 == run) && (0 == 0 + 1)))

  pub run_flushed : BeginsRun run v → BeginsRun (run + 1) w
  run_flushed r =
      let e = flush_entry v run 0 takes.chars in
      let few : run + 1 ≤ length w.journal =
      omega (arith, r.few, ap length journal_is, length-append v.journal (e ∷ [])) in
      record {
        follows = subst (λ (f : Option Piece). IsTrue (follows f (run + 1) 0))
            (sym (ap (λ (t : Terminal). t.flushed) terminal_is)) next_follows;
        below = subst (λ (es : List PlainEntry). RunsBelow (run + 1) es) (sym journal_is)
            (All-push (λ x. IsTrue (is_flush x.event) → x.step < run + 1) v.journal e
            (All-weaker (λ x. IsTrue (is_flush x.event) → x.step < run)
            (λ x. IsTrue (is_flush x.event) → x.step < run + 1)
            (λ x less is. let below : x.step < run = less is in omega arith) v.journal r.below)
            (λ is. omega arith));
        few = few;
      }

  pub cuts_flushed_is : (place_of b.scene v.journal).terminal ≡ v.terminal
      → (place_of b.scene w.journal).cuts ≡ (place_of b.scene v.journal).cuts + 1
  cuts_flushed_is at =
      let place : Place = place_of b.scene v.journal in
      ap (λ (es : List PlainEntry). (place_of b.scene es).cuts) journal_is
      ∙ ap (λ (s : Place). s.cuts)
      (place_more (call_at b.scene.port b.scene.session) (first_place b.scene.port b.scene.session) v.journal
      (flush_entry v run 0 takes.chars))
      ∙ if_false place.terminal.line_over place.cuts (place.cuts + 1)
      (ap (λ (t : Terminal). t.line_over) at ∙ i.line_over)

  pub stuck_flushed : accepts w.terminal ≡ false → is_stuck w.terminal ≡ true
  stuck_flushed closed = rw closed (or_true (live_count w.terminal == 0))
