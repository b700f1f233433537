-- A step, and the steps of a whole window, of which the last alone hands over, with the flush that follows.
use Rattle.std.proofs.Common.{◌≡◌, ℕ, suc, zero, ◌+◌, ◌-◌, min, ◌<◌, ◌≤◌, List, [], ◌∷◌, ◌++◌}
use Rattle.std.proofs.Common.{length, take, drop, get_or, reverse, refl, sym, ◌∙◌, ap, subst}
use Rattle.std.proofs.Common.{arith, append_assoc, append-nil, length-append, ◌⊎◌, inl, inr}
use Rattle.std.specs.List.Sorted.{IsNonDecreasing}
use Rattle.std.specs.List.{All}
use Rattle.std.specs.Prelude.{Result, Ok, Err, IfOk, IfErr}
use Rattle.std.proofs.lemmas.Bool.{cases_lt}
use Rattle.std.proofs.lemmas.List.{length-map, take_all, take_more, take-append-drop}
use Rattle.tty_base.specs.Sizes.{MOST_SENT, PIECE}
use Rattle.tty_base.specs.declared.characters.Flag.TheVariants.{Normal}
use Rattle.tty_base.specs.declared.characters.Flagged.{Flagged}
use Rattle.tty_base.specs.declared.lines.LineStep.{LineStep}
use Rattle.tty_base.specs.declared.lines.LineStep.TheVariants.{Rx}
use Rattle.tty_base.specs.Lines.{arrival_count}
use Rattle.line_steps.specs.Steps.{rx_step}
use Rattle.tty_base.specs.Characters.{good_character, good_characters}
use Rattle.word_ring.specs.Ends.{PutterState}
use Rattle.word_ring.specs.Names.{name_of}
use Rattle.uart_line.specs.GoodSteps.{good_steps}
use Rattle.uart_line.specs.LineState.{LineState, HasDone, IsUncut}
use Rattle.uart_line.specs.Received.{received_list}
use Rattle.uart_line.specs.Offered.{HandsOver, appended_list}
use Rattle.uart_line.proofs.Steps.{arrival_count-append, arrival_count-take}
use Rattle.tty_calls.specs.declared.answers.Denied.{Denied}
use Rattle.legal_runs.specs.Legal.{received_before}
use Rattle.port_core.specs.declared.ports.flushing.Flushed.{Flushed}
use Rattle.port_core.specs.Flips.{after_meeting}
use Rattle.port_core.specs.Flushes.{Flushes}
use Rattle.port_core.specs.Given.{with_put, with_pushed, FlushesGiven, DeniesGiven}
use Rattle.port_core.specs.Ports.{PortValue, IsPort}
use Rattle.legal_runs.specs.Order.{cuts_after}
use Rattle.play_base.specs.Scenes.{HasAnyOrder}
use Rattle.play_base.specs.Putting.{HasPut, SeesFrom}
use Rattle.one_thread.specs.Lines.{StopsLineIn}
use Rattle.one_thread.specs.LineInside.{LineStart, steps_before, steps_of, IsInLine, IsBetweenSteps, FlushesSince}
use Rattle.one_thread.specs.LineInside.{DeniesCut, line_at, PlaysSteps, StopsSteps, DoesSteps, run_after}
use Rattle.one_thread.proofs.LineLists.{handed_list, handed_is, no_cut, cuts_same}
use Rattle.one_thread.proofs.LineSteps.{StepsTo}
use Rattle.one_thread.proofs.LineCuts.{step_rests, step_flushes}
use Rattle.one_thread.proofs.LineEnds.{stops_at_cut}
use Rattle.one_thread.proofs.LineLoop.{arrival_count-taken, stops_early}

-- where no more are put, as many are as before
none_put : (putter now : PutterState Flagged) (line next : LineState) (before : List LineStep) (step : LineStep)
    → StepsTo putter now line next before step
    → length now.sent ≤ length putter.sent
    → length now.sent ≡ length putter.sent
none_put putter now line next before step st none =
    omega (
      arith,
      none,
      ap length st.hands_over.offers.appends_rest,
      length-append putter.sent (appended_list st.hands_over.list st.hands_over.offers.answers),
    )

module _ (b : LineStart) (v : PortValue) (putter now : PutterState Flagged) (line next : LineState)
    (done left : List LineStep) (step : LineStep) (run : ℕ) (script : steps_of b ≡ done ++ step ∷ left)
    (i : IsBetweenSteps b v putter line done run) (st : StepsTo putter now line next (steps_before b ++ done) step)
    (w : PortValue) (after : PutterState Flagged) (later : ℕ)
    (f : FlushesSince (length putter.sent) v w now after run later) where
  either : (length putter.sent < length now.sent) ⊎ (length now.sent ≤ length putter.sent)
      → IsBetweenSteps b w after next (done ++ step ∷ []) later
  either (inl some) =
      step_flushes b v putter now line next done left step run script i st w after
      (min (length now.sent - length putter.sent) PIECE) later
      refl (omega (arith, some)) (f.some some)
  either (inr none) =
      let same = f.none none in
      rw (same.0, same.1, same.2) (step_rests b v putter now line next done left step run script i st
      (none_put putter now line next (steps_before b ++ done) step st none))

  -- a step, and the flush of what it has put
  pub step_flushed : IsBetweenSteps b w after next (done ++ step ∷ []) later
  step_flushed = either (cases_lt (length putter.sent) (length now.sent))

-- what a read past the end would give
abbrev pub nothing : LineStep
nothing = Rx (record { byte = 0; flag = Normal })

-- what the first `n` of these steps come to
pub record WindowTo (putter now : PutterState Flagged) (line next : LineState) (before steps : List LineStep)
    (n : ℕ) : Type 0 where
  pub some : 0 < n
  pub within : n ≤ length steps
  pub done : HasDone next (before ++ take n steps)
  pub uncut : (k : ℕ) → k < n → IsUncut line before (take k steps)
  pub hands_over : HandsOver putter.capacity (received_list before) (received_list (before ++ take n steps)) putter.sent
      now.sent putter.heads now.heads line.report.overruns.items next.report.overruns.items
  pub capacity : now.capacity ≡ putter.capacity
  pub name : name_of now.ring ≡ name_of putter.ring
  pub room : next.most ≤ (MOST_SENT - length now.sent) + next.handed
  pub rise : IsNonDecreasing putter.heads → IsNonDecreasing now.heads
  pub most : next.most ≡ line.most
  pub arrived : next.report.arrived ≡ line.report.arrived + arrival_count (take n steps)

module _ (b : LineStart) (v : PortValue) (putter : PutterState Flagged) (line : LineState) (done steps : List LineStep)
    (run n : ℕ) (i : IsBetweenSteps b v putter line done run) (within : n ≤ length steps)
    (uncut : (k : ℕ) → k < n → IsUncut line (steps_before b ++ done) (take k steps)) where
  same_at : (k : ℕ)
      → k < n
      → received_list (steps_before b ++ (done ++ take k steps)) ≡ received_list (steps_before b ++ done)
  same_at k lt = ap received_list (sym (append_assoc (steps_before b) done (take k steps))) ∙ (uncut k lt).same

  taken_more : (k : ℕ)
      → k < length steps
      → done ++ take (k + 1) steps ≡ (done ++ take k steps) ++ get_or steps k nothing ∷ []
  taken_more k lt =
      ap (λ (l : List LineStep). done ++ l) (take_more steps k nothing lt)
      ∙ sym (append_assoc done (take k steps) (get_or steps k nothing ∷ []))

  cuts_next : (k : ℕ)
      → k + 1 < n
      → length (cuts_after (reverse (steps_before b)) (done ++ take (k + 1) steps))
      ≡ length (cuts_after (reverse (steps_before b)) (done ++ take k steps))
  cuts_next k lt =
      let step = get_or steps k nothing in
      let before = steps_before b ++ (done ++ take k steps) in
      let more : done ++ take (k + 1) steps ≡ (done ++ take k steps) ++ step ∷ [] = taken_more k (omega arith) in
      let same : received_list (before ++ step ∷ []) ≡ received_list before ++ [] =
      ap received_list (append_assoc (steps_before b) (done ++ take k steps) (step ∷ [])
      ∙ ap (λ (l : List LineStep). steps_before b ++ l) (sym more))
      ∙ same_at (k + 1) lt ∙ sym (same_at k (omega arith)) ∙ sym (append-nil (received_list before)) in
      let none : length (handed_list before step) ≡ 0 = ap length (sym (handed_is before step [] same)) in
      ap (λ (l : List LineStep). length (cuts_after (reverse (steps_before b)) l)) more
      ∙ cuts_same (steps_before b) (done ++ take k steps) step (no_cut before step none)

  cuts_at : (k : ℕ)
      → k < n
      → length (cuts_after (reverse (steps_before b)) (done ++ take k steps))
      ≡ length (cuts_after (reverse (steps_before b)) done)
  cuts_at zero lt = ap (λ (l : List LineStep). length (cuts_after (reverse (steps_before b)) l)) (append-nil done)
  cuts_at (suc k) lt =
      let next : suc k ≡ k + 1 = omega arith in
      ap (λ (m : ℕ). length (cuts_after (reverse (steps_before b)) (done ++ take m steps))) next
      ∙ cuts_next k (omega arith) ∙ cuts_at k (omega arith)

  module _ (k : ℕ) (lt : k < n) where
    abbrev u : IsUncut line (steps_before b ++ done) (take k steps)
    u = uncut k lt

    abbrev here : List LineStep
    here = steps_before b ++ (done ++ take k steps)

    has_put_there : HasPut v putter u.there here
    has_put_there = record {
      ring = i.in_line.has_put.ring;
      capacity = i.in_line.has_put.capacity;
      done = subst (HasDone u.there) (append_assoc (steps_before b) done (take k steps)) u.done;
      hands_over = rw (same_at k lt, u.overruns) i.in_line.has_put.hands_over;
      room = omega (arith, i.in_line.has_put.room, u.most, u.handed);
    }

    in_line_there : IsInLine b v putter u.there (done ++ take k steps)
    in_line_there = record {
      of_scene = i.in_line.of_scene;
      within = i.in_line.within;
      phase = i.in_line.phase;
      line_over = i.in_line.line_over;
      clock_over = i.in_line.clock_over;
      callers = i.in_line.callers;
      flushes = i.in_line.flushes;
      added = i.in_line.added;
      leads = i.in_line.leads;
      in_turn = i.in_line.in_turn;
      inside = i.in_line.inside;
      no_end = i.in_line.no_end;
      kept = i.in_line.kept;
      tick = i.in_line.tick;
      sent = i.in_line.sent;
      ring = i.in_line.ring;
      capacity = i.in_line.capacity;
      some_room = i.in_line.some_room;
      has_put = has_put_there;
      most = u.most ∙ i.in_line.most;
      arrived = omega (arith, u.arrived, i.in_line.arrived, arrival_count-append done (take k steps));
    }

    -- the line has gone on alone
    pub goes_on : IsBetweenSteps b v putter u.there (done ++ take k steps) run
    goes_on =
        let place : length (received_list here) ≡ length (received_list (steps_before b ++ done)) =
        ap length (same_at k lt) in
        record {
          in_line = in_line_there;
          begins_run = i.begins_run;
          knows = i.knows;
          begins = i.begins;
          overruns = i.overruns;
          more_overruns = ap (λ o. o.items) u.overruns ∙ i.more_overruns;
          floor = omega (arith, i.floor, place);
          seen = subst (λ (m : ℕ).
              All (SeesFrom (received_before b.scene.port b.scene.session b.phase) m (length v.flip.taken)) i.overruns)
              (sym place) i.seen;
          open_or_stuck = elim i.open_or_stuck [
            | inl c ↦ inl (record { all = c.all; cuts = c.cuts ∙ sym (cuts_at k lt); none = c.none })
            | inr stuck ↦ inr stuck
          ];
        }

module _ (b : LineStart) (v : PortValue) (putter now : PutterState Flagged) (line next : LineState)
    (done steps left : List LineStep) (run n : ℕ) (script : steps_of b ≡ done ++ (take n steps ++ left))
    (i : IsBetweenSteps b v putter line done run)
    (to : WindowTo putter now line next (steps_before b ++ done) steps n) where
  abbrev k : ℕ
  k = n - 1

  last_is : n ≡ k + 1
  last_is = omega (arith, to.some)

  last_below : k < n
  last_below = omega (arith, to.some)

  last_inside : k < length steps
  last_inside = omega (arith, to.some, to.within)

  abbrev step : LineStep
  step = get_or steps k nothing

  abbrev front : List LineStep
  front = done ++ take k steps

  abbrev there : LineState
  there = (to.uncut k last_below).there

  whole : done ++ take n steps ≡ front ++ step ∷ []
  whole =
      ap (λ (m : ℕ). done ++ take m steps) last_is
      ∙ taken_more b v putter line done steps run n i to.within to.uncut k last_inside

  all_before : (steps_before b ++ done) ++ take n steps ≡ (steps_before b ++ front) ++ step ∷ []
  all_before =
      append_assoc (steps_before b) done (take n steps) ∙ ap (λ (l : List LineStep). steps_before b ++ l) whole
      ∙ sym (append_assoc (steps_before b) front (step ∷ []))

  at_last : IsBetweenSteps b v putter there front run
  at_last = goes_on b v putter line done steps run n i to.within to.uncut k last_below

  last_script : steps_of b ≡ front ++ step ∷ left
  last_script =
      script ∙ sym (append_assoc done (take n steps) left)
      ∙ ap (λ (l : List LineStep). l ++ left) whole ∙ append_assoc front (step ∷ []) left

  steps_to : StepsTo putter now there next (steps_before b ++ front) step
  steps_to =
      let u = to.uncut k last_below in
      let same : received_list (steps_before b ++ front) ≡ received_list (steps_before b ++ done) =
      same_at b v putter line done steps run n i to.within to.uncut k last_below in
      record {
        done = subst (HasDone next) all_before to.done;
        hands_over = rw (same, ← all_before, u.overruns) to.hands_over;
        capacity = to.capacity;
        name = to.name;
        room = to.room;
        rise = to.rise;
        most = to.most ∙ sym u.most;
        arrived = omega (
          arith,
          to.arrived,
          u.arrived,
          ap (λ (m : ℕ). arrival_count (take m steps)) last_is,
          arrival_count-take steps k nothing last_inside,
        );
      }

  window_flushed : (w : PortValue) (after : PutterState Flagged) (later : ℕ)
      → FlushesSince (length putter.sent) v w now after run later
      → IsBetweenSteps b w after next (done ++ take n steps) later
  window_flushed w after later f =
      subst (λ (l : List LineStep). IsBetweenSteps b w after next l later) (sym whole)
      (step_flushed b v putter now there next front left step run last_script at_last steps_to w after later f)

  window_stopped : (d : Denied) (w : PortValue) (met : PutterState Flagged)
      → DeniesCut d v w now met
      → StopsLineIn HasAnyOrder d b.scene b.phase b.port w met next
  window_stopped d w met h =
      stops_at_cut d b v w putter now met there next front left step last_script at_last.in_line steps_to h

-- ---- with the flush that follows

module _ (v : PortValue) (putter now : PutterState Flagged) (line next : LineState) (step : LineStep) (run : ℕ)
    (st : (before : List LineStep) → HasDone line before → StepsTo putter now line next before step) where
  pub step_plays : (w : PortValue) (after : PutterState Flagged) (later : ℕ)
      → FlushesSince (length putter.sent) v w now after run later
      → PlaysSteps (step ∷ []) (line_at v putter line) (line_at w after next) run later
  step_plays w after later f = record {
    each = λ b done left script i.
        step_flushed b v putter now line next done left step run script i
        (st (steps_before b ++ done) i.in_line.has_put.done) w after later f;
  }

  pub step_stops : (d : Denied) (w : PortValue) (met : PutterState Flagged)
      → DeniesCut d v w now met
      → StopsSteps d (step ∷ []) (line_at v putter line) (line_at w met next) run
  step_stops d w met h = record {
    each = λ b done left script i.
        stops_at_cut d b v w putter now met line next done left step script i.in_line
        (st (steps_before b ++ done) i.in_line.has_put.done) h;
  }

  pub step_does : (before : ℕ)
      → before ≡ length putter.sent
      → (w : PortValue) (after : PutterState Flagged) (result : Result ℕ Denied)
      → IfOk result (λ later. FlushesSince before v w now after run later)
      → IfErr result (λ d. DeniesCut d v w now after)
      → DoesSteps (step ∷ []) (line_at v putter line) (line_at w after next) run result
  step_does before is w after (Ok later) f h =
      step_plays w after later (subst (λ (n : ℕ). FlushesSince n v w now after run later) is f)
  step_does before is w after (Err d) f h = step_stops d w after h

module _ (v : PortValue) (putter now : PutterState Flagged) (line next : LineState) (steps : List LineStep) (run n : ℕ)
    (to : (before : List LineStep) → HasDone line before → WindowTo putter now line next before steps n) where
  pub window_plays : (w : PortValue) (after : PutterState Flagged) (later : ℕ)
      → FlushesSince (length putter.sent) v w now after run later
      → PlaysSteps (take n steps) (line_at v putter line) (line_at w after next) run later
  window_plays w after later f = record {
    each = λ b done left script i.
        window_flushed b v putter now line next done steps left run n script i
        (to (steps_before b ++ done) i.in_line.has_put.done) w after later f;
  }

  pub window_stops : (d : Denied) (w : PortValue) (met : PutterState Flagged)
      → DeniesCut d v w now met
      → StopsSteps d steps (line_at v putter line) (line_at w met next) run
  window_stops d w met h =
      subst (λ (l : List LineStep). StopsSteps d l (line_at v putter line) (line_at w met next) run)
      (take-append-drop n steps)
      (stops_early d (take n steps) (drop n steps) (line_at v putter line) (line_at w met next) run (record {
        each = λ b done left script i.
            window_stopped b v putter now line next done steps left run n script i
            (to (steps_before b ++ done) i.in_line.has_put.done) d w met h;
      }))

-- ---- a whole window that goes past the flip buffer

-- the line has accepted all of these good characters
pub record ReceivesWindow (line next : LineState) (bytes : List ℕ) : Type 0 where
  pub some : 0 < length bytes
  pub done : (before : List LineStep) → HasDone line before → HasDone next (before ++ good_steps bytes)
  pub uncut : (before : List LineStep)
      → HasDone line before
      → (k : ℕ)
      → k < length bytes
      → IsUncut line before (take k (good_steps bytes))
  pub hands_over : (before : List LineStep)
      → HasDone line before
      → (capacity : ℕ) (sent : List Flagged) (heads : List ℕ)
      → HandsOver capacity (received_list before) (received_list (before ++ good_steps bytes)) sent
      (sent ++ good_characters bytes) heads heads line.report.overruns.items next.report.overruns.items
  pub most : next.most ≡ line.most
  pub arrived : next.report.arrived ≡ line.report.arrived + length bytes
  pub handed : next.handed ≡ line.handed + length bytes
  pub within : next.handed ≤ next.most

module _ (v : PortValue) (putter : PutterState Flagged) (line next : LineState) (bytes : List ℕ) (run : ℕ)
    (a : ReceivesWindow line next bytes) (put : line.most ≤ (MOST_SENT - length putter.sent) + line.handed) where
  abbrev steps : List LineStep
  steps = good_steps bytes

  abbrev chars : List Flagged
  chars = good_characters bytes

  all_steps : take (length bytes) steps ≡ steps
  all_steps = take_all (length bytes) steps (omega (arith, length-map bytes (rx_step Normal)))

  many : length (putter.sent ++ chars) ≡ length putter.sent + length bytes
  many = omega (arith, length-append putter.sent chars, length-map bytes good_character)

  given_to : (before : List LineStep)
      → HasDone line before
      → WindowTo putter (with_put putter chars) line next before steps (length bytes)
  given_to before d = record {
    some = a.some;
    within = omega (arith, length-map bytes (rx_step Normal));
    done = subst (λ (l : List LineStep). HasDone next (before ++ l)) (sym all_steps) (a.done before d);
    uncut = a.uncut before d;
    hands_over = subst (λ (l : List LineStep). HandsOver putter.capacity (received_list before)
        (received_list (before ++ l)) putter.sent (putter.sent ++ chars) putter.heads putter.heads
        line.report.overruns.items next.report.overruns.items)
        (sym all_steps) (a.hands_over before d putter.capacity putter.sent putter.heads);
    capacity = refl;
    name = refl;
    room = omega (arith, put, a.some, a.most, a.handed, a.within, many);
    rise = λ r. r;
    most = a.most;
    arrived = omega (arith, a.arrived, arrival_count-taken bytes (length bytes) (omega arith));
  }

  flushes_given : (w : PortValue) (after : PutterState Flagged) (flushed : Flushed)
      → IsPort v
      → v.terminal.taken ≡ length v.flip.taken
      → length bytes ≤ PIECE
      → FlushesGiven v w putter after run chars flushed
      → FlushesSince (length putter.sent) v w (with_put putter chars) after run (run_after run flushed)
  flushes_given w after flushed port taken few g = record {
    none = λ le. absurd (omega (arith, le, many, a.some));
    some = λ lt. record {
      port = port;
      taken = taken;
      met = with_pushed putter chars;
      hears = refl;
      left = g.left;
      flushed = flushed;
      flushes = subst
          (λ (m : ℕ). Flushes (record v { flip = after_meeting v.flip (with_put putter chars) }) g.left run 0 m flushed)
          (omega (arith, many, few, length-map bytes good_character)) g.flushes;
      next_is = refl;
      new_is = g.new_is;
      meets = g.meets;
    };
  }

  pub window_given : (w : PortValue) (after : PutterState Flagged) (flushed : Flushed)
      → IsPort v
      → v.terminal.taken ≡ length v.flip.taken
      → length bytes ≤ PIECE
      → FlushesGiven v w putter after run chars flushed
      → PlaysSteps steps (line_at v putter line) (line_at w after next) run (run_after run flushed)
  window_given w after flushed port taken few g =
      subst
      (λ (l : List LineStep). PlaysSteps l (line_at v putter line) (line_at w after next) run (run_after run flushed))
      all_steps
      (window_plays v putter (with_put putter chars) line next steps run (length bytes) given_to w after
      (run_after run flushed)
      (flushes_given w after flushed port taken few g))

  pub window_denied : (d : Denied) (w : PortValue) (met : PutterState Flagged)
      → DeniesGiven d v w putter met chars
      → StopsSteps d steps (line_at v putter line) (line_at w met next) run
  window_denied d w met g =
      window_stops v putter (with_put putter chars) line next steps run (length bytes) given_to d w met
      (record { hears = g.hears; denies = g.denies })
