-- A step of a line keeps what holds between two steps: where it hands nothing over, and where a flush follows it.
use Rattle.std.proofs.Common.{◌≡◌, ◌⊎◌, ℕ, ◌+◌, ◌-◌, ◌<◌, ◌≤◌, min, true, false, List, [], ◌∷◌, ◌++◌, length, get_or}
use Rattle.std.proofs.Common.{reverse, sym, ◌∙◌, ap, subst, arith, append_assoc, append-nil, length-append, inl, inr}
use Rattle.std.specs.List.{All}
use Rattle.std.specs.List.Sorted.{IsNonDecreasing}
use mathlib.Core.List.{IsPrefix}
use Rattle.std.proofs.lemmas.Bool.{cases_lt}
use Rattle.std.proofs.lemmas.List.{append_cancel_left}
use Rattle.std.proofs.lemmas.List.Elements.{All-nil, All-append, All-weaker}
use Rattle.tty_base.specs.Sizes.{LEAST_FLIP, PIECE}
use Rattle.tty_base.specs.declared.characters.Flagged.{Flagged}
use Rattle.tty_base.specs.declared.lines.LineStep.{LineStep}
use Rattle.tty_base.specs.declared.lines.Overrun.{Overrun}
use Rattle.word_ring.specs.Ends.{PutterState}
use Rattle.word_ring.proofs.Beginnings.{begins_more, begins_through}
use Rattle.uart_line.specs.LineState.{LineState}
use Rattle.uart_line.specs.Received.{received_list}
use Rattle.uart_line.specs.Offered.{appended_list, overrun_list}
use Rattle.tty_terminal.specs.Terminals.{Terminal}
use Rattle.tty_terminal.specs.Receiving.{accepts, after_characters}
use Rattle.legal_runs.specs.Legal.{received_before}
use Rattle.port_core.specs.declared.ports.flushing.Flushed.{Flushed}
use Rattle.port_core.specs.declared.ports.flushing.Flushed.TheVariants.{Took, Nothing}
use Rattle.port_core.specs.Flips.{MeetsTaker, after_meeting, shown_count}
use Rattle.port_core.specs.Flushes.{Flushes, Takes, TakesNone, LooksAtNone}
use Rattle.port_core.specs.Ports.{PortValue, IsPort, is_stuck, flush_entry}
use Rattle.legal_runs.specs.Order.{cuts_in, cuts_after, due, front_to_flush, IsInTurn}
use Rattle.play_base.specs.Scenes.{BeginsRun, place_of}
use Rattle.one_thread.specs.LineInside.{LineStart, steps_before, steps_of, IsInLine, HasFlushedAll, IsBetweenSteps}
use Rattle.one_thread.specs.LineInside.{run_after, with_all_pushed, FlushesCut}
use Rattle.play_base.specs.Putting.{KnowsTaken, SeesFrom}
use Rattle.one_thread.proofs.LineLists.{true_or_false, handed_list, handed_is, handed_few, no_cut, is_cut_here}
use Rattle.one_thread.proofs.LineLists.{cuts_same, cuts_more, cut_is_next, knows_more, none_refused}
use Rattle.play_base.proofs.Refusals.{loaded_since, refusals_see}
use Rattle.one_thread.proofs.AfterLine.{run_of_port}
use Rattle.one_thread.proofs.Entries.{place_is}
use Rattle.one_thread.proofs.LineTurns.{front_taken, front_live, due_at, flush_in_turn}
use Rattle.one_thread.proofs.LineSteps.{empty_is, StepsTo, in_line_steps, in_line_met, in_line_heard, terminal_is}
use Rattle.one_thread.proofs.LineSteps.{in_line_flushed, run_flushed, cuts_flushed_is, stuck_flushed}
use Rattle.play_base.proofs.Meetings.{sent_met, knows_met, not_stuck}
use Rattle.legal_runs.proofs.Truths.{if_false, on_false, on_true}

run_met : (run : ℕ) (v : PortValue) (putter : PutterState Flagged)
    → BeginsRun run v
    → BeginsRun run (record v { flip = after_meeting v.flip putter })
run_met run v putter r = record { follows = r.follows; below = r.below; few = r.few }

module _ (b : LineStart) (v : PortValue) (putter now : PutterState Flagged) (line next : LineState)
    (done left : List LineStep) (step : LineStep) (run : ℕ) (script : steps_of b ≡ done ++ step ∷ left)
    (i : IsBetweenSteps b v putter line done run)
    (st : StepsTo putter now line next (steps_before b ++ done) step) where
  abbrev low : ℕ
  low = received_before b.scene.port b.scene.session b.phase

  abbrev place : ℕ
  place = length (received_list (steps_before b ++ done))

  abbrev high : ℕ
  high = length (received_list (steps_before b ++ (done ++ step ∷ [])))

  -- the overruns of this step
  abbrev refused : List Overrun
  refused = overrun_list place (length putter.sent) st.hands_over.offers.answers

  abbrev cut : List Flagged
  cut = handed_list (steps_before b ++ done) step

  cut_is : st.hands_over.list ≡ cut
  cut_is = handed_is (steps_before b ++ done) step st.hands_over.list st.hands_over.grows

  rises : IsNonDecreasing (putter.heads ++ st.hands_over.offers.loaded)
  rises = subst IsNonDecreasing st.hands_over.offers.loads (st.rise i.knows.rise)

  high_is : high ≡ place + length st.hands_over.list
  high_is =
      ap (λ (l : List LineStep). length (received_list l)) (sym (append_assoc (steps_before b) done (step ∷ [])))
      ∙ ap length st.hands_over.grows ∙ length-append (received_list (steps_before b ++ done)) st.hands_over.list

  knows_now : KnowsTaken (length v.flip.taken) now.heads
  knows_now = subst (KnowsTaken (length v.flip.taken)) (sym st.hands_over.offers.loads)
      (knows_more (length v.flip.taken) putter.heads st.hands_over.offers.loaded i.knows rises)

  begins_now : IsPrefix v.flip.taken now.sent
  begins_now = subst (λ (xs : List Flagged). IsPrefix v.flip.taken xs) (sym st.hands_over.offers.appends_rest)
      (begins_through v.flip.taken putter.sent
      (putter.sent ++ appended_list st.hands_over.list st.hands_over.offers.answers) i.begins
      (begins_more putter.sent (appended_list st.hands_over.list st.hands_over.offers.answers)))

  more_now : next.report.overruns.items ≡ b.line.report.overruns.items ++ (i.overruns ++ refused)
  more_now =
      st.hands_over.offers.adds_refused ∙ ap (λ (os : List Overrun). os ++ refused) i.more_overruns
      ∙ append_assoc b.line.report.overruns.items i.overruns refused

  floor_now : low ≤ high
  floor_now = omega (arith, i.floor, high_is)

  seen_now : All (SeesFrom low high (length v.flip.taken)) (i.overruns ++ refused)
  seen_now =
      let further : place ≤ high = omega (arith, high_is) in
      let reach : place + length st.hands_over.offers.answers ≤ high =
      omega (arith, high_is, st.hands_over.offers.one_each) in
      All-append (SeesFrom low high (length v.flip.taken)) i.overruns refused
      (All-weaker (SeesFrom low place (length v.flip.taken)) (SeesFrom low high (length v.flip.taken))
      (λ o s. record { from = s.from; below = omega (arith, s.below, further); sees = s.sees }) i.overruns i.seen)
      (All-weaker (SeesFrom place high (length v.flip.taken)) (SeesFrom low high (length v.flip.taken))
      (λ o s. record { from = omega (arith, s.from, i.floor); below = s.below; sees = s.sees }) refused
      (refusals_see place high (length v.flip.taken) (length putter.sent) st.hands_over.offers.answers
      st.hands_over.offers.loaded st.hands_over.offers.among_loaded
      (loaded_since (length v.flip.taken) putter.heads st.hands_over.offers.loaded i.knows rises) reach))

  -- where all was taken, all that the step hands over is put
  module _ (c : HasFlushedAll b v putter done i.overruns) where
    all_accepted : (appended_list st.hands_over.list st.hands_over.offers.answers ≡ st.hands_over.list) × (refused ≡ [])
    all_accepted =
        let few : length st.hands_over.list ≤ 17 =
        subst (λ (xs : List Flagged). length xs ≤ 17) (sym cut_is) (handed_few (steps_before b ++ done) step) in
        let room : LEAST_FLIP ≤ putter.capacity =
        subst (λ (n : ℕ). LEAST_FLIP ≤ n) (sym i.in_line.has_put.capacity) i.in_line.some_room in
        let all : length v.flip.taken ≡ length putter.sent = ap length c.all in
        none_refused putter.capacity (length v.flip.taken) place (length putter.sent) st.hands_over.list
        st.hands_over.offers.answers st.hands_over.offers.loaded st.hands_over.offers.one_each
        st.hands_over.offers.is_full st.hands_over.offers.among_loaded
        (loaded_since (length v.flip.taken) putter.heads st.hands_over.offers.loaded i.knows rises) (omega arith)

    sent_now : now.sent ≡ putter.sent ++ cut
    sent_now =
        st.hands_over.offers.appends_rest ∙ ap (λ (xs : List Flagged). putter.sent ++ xs) (all_accepted.0 ∙ cut_is)

    none_now : i.overruns ++ refused ≡ []
    none_now = (λ k. c.none k ++ all_accepted.1 k)

  -- ---- nothing was put

  rests_open : length now.sent ≡ length putter.sent
      → HasFlushedAll b v putter done i.overruns
      → HasFlushedAll b v now (done ++ step ∷ []) (i.overruns ++ refused)
  rests_open same c =
      let sent = sent_now c in
      let none : length cut ≡ 0 = omega (arith, same, ap length sent, length-append putter.sent cut) in
      record {
        all =
            c.all
            ∙ sym (append-nil putter.sent)
            ∙ ap (λ (xs : List Flagged). putter.sent ++ xs) (sym (empty_is cut none))
            ∙ sym sent;
        cuts = c.cuts ∙ sym (cuts_same (steps_before b) done step (no_cut (steps_before b ++ done) step none));
        none = none_now c;
      }

  rests_either : length now.sent ≡ length putter.sent
      → HasFlushedAll b v putter done i.overruns ⊎ (is_stuck v.terminal ≡ true)
      → HasFlushedAll b v now (done ++ step ∷ []) (i.overruns ++ refused) ⊎ (is_stuck v.terminal ≡ true)
  rests_either same (inl c) = inl (rests_open same c)
  rests_either same (inr h) = inr h

  pub step_rests : length now.sent ≡ length putter.sent → IsBetweenSteps b v now next (done ++ step ∷ []) run
  step_rests same = record {
    in_line = in_line_steps b v putter now line next done step i.in_line st;
    begins_run = i.begins_run;
    knows = knows_now;
    begins = begins_now;
    overruns = i.overruns ++ refused;
    more_overruns = more_now;
    floor = floor_now;
    seen = seen_now;
    open_or_stuck = rests_either same i.open_or_stuck;
  }

  -- ---- a flush follows

  module _ (met after : PutterState Flagged) (x : PortValue) (most : ℕ)
      (most_is : most ≡ min (length now.sent - length putter.sent) PIECE) (port : IsPort v)
      (taken : v.terminal.taken ≡ length v.flip.taken) (heard : met ≡ with_all_pushed now)
      (again : MeetsTaker x.flip met after) where
    -- the port when it was told of what was put
    abbrev told : PortValue
    told = record v { flip = after_meeting v.flip now }

    in_line_told : IsInLine b told met next (done ++ step ∷ [])
    in_line_told = in_line_heard b v now met next (done ++ step ∷ [])
        (in_line_steps b v putter now line next done step i.in_line st) heard

    met_sent : met.sent ≡ now.sent
    met_sent = ap (λ (p : PutterState Flagged). p.sent) heard

    after_sent : after.sent ≡ now.sent
    after_sent = sent_met x.flip met after again ∙ met_sent

    begins_after : IsPrefix x.flip.taken after.sent
    begins_after =
        subst (λ (xs : List Flagged). IsPrefix x.flip.taken xs) (sym (sent_met x.flip met after again)) again.begins

    module _ (n : ℕ) (takes : Takes told x run 0 most n) (c : HasFlushedAll b v putter done i.overruns) where
      place_at : (place_of b.scene v.journal).terminal ≡ v.terminal
      place_at = place_is b.scene v (run_of_port b.scene v i.in_line.of_scene port)

      -- what was not taken of the cut
      rest_of : (rest : List Flagged) × (takes.chars ++ rest ≡ cut)
      rest_of = (
        again.begins.0,
        append_cancel_left putter.sent (takes.chars ++ again.begins.0) cut
            (sym (append_assoc putter.sent takes.chars again.begins.0)
            ∙ ap (λ (xs : List Flagged). (xs ++ takes.chars) ++ again.begins.0) (sym c.all)
            ∙ ap (λ (xs : List Flagged). xs ++ again.begins.0) (sym takes.takes_out.taken)
            ∙ again.begins.1 ∙ met_sent ∙ sent_now c),
      )

      count : length takes.chars + length rest_of.0 ≡ length cut
      count = sym (length-append takes.chars rest_of.0) ∙ ap length rest_of.1

      all_or_closed : (rest_of.0 ≡ []) ⊎ (accepts x.terminal ≡ false)
      all_or_closed =
          let few : length cut ≤ 17 = handed_few (steps_before b ++ done) step in
          let number : length takes.chars ≡ n = takes.count in
          let put : length now.sent ≡ length putter.sent + length cut =
          ap length (sent_now c) ∙ length-append putter.sent cut in
          let whole : length v.flip.taken ≡ length putter.sent = ap length c.all in
          let counted : length takes.chars + length rest_of.0 ≡ length cut = count in
          let most_put : most ≡ length cut = omega (arith, most_is) in
          elim (cases_lt n most) [
            | inl early ↦
                elim (takes.stops early) [
                  | inl all ↦
                      let shown : shown_count told.terminal takes.tail ≡ takes.tail - v.terminal.taken =
                      if_false v.terminal.line_over _ (takes.tail - v.terminal.taken) i.in_line.line_over in
                      let tail : length now.sent ≤ takes.tail = omega (arith, takes.looks.rises) in
                      inl (empty_is rest_of.0 (omega arith))
                  | inr closed ↦ inr closed
                ]
            | inr le ↦ inl (empty_is rest_of.0 (omega arith))
          ]

      closed_after : (accepts x.terminal ≡ false) → accepts (after_characters v.terminal takes.chars) ≡ false
      closed_after closed =
          sym (ap accepts (terminal_is b told x met next (done ++ step ∷ []) run most n in_line_told takes)) ∙ closed

      stops_at : (rest_of.0 ≡ []) ⊎ (accepts (after_characters v.terminal takes.chars) ≡ false)
      stops_at = elim all_or_closed [ inl none ↦ inl none | inr closed ↦ inr (closed_after closed) ]

      some_chars : 0 < length takes.chars
      some_chars = omega (arith, takes.some, takes.count)

      cut_made : 0 < length cut
      cut_made = omega (arith, count, some_chars)

      due_is : due b.scene.port b.scene.session (place_of b.scene v.journal) ≡ takes.chars
      due_is =
          let flush = takes.appends.allowed.1.1 in
          let next_one : get_or (cuts_in b.scene.port b.scene.session b.phase)
          (length (cuts_after (reverse (steps_before b)) done)) []
          ≡ takes.chars ++ rest_of.0 =
          ap (λ (l : List LineStep).
          get_or (cuts_after (reverse (steps_before b)) l) (length (cuts_after (reverse (steps_before b)) done)) [])
          script
          ∙ cut_is_next (steps_before b) done step left (is_cut_here (steps_before b ++ done) step cut_made)
          ∙ sym rest_of.1 in
          due_at b.scene.port b.scene.session (place_of b.scene v.journal) v.terminal b.phase
          (length (cuts_after (reverse (steps_before b)) done)) place_at i.in_line.phase c.cuts
          ∙ ap (λ (xs : List Flagged). front_to_flush v.terminal xs) next_one
          ∙ front_live v.terminal (takes.chars ++ rest_of.0) flush.live
          ∙ front_taken v.terminal takes.chars rest_of.0 flush.accepted stops_at

      in_turn : IsInTurn b.scene.port b.scene.session (place_of b.scene v.journal) (flush_entry told run 0 takes.chars)
      in_turn =
          let phase : (place_of b.scene v.journal).terminal.phase ≡ b.phase =
          ap (λ (t : Terminal). t.phase) place_at ∙ i.in_line.phase in
          flush_in_turn b.scene.port b.scene.session (place_of b.scene v.journal) run v.terminal.generation takes.chars
          (subst (λ (k : ℕ). k < length b.scene.session.phases) (sym phase) i.in_line.within)
          (ap (λ (t : Terminal). t.line_over) place_at ∙ i.in_line.line_over) due_is some_chars

      in_line_taken : IsInLine b (record x { flip = after_meeting x.flip met }) after next (done ++ step ∷ [])
      in_line_taken = in_line_met b x met after next (done ++ step ∷ [])
          (in_line_flushed b told x met next (done ++ step ∷ []) run most n in_line_told takes in_turn) again

      taken_open : HasFlushedAll b (record x { flip = after_meeting x.flip met }) after (done ++ step ∷ [])
          (i.overruns ++ refused)
          ⊎ (is_stuck x.terminal ≡ true)
      taken_open = elim all_or_closed [
        | inl none ↦ inl (record {
          all = takes.takes_out.taken ∙ ap (λ (xs : List Flagged). xs ++ takes.chars) c.all
              ∙ ap (λ (xs : List Flagged). putter.sent ++ xs)
              (sym (append-nil takes.chars) ∙ ap (λ (xs : List Flagged). takes.chars ++ xs) (sym none) ∙ rest_of.1)
              ∙ sym (sent_now c) ∙ sym after_sent;
          cuts = cuts_flushed_is b told x met next (done ++ step ∷ []) run most n in_line_told takes place_at
              ∙ ap (λ (m : ℕ). m + 1) c.cuts
              ∙ sym (cuts_more (steps_before b) done step (is_cut_here (steps_before b ++ done) step cut_made));
          none = none_now c;
        })
        | inr closed ↦ inr (stuck_flushed b told x met next (done ++ step ∷ []) run most n in_line_told takes closed)
      ]

      step_takes : IsBetweenSteps b (record x { flip = after_meeting x.flip met }) after next (done ++ step ∷ [])
          (run + 1)
      step_takes = record {
        in_line = in_line_taken;
        begins_run = run_met (run + 1) x met
            (run_flushed b told x met next (done ++ step ∷ []) run most n in_line_told takes
            (run_met run v now i.begins_run));
        knows = knows_met x.flip met after again;
        begins = begins_after;
        overruns = i.overruns ++ refused;
        more_overruns = more_now;
        floor = floor_now;
        seen = subst (λ (os : List Overrun). All (SeesFrom low high (length x.flip.taken)) os) (sym (none_now c))
            (All-nil (SeesFrom low high (length x.flip.taken)));
        open_or_stuck = taken_open;
      }

    -- a port that takes nothing is stuck
    none_is_stuck : length putter.sent < length now.sent
        → TakesNone told x
        → HasFlushedAll b v putter done i.overruns ⊎ (is_stuck v.terminal ≡ true)
        → is_stuck v.terminal ≡ true
    none_is_stuck more takes (inr h) = h
    none_is_stuck more takes (inl c) =
        elim (true_or_false (is_stuck v.terminal)) [
          | inl h ↦ h
          | inr h ↦
              let looks : LooksAtNone told x =
              on_false (is_stuck v.terminal) (x ≡ told) (LooksAtNone told x) h takes.cause in
              let shown : shown_count told.terminal x.flip.floor ≡ x.flip.floor - v.terminal.taken =
              if_false v.terminal.line_over _ (x.flip.floor - v.terminal.taken) i.in_line.line_over in
              let tail : length now.sent ≤ x.flip.floor = omega (arith, looks.looks.rises) in
              let whole : length v.flip.taken ≡ length putter.sent = ap length c.all in
              let none : shown_count told.terminal x.flip.floor ≡ 0 = looks.none in
              absurd (omega arith)
        ]

    step_stays : is_stuck v.terminal ≡ true
        → x ≡ told
        → IsBetweenSteps b (record x { flip = after_meeting x.flip met }) after next (done ++ step ∷ []) run
    step_stays h same =
        let meets_told : MeetsTaker told.flip met after =
        subst (λ (y : PortValue). MeetsTaker y.flip met after) same again in
        let now_in : IsBetweenSteps b (record told { flip = after_meeting told.flip met }) after next
        (done ++ step ∷ []) run = record {
          in_line = in_line_met b told met after next (done ++ step ∷ []) in_line_told meets_told;
          begins_run = run_met run told met (run_met run v now i.begins_run);
          knows = knows_met told.flip met after meets_told;
          begins = subst (λ (xs : List Flagged). IsPrefix v.flip.taken xs) (sym after_sent) begins_now;
          overruns = i.overruns ++ refused;
          more_overruns = more_now;
          floor = floor_now;
          seen = seen_now;
          open_or_stuck = inr h;
        } in
        subst (λ (y : PortValue).
        IsBetweenSteps b (record y { flip = after_meeting y.flip met }) after next (done ++ step ∷ []) run)
        (sym same) now_in

    -- what takes characters is not stuck
    took_open : (n : ℕ)
        → Takes told x run 0 most n
        → HasFlushedAll b v putter done i.overruns ⊎ (is_stuck v.terminal ≡ true)
        → HasFlushedAll b v putter done i.overruns
    took_open n takes (inl c) = c
    took_open n takes (inr h) =
        let flush = takes.appends.allowed.1.1 in
        absurd (not_stuck v.terminal takes.chars flush.live flush.accepted flush.some h)

    step_comes : length putter.sent < length now.sent
        → (flushed : Flushed)
        → Flushes told x run 0 most flushed
        → IsBetweenSteps b (record x { flip = after_meeting x.flip met }) after next (done ++ step ∷ [])
        (run_after run flushed)
    step_comes more (Took n) takes = step_takes n takes (took_open n takes i.open_or_stuck)
    step_comes more Nothing takes =
        let h : is_stuck v.terminal ≡ true = none_is_stuck more takes i.open_or_stuck in
        step_stays h (on_true (is_stuck v.terminal) (x ≡ told) (LooksAtNone told x) h takes.cause)

  pub step_flushes : (w : PortValue) (after : PutterState Flagged) (most later : ℕ)
      → most ≡ min (length now.sent - length putter.sent) PIECE
      → 1 ≤ most
      → FlushesCut v w now after run most later
      → IsBetweenSteps b w after next (done ++ step ∷ []) later
  step_flushes w after most later most_is some f =
      let more : length putter.sent < length now.sent = omega arith in
      let comes : IsBetweenSteps b (record f.left { flip = after_meeting f.left.flip f.met }) after next
      (done ++ step ∷ []) (run_after run f.flushed) =
      step_comes f.met after f.left most most_is f.port f.taken f.hears f.meets more f.flushed f.flushes in
      subst (λ (m : ℕ). IsBetweenSteps b w after next (done ++ step ∷ []) m) (sym f.next_is)
      (subst (λ (y : PortValue). IsBetweenSteps b y after next (done ++ step ∷ []) (run_after run f.flushed))
      (sym f.new_is) comes)
