-- A session that was played, and the port that it agrees with: hung up after all phases, or full.
use Rattle.std.proofs.Common.{◌≡◌, ◌≤◌, inl, inr, ℕ, Bool}
use Rattle.std.proofs.Common.{true, false, List, [], ◌∷◌, ◌++◌, length}
use Rattle.std.proofs.Common.{refl, sym, ap, ◌∙◌, subst, arith, append-nil, length-append}
use Rattle.std.specs.Prelude.{nat_le}
use Rattle.std.proofs.lemmas.Bool.{false≢true}
use Rattle.std.proofs.lemmas.List.{length-map}
use Rattle.tty_base.specs.declared.characters.Flagged.{Flagged}
use Rattle.word_ring.specs.Ends.{PutterState}
use Rattle.uart_line.specs.LineState.{LineState}
use Rattle.tty_base.specs.Sizes.{MOST_ENTRIES}
use Rattle.tty_calls.specs.declared.answers.PortEnd.{PortEnd}
use Rattle.tty_calls.specs.declared.journals.PortRun.{PortRun}
use Rattle.tty_calls.specs.Plain.{PlainEntry}
use Rattle.tty_calls.specs.Sessions.{PlainSession}
use Rattle.tty_terminal.specs.Terminals.{Terminal, has_begun}
use Rattle.tty_terminal.specs.declared.callers.CallerState.{CallerState}
use Rattle.port_core.specs.Ports.{PortValue}
use Rattle.play_base.specs.Roles.{Scene}
use Rattle.play_base.specs.Beginning.{IsAtPhaseIn}
use Rattle.play_base.specs.Phases.{EndsRun, HavePlayedInOrder, IsPortOf, IsFullRun, IsAtEnd}
use Rattle.play_base.specs.Leaving.{EndsJournal}
use Rattle.tty_base.specs.declared.lines.Overrun.{Overrun}
use Rattle.legal_runs.specs.Order.{AllSeeAll, AreInTurn, Place, turn}
use Rattle.play_base.specs.Played.{IsPlayedOn}
use Rattle.play_base.specs.Scenes.{HasAnyOrder, IsOfSceneIn, place_of}
use Rattle.play_base.proofs.PortLemmas.{port_of_scene, at_end_of}
use Rattle.order_laws.proofs.Shapes.{phases_same}
use Rattle.passed_calls.specs.Blocks.{names_on}
use Rattle.passed_calls.specs.Derived.{Passing, by_caller}
use Rattle.passed_calls.specs.Logs.{logged_on}
use Rattle.order_laws.specs.Witness.{scene_on}
use Rattle.order_laws.specs.Sessions.{journal_in}
use Rattle.passed_ports.specs.Ports.{IsSceneOf}
use Rattle.passed_ports.proofs.Played.{like_played, agrees_played, idle_then, later_then, is_later, phases_many}
use Rattle.passed_ports.proofs.Started.{within_of}
use Rattle.modem_text.specs.Events.{ModemLog, events_on}
use Rattle.modem_text.specs.Sessions.{ModemSession, blocks_in}
use Rattle.modem_steps.specs.Derived.{block_phases, passings_on}
use Rattle.modem_steps.specs.Steps.{Port}
use Rattle.modem_steps.specs.Order.{AreEntriesInTurn, goes_on}
use Rattle.modem_one.specs.Desk.{DeskState, step_of, state_at}
use Rattle.modem_one.specs.Played.{port_in, IsLogged, IsLoggedWhole, by_blocks, all_passed}
use Rattle.modem_ports.specs.Ports.{passed_by, IsPortPlayed, IsModemsEnd, IsModemsFull}
use Rattle.modem_ports.proofs.Lines.{place_in}
use Rattle.modem_ports.proofs.Logged.{logged_in}
use Rattle.modem_ports.proofs.Phased.{place_first}
use Rattle.modem_ports.proofs.Casting.{none_is_carrier}
use Rattle.modem_ports.proofs.Whole.{all_answered, all_items, next_is_none}
use Rattle.std.proofs.Common.{◌||◌, not, le-leb, if◌then◌else◌}
use Rattle.modem_steps.specs.Order.{Turn}
use Rattle.port_core.specs.Ports.{hangup_entry}
use Rattle.passed_ports.proofs.Played.{passed_then}
use Rattle.passed_ports.proofs.Started.{zeros_at}
use Rattle.modem_text.specs.Within.{block_phase_of}
use Rattle.modem_one.specs.Later.{port_with}
use Rattle.modem_steps.specs.Steps.{first_state}
use Rattle.modem_derived.proofs.ByEvents.{none_begun}

-- ---- the hangup in its turn

chosen : (a b : Bool) (x y : Turn) → a ≡ true → (if a || b then x else y) ≡ x
chosen true b x y e = refl
chosen false b x y e = absurd (false≢true e)

-- past the last phase the order is that of the session that was played: of one entry at most
one_in_turn : (played : PlainSession) (port : Port) (log : ModemLog) (place : Place) (n : ℕ) (es : List PlainEntry)
    → length es ≤ 1
    → place.terminal.phase ≡ length played.phases
    → AreInTurn port.number played place es
    → AreEntriesInTurn played port log place n es
one_in_turn played port log place n [] few past turns = tt
one_in_turn played port log place n (e ∷ []) few past turns = (
  chosen (nat_le (length played.phases) place.terminal.phase) (not place.terminal.line_over)
      (goes_on (turn port.number played place)) _
      (le-leb (length played.phases) place.terminal.phase (omega (arith, past)))
      ∙ ap goes_on (sym turns.0.by_turn),
  turns.0.piece,
  tt,
)
one_in_turn played port log place n (e ∷ f ∷ es) few past turns = absurd (omega (arith, few))

few_more : (v : PortValue) (journal rest : List PlainEntry)
    → EndsJournal v journal
    → journal ≡ v.journal ++ rest
    → length rest ≤ 1
few_more v journal rest (inl same) added =
    (let a = ap (λ (es : List PlainEntry). length es) same in
    let b = ap (λ (es : List PlainEntry). length es) added ∙ length-append v.journal rest in
    omega (arith, a, b))
few_more v journal rest (inr h) added =
    (let a = ap (λ (es : List PlainEntry). length es) h.1 ∙ length-append v.journal (hangup_entry v h.0 ∷ []) in
    let b = ap (λ (es : List PlainEntry). length es) added ∙ length-append v.journal rest in
    omega (arith, a, b))

-- ---- all phases

-- the log is whole
whole_in : (first : Scene) (session : ModemSession) (played : PlainSession) (v : PortValue)
    (putter : PutterState Flagged) (line : LineState) (run : ℕ) (d : DeskState) (journal : List PlainEntry)
    → IsSceneOf first (by_blocks session)
    → IsModemsEnd first session v putter line run d
    → IsOfSceneIn HasAnyOrder (scene_on first.port played) v
    → EndsJournal v journal
    → IsLoggedWhole (port_in session played first.port journal) d.log
whole_in first session played v putter line run d journal scene ends of_it left =
    let p = first.port in
    let desk = ends.before.desk in
    let added = later_then v journal left in
    let j = journal_in p played journal in
    let later = is_later (scene_on p played) v journal added.0 of_it added.1 in
    let leads = desk.logged.leads j later in
    let port = port_with p session j in
    let many : length first.session.phases ≡ length session.phases =
    phases_many first (by_blocks session) scene ∙ length-map session.phases (block_phase_of session.ports) in
    let last : v.terminal.phase ≡ length session.phases = ends.phase ∙ many in
    record {
      run = record { last = state_at d desk.at_entry []; leads = leads; nothing_due = refl };
      answered = λ c. all_answered p v.terminal.phase c session (step_of d) last
          (none_is_carrier p session ends.on_port ends.limits) ends.before.steps
          (λ none. next_is_none port (first_state p session) (state_at d desk.at_entry []) (logged_on p d.log) c leads
          (zeros_at (length (names_on p (blocks_in session))) c) none);
      items = all_items p v.terminal.phase session d.items last ends.on_port ends.limits ends.before.items;
    }

pub hung_up_played : (first : Scene) (session : ModemSession) (v : PortValue) (putter : PutterState Flagged)
    (line : LineState) (run : ℕ) (d : DeskState) (left : PortRun) (end : PortEnd)
    → IsSceneOf first (by_blocks session)
    → IsModemsEnd first session v putter line run d
    → EndsJournal v left.journal.items
    → ((s : Scene) → IsAtEnd s v putter line → IsPlayedOn s.port s.session left end)
    → ((s : Scene)
    → IsOfSceneIn HasAnyOrder s v
    → v.terminal.phase ≡ length s.session.phases
    → EndsRun s v.journal line.report.overruns.items left)
    → IsPortPlayed first.port session d.log left end
hung_up_played first session v putter line run d left end scene ends journal plays order =
    let p = first.port in
    let before = ends.before in
    let has = before.has in
    let ms = all_passed session d.log p left.journal.items in
    let here = (before.each.each (scene_on p has.session) has.like has.agrees).0 in
    let none = none_begun session p (events_on p d.log) left.journal.items (λ c.
    idle_then v left.journal.items c ends.port journal (ap (λ (q : CallerState). has_begun q) (here.callers c))) in
    let same : (c : ℕ) → by_caller c ms ≡ passed_by session p d c =
    λ c.
    ap (λ (xs : List Passing). by_caller c (passings_on session d.log p ++ xs)) none
    ∙ ap (λ (xs : List Passing). by_caller c xs) (append-nil (passings_on session d.log p)) in
    record {
      within = within_of first (block_phases session) (passed_by session p d) v ms has same;
      none_begun = λ not_full. none;
      each = λ played h.
          let s = scene_on p played in
          let like = like_played first (by_blocks session) ms (passed_by session p d) played same scene h in
          let agrees = agrees_played first (by_blocks session) v ms (passed_by session p d) played same scene has h in
          let at = before.each.each s like agrees in
          let phase : v.terminal.phase ≡ length played.phases =
          ends.phase ∙ sym (phases_same p first.session played like.shape) in
          let there : IsAtPhaseIn HasAnyOrder s (length played.phases) v putter line run =
          subst (λ k. IsAtPhaseIn HasAnyOrder s k v putter line run) phase at.0 in
          let played_all : HavePlayedInOrder s (length played.phases) v.journal line.report.overruns.items =
          subst (λ k. HavePlayedInOrder s k v.journal line.report.overruns.items) phase at.1 in
          let its : EndsRun s v.journal line.report.overruns.items left = order s at.0.of_scene phase in
          let place : (place_of s v.journal).terminal ≡ v.terminal =
          place_first s v.terminal.phase v putter line run at.0 ends.port in
          let port = port_in session played p left.journal.items in
          record {
            played_on = plays s (at_end_of s v putter line run there played_all.played);
            logged = logged_in first session played v d [] left.journal.items its.part before.desk like agrees
                at.0.of_scene its.added
                (one_in_turn played port (logged_on p d.log) (place_in first played v) (length v.journal) its.part
                (few_more v left.journal.items its.part journal its.added)
                (ap (λ (t : Terminal). t.phase) place ∙ phase) its.in_turn);
            seen = λ not_full. subst2_seen s left its (at.1.see_all its.part);
            whole = λ not_full.
                whole_in first session played v putter line run d left.journal.items scene ends at.0.of_scene journal;
          };
    }
  where
    subst2_seen : (s : Scene) (left : PortRun)
        → (its : EndsRun s v.journal line.report.overruns.items left)
        → AllSeeAll s.port s.session (v.journal ++ its.part) line.report.overruns.items
        → AllSeeAll s.port s.session left.journal.items left.line.overruns.items
    subst2_seen s left its seen =
        subst (λ (es : List PlainEntry). AllSeeAll s.port s.session es left.line.overruns.items) (sym its.added)
        (subst (λ (os : List Overrun). AllSeeAll s.port s.session (v.journal ++ its.part) os) (sym its.overruns_are)
        seen)

-- ---- a full journal

pub full_played : (first : Scene) (session : ModemSession) (v : PortValue) (putter : PutterState Flagged)
    (line : LineState) (d : DeskState) (left : PortRun) (end : PortEnd)
    → IsSceneOf first (by_blocks session)
    → IsModemsFull first session v putter line d
    → left.journal.items ≡ v.journal
    → ((s : Scene) → IsPortOf s v → IsFullRun s v putter line → IsPlayedOn s.port s.session left end)
    → IsPortPlayed first.port session d.log left end
full_played first session v putter line d left end scene full journal plays =
    let p = first.port in
    let has = full.has in
    let ms = all_passed session d.log p left.journal.items in
    let same : (c : ℕ) → by_caller c ms ≡ full.mine c =
    λ c.
    ap (λ (es : List PlainEntry). by_caller c (all_passed session d.log p es)) journal ∙ full.passed c in
    let here = full.full has.session has.like has.by has.agrees in
    let long : length left.journal.items ≡ MOST_ENTRIES = ap (λ (es : List PlainEntry). length es) journal
    ∙ here.1.full in
    record {
      within = within_of first (block_phases session) full.mine v ms has same;
      none_begun = λ not_full. absurd (not_full long);
      each = λ played h.
          let s = scene_on p played in
          let like = like_played first (by_blocks session) ms full.mine played same scene h in
          let agrees = agrees_played first (by_blocks session) v ms full.mine played same scene has h in
          let by = passed_then (by_blocks session) p ms full.mine played same h in
          let at = full.full played like by agrees in
          record {
            played_on = plays s (port_of_scene s v at.0) at.1;
            logged = subst (λ (es : List PlainEntry). IsLogged played (port_in session played p es) d.log) (sym journal)
                (full.logged played like by agrees);
            seen = λ not_full. absurd (not_full long);
            whole = λ not_full. absurd (not_full long);
          };
    }
