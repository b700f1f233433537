-- A session that was played, and the port that it agrees with: hung up after all phases, or full.
use Rattle.std.proofs.Common.{◌≡◌, inl, inr, ℕ}
use Rattle.std.proofs.Common.{List, [], ◌∷◌, ◌++◌, length, map, take}
use Rattle.std.proofs.Common.{flat_map, refl, sym, ap, ◌∙◌, subst, arith, append-nil}
use Rattle.std.specs.Prelude.{slice_get, slice_index_or}
use Rattle.std.proofs.lemmas.List.{length-map}
use Rattle.tty_base.specs.Sizes.{MOST_ENTRIES}
use Rattle.tty_base.specs.declared.characters.Flagged.{Flagged}
use Rattle.tty_base.specs.declared.counters.Signal.{Signal}
use Rattle.word_ring.specs.Ends.{PutterState}
use Rattle.uart_line.specs.LineState.{LineState}
use Rattle.tty_calls.specs.declared.answers.PortEnd.{PortEnd}
use Rattle.tty_calls.specs.declared.journals.PortRun.{PortRun}
use Rattle.tty_calls.specs.Plain.{PlainEntry}
use Rattle.tty_calls.specs.Sessions.{PlainSession}
use Rattle.tty_terminal.specs.Terminals.{Terminal, opening, has_begun}
use Rattle.tty_terminal.specs.Steps.{after}
use Rattle.tty_terminal.specs.declared.callers.CallerState.{CallerState}
use Rattle.port_core.specs.Ports.{PortValue, IsPort, hangup_entry}
use Rattle.play_base.specs.Roles.{Scene}
use Rattle.play_base.specs.Beginning.{IsAtPhase}
use Rattle.play_base.specs.Phases.{HavePlayedInOrder, HaveSeenAll, IsPortOf, IsFullRun, IsAtEnd}
use Rattle.play_base.specs.Leaving.{EndsJournal}
use Rattle.play_base.specs.Played.{IsPlayedOn, IsRunInOrder}
use Rattle.play_base.specs.Scenes.{IsOfScene}
use Rattle.play_base.proofs.PortLemmas.{port_of_scene, at_end_of, full_in_order}
use Rattle.order_laws.specs.Agreed.{Agrees, IsLike}
use Rattle.order_laws.proofs.Shapes.{phases_same}
use Rattle.passed_calls.specs.Blocks.{Block, names_on}
use Rattle.passed_calls.specs.Derived.{Passing, BlockPhase, by_caller, blocks_of}
use Rattle.passed_calls.specs.Journals.{Journal, terminal_after, terminal_at}
use Rattle.passed_calls.specs.Logs.{logged_on}
use Rattle.passed_calls.specs.Scripts.{block_of}
use Rattle.job_text.specs.Events.{JobEvent, events_on}
use Rattle.job_text.specs.Sessions.{JobsPhase, JobsSession, block_phase_of, blocks_in}
use Rattle.job_steps.specs.Derived.{block_phases, passings_on}
use Rattle.job_steps.specs.Steps.{first_state, raised_at, job_signal}
use Rattle.order_laws.specs.Passed.{steps_named, begin_of}
use Rattle.order_laws.specs.Witness.{scene_on}
use Rattle.order_laws.specs.Later.{IsLater}
use Rattle.job_one.specs.Later.{port_with}
use Rattle.job_one.specs.Desk.{signals_of, IsDeskAt}
use Rattle.job_one.specs.Events.{DeskState}
use Rattle.job_one.specs.Between.{value_at, passed_by}
use Rattle.order_laws.specs.Begun.{begun_at}
use Rattle.job_one.specs.Playing.{passings_with}
use Rattle.job_one.specs.Played.{port_in, IsLogged, IsLoggedWhole, by_blocks, all_passed}
use Rattle.order_laws.proofs.Laters.{front, terminal_now}
use Rattle.order_laws.specs.Sessions.{journal_in}
use Rattle.job_one.proofs.Raised.{entry_still}
use Rattle.passed_ports.specs.Ports.{IsSceneOf}
use Rattle.job_ports.specs.Ports.{IsPortPlayed, IsJobsEnd, IsJobsFull}
use Rattle.passed_ports.proofs.Played.{like_played, agrees_played, after_append, take_all, idle_then}
use Rattle.passed_ports.proofs.Played.{later_then, is_later, phases_many}
use Rattle.job_ports.proofs.Noted.{signals_few}
use Rattle.passed_ports.proofs.Started.{within_of}
use Rattle.job_ports.proofs.Started.{mine_is}
use Rattle.job_ports.proofs.Joining.{none_begun}

-- ---- the journal once the port was hung up

-- and it has raised no more signals
raised_then : (v : PortValue) (j : Journal)
    → IsPort v
    → IsLater v j
    → EndsJournal v j.entries
    → length (raised_at j (length j.entries)) ≡ length (signals_of v.terminal)
raised_then v j port later (inl same) =
    length-map (signals_of (terminal_at j (length j.entries))) job_signal
    ∙ ap (λ (t : Terminal). length (signals_of t))
    (ap (λ (es : List PlainEntry). terminal_at j (length es)) same ∙ terminal_now v j port later)
raised_then v j port later (inr h) =
    let e = hangup_entry v h.0 in
    let first : take (length v.journal) j.entries ≡ v.journal =
    ap (λ (es : List PlainEntry). take (length v.journal) es) h.1 ∙ front v.journal (e ∷ []) in
    let was : terminal_after j.calls j.opening v.journal ≡ v.terminal =
    ap (λ (es : List PlainEntry). terminal_after j.calls j.opening es) (sym first) ∙ terminal_now v j port later in
    let total : terminal_at j (length j.entries) ≡ after j.calls v.terminal e =
    ap (λ (es : List PlainEntry). terminal_after j.calls j.opening es) (take_all j.entries ∙ h.1)
    ∙ (after_append j.calls j.opening v.journal e ∙ ap (λ (t : Terminal). after j.calls t e) was) in
    length-map (signals_of (terminal_at j (length j.entries))) job_signal
    ∙ ap (λ (ss : List Signal). length ss) (ap signals_of total ∙ entry_still j.calls v.terminal e refl)

-- ---- the session as the port plays it

-- its log is one of it
logged_in : (first : Scene) (session : JobsSession) (played : PlainSession) (v : PortValue) (d : DeskState)
    (due : List JobEvent) (journal rest : List PlainEntry)
    → IsDeskAt first session d.log v d.jobs d.next d.sent due
    → IsLike first (scene_on first.port played)
    → Agrees (scene_on first.port played) v
    → IsOfScene (scene_on first.port played) v
    → journal ≡ v.journal ++ rest
    → IsLogged played (port_in session played first.port journal) d.log
logged_in first session played v d due journal rest desk like agrees of entries =
    let p = first.port in
    let later = is_later (scene_on p played) v journal rest of entries in
    record {
      last = desk.state;
      leads = desk.at.logged.leads (journal_in p played journal) later;
      in_turn = desk.at.ordered.turns played like agrees (journal_in p played journal) later;
    }

-- ---- all phases

pub blocks_same : (phases : List JobsPhase)
    → blocks_of (map block_phase_of phases) ≡ flat_map (λ (phase : JobsPhase). map block_of phase.callers) phases
blocks_same [] = refl
blocks_same (phase ∷ phases) = ap (λ (bs : List Block). map block_of phase.callers ++ bs) (blocks_same phases)

-- behind the last phase each caller stands past all its calls
steps_over : (first : Scene) (session : JobsSession) (k c : ℕ)
    → IsSceneOf first (by_blocks session)
    → k ≡ length first.session.phases
    → begin_of first.port (block_phases session) k c
    ≡ steps_named first.port (blocks_in session) (slice_get (names_on first.port (blocks_in session)) c)
steps_over first session k c scene last =
    let p = first.port in
    let phases = block_phases session in
    let whole : take k phases ≡ phases =
    ap (λ n. take n phases) (last ∙ phases_many first (by_blocks session) scene) ∙ take_all phases in
    ap (λ (ps : List BlockPhase). steps_named p (blocks_of ps) (slice_get (names_on p (blocks_of phases)) c)) whole
    ∙ ap (λ (bs : List Block). steps_named p bs (slice_get (names_on p bs) c)) (blocks_same session.phases)

-- the log is whole
whole_in : (first : Scene) (session : JobsSession) (played : PlainSession) (v : PortValue)
    (putter : PutterState Flagged) (line : LineState) (run : ℕ) (d : DeskState) (journal : List PlainEntry)
    → IsSceneOf first (by_blocks session)
    → IsJobsEnd first session v putter line run d
    → IsOfScene (scene_on first.port played) v
    → EndsJournal v journal
    → IsLoggedWhole (port_in session played first.port journal) d.log
whole_in first session played v putter line run d journal scene ends of_it left =
    let p = first.port in
    let desk = ends.before.date.stands.desk in
    let then = later_then v journal left in
    let j = journal_in p played journal in
    let later = is_later (scene_on p played) v journal then.0 of_it then.1 in
    let leads = desk.at.logged.leads j later in
    let port = port_with p session j in
    let few = signals_few port (first_state port) desk.state (logged_on p d.log) leads (omega arith) in
    let raised = raised_then v j ends.port later left in
    let enough = ends.before.date.all_sent in
    let sent = desk.signals_are in
    record {
      run = record {
        last = desk.state;
        leads = leads;
        nothing_due = desk.due_are;
        all_sent = omega (arith, few, raised, enough, sent);
      };
      answered = λ c known.
          ap (λ (ns : List ℕ). slice_index_or ns c 0) desk.next_are
          ∙ (ends.before.steps c ∙ steps_over first session v.terminal.phase c scene ends.phase);
    }

pub hung_up_played : (first : Scene) (session : JobsSession) (v : PortValue) (putter : PutterState Flagged)
    (line : LineState) (run : ℕ) (d : DeskState) (left : PortRun) (end : PortEnd)
    → IsSceneOf first (by_blocks session)
    → IsJobsEnd first session v putter line run d
    → EndsJournal v left.journal.items
    → ((s : Scene) → IsAtEnd s v putter line → IsPlayedOn s.port s.session left end)
    → ((s : Scene)
    → IsOfScene s v
    → v.terminal.phase ≡ length s.session.phases
    → HaveSeenAll s v.journal line.report.overruns.items
    → IsRunInOrder s.port s.session left)
    → IsPortPlayed first.port session d.log left end
hung_up_played first session v putter line run d left end scene ends journal plays order =
    let p = first.port in
    let before = ends.before in
    let has = before.has in
    let ms = all_passed session d.log p left.journal.items in
    let here = (before.each.each (scene_on p has.session) has.like has.agrees).0 in
    let none = none_begun session p (events_on p d.log) left.journal.items (λ c.
    idle_then v left.journal.items c ends.port journal (ap (λ (q : CallerState). has_begun q) (here.callers c))) in
    let same : (c : ℕ) → by_caller c ms ≡ passed_by session p d c =
    λ c.
    ap (λ (xs : List Passing). by_caller c (passings_on session d.log p ++ xs)) none
    ∙ ap (λ (xs : List Passing). by_caller c xs) (append-nil (passings_on session d.log p)) in
    record {
      within = within_of first (block_phases session) (passed_by session p d) v ms has same;
      none_begun = λ not_full. none;
      each = λ played h.
          let s = scene_on p played in
          let like = like_played first (by_blocks session) ms (passed_by session p d) played same scene h in
          let agrees = agrees_played first (by_blocks session) v ms (passed_by session p d) played same scene has h in
          let at = before.each.each s like agrees in
          let phase : v.terminal.phase ≡ length played.phases =
          ends.phase ∙ sym (phases_same p first.session played like.shape) in
          let there : IsAtPhase s (length played.phases) v putter line run =
          subst (λ k. IsAtPhase s k v putter line run) phase at.0 in
          let played_all : HavePlayedInOrder s (length played.phases) v.journal line.report.overruns.items =
          subst (λ k. HavePlayedInOrder s k v.journal line.report.overruns.items) phase at.1 in
          let then = later_then v left.journal.items journal in
          record {
            played_on = plays s (at_end_of s v putter line run there played_all.played);
            in_order = order s at.0.of_scene phase at.1.see_all;
            logged = logged_in first session played v d [] left.journal.items then.0
                before.date.stands.desk like agrees at.0.of_scene then.1;
            whole = λ not_full.
                whole_in first session played v putter line run d left.journal.items scene ends at.0.of_scene journal;
          };
    }

-- ---- a full journal

pub full_played : (first : Scene) (session : JobsSession) (v : PortValue) (putter : PutterState Flagged)
    (line : LineState) (d : DeskState) (left : PortRun) (end : PortEnd)
    → IsSceneOf first (by_blocks session)
    → IsJobsFull first session v putter line d
    → left.journal.items ≡ v.journal
    → ((s : Scene) → IsPortOf s v → IsFullRun s v putter line → IsPlayedOn s.port s.session left end)
    → IsPortPlayed first.port session d.log left end
full_played first session v putter line d left end scene full journal plays =
    let p = first.port in
    let has = full.has in
    let mine = passings_with session d.log p (value_at d) (begun_at v) in
    let ms = all_passed session d.log p left.journal.items in
    let same : (c : ℕ) → by_caller c ms ≡ mine c =
    λ c.
    ap (λ (es : List PlainEntry). by_caller c (all_passed session d.log p es)) journal
    ∙ mine_is first session v d full.due full.port full.desk c in
    let here = full.full (scene_on p has.session) has.like has.agrees in
    let long : length left.journal.items ≡ MOST_ENTRIES =
    ap (λ (es : List PlainEntry). length es) journal ∙ here.1.full in
    record {
      within = within_of first (block_phases session) mine v ms has same;
      none_begun = λ not_full. absurd (not_full long);
      each = λ played h.
          let s = scene_on p played in
          let like = like_played first (by_blocks session) ms mine played same scene h in
          let agrees = agrees_played first (by_blocks session) v ms mine played same scene has h in
          let at = full.full s like agrees in
          record {
            played_on = plays s (port_of_scene s v at.0) at.1;
            in_order = full_in_order s v left at.0 journal at.1.full;
            logged = logged_in first session played v d full.due left.journal.items [] full.desk like agrees at.0
                (journal ∙ sym (append-nil v.journal));
            whole = λ not_full. absurd (not_full long);
          };
    }
