-- A port from its opening to its end.
use Rattle.std.proofs.Common.{◌≡◌, ◌⊎◌, inl, inr, ℕ, zero, suc, ◌+◌, ◌<◌, ◌≤◌, false, ◌&&◌, ◌==◌, List}
use Rattle.std.proofs.Common.{[], ◌∷◌, ◌++◌, Option, None, Some, length, drop, replicate, refl, sym}
use Rattle.std.proofs.Common.{◌∙◌, ap, subst, arith, append-nil, append_assoc, length-append, add-zero}
use Rattle.std.specs.Prelude.{IsTrue, slice_get, slice_index_or, nat_le, sum}
use Rattle.std.proofs.lemmas.Bool.{le-leb}
use Rattle.std.proofs.lemmas.List.{drop_all, length-map, length-replicate}
use Rattle.std.proofs.lemmas.List.Elements.{All-nil}
use Rattle.tty_base.specs.Sizes.{LEAST_FLIP, MOST_ARRIVALS, MOST_ENTRIES}
use mathlib.Core.List.{IsPrefix}
use Rattle.tty_base.specs.declared.characters.Flagged.{Flagged}
use Rattle.tty_base.specs.declared.lines.LineStep.{LineStep}
use Rattle.tty_base.specs.declared.lines.Overrun.{Overrun}
use Rattle.tty_base.specs.declared.lines.LineReport.{LineReport}
use Rattle.word_ring.specs.Ends.{PutterState, TakerState}
use Rattle.uart_line.specs.LineState.{LineState, HasDone}
use Rattle.tty_base.specs.Lines.{arrival_count}
use Rattle.uart_line.specs.Received.{received_list, lost_count, script}
use Rattle.uart_line.specs.Offered.{HandsOver, AreShown, kept_list}
use Rattle.uart_line.proofs.OfferedLemmas.{HandsOver-kept, HandsOver-shown}
use Rattle.uart_line.proofs.Steps.{HandsOver-none}
use Rattle.tty_calls.specs.declared.answers.PortEnd.{PortEnd}
use Rattle.tty_calls.specs.declared.journals.PortRun.{PortRun}
use Rattle.tty_calls.specs.declared.journals.Who.{Who}
use Rattle.tty_calls.specs.declared.journals.Who.TheVariants.{Session}
use Rattle.tty_calls.specs.Plain.{PlainCall, PlainEvent, PlainEntry, hung_up}
use Rattle.tty_calls.specs.Sessions.{PlainPhase, PlainSession, call_at, counts_on, ticks_on, scripts_on}
use Rattle.tty_calls.specs.Limits.{character_count}
use Rattle.tty_terminal.specs.Terminals.{Terminal, opening}
use Rattle.tty_terminal.specs.Steps.{Allowed, after}
use Rattle.tty_terminal.specs.Runs.{IsRun, is_flush, chars_of, phase_after}
use Rattle.tty_terminal.proofs.CallerLists.{all_idle}
use Rattle.tty_terminal.proofs.Grown.{leads_grown}
use Rattle.legal_runs.specs.Legal.{phase_at, first_step, name_at, script_on, script_of_first, received_before}
use Rattle.legal_runs.specs.Legal.{IsInPhase, AreInPhases, IsFinishedFrom, IsFinished, AreSeen, flip_on, IsOnTheWay}
use Rattle.legal_runs.specs.Legal.{IsAccounted}
use Rattle.legal_runs.specs.Short.{is_tick, tick_count_in, after_phases}
use Rattle.port_core.specs.Ports.{PortValue, IsPort, call_in, hangup_entry}
use Rattle.port_core.specs.Phases.{HangsUp}
use Rattle.legal_runs.specs.Order.{Place, first_place, turn, AreInTurn, IsPieceOf, AllSeeAll}
use Rattle.play_base.specs.Roles.{Scene, names_in, AreFirstSteps}
use Rattle.play_base.specs.Scenes.{place_of, caller_at_rest, HasAnyOrder, HasOneOrder, IsOfSceneIn, IsOfScene}
use Rattle.play_base.specs.Putting.{HasPut}
use Rattle.play_base.specs.Beginning.{IsAtPhaseIn, IsAtPhase}
use Rattle.play_base.specs.Played.{IsPlayedOn, ArePlayed, IsRunInOrder, AreInOneOrder}
use Rattle.play_base.specs.Phases.{phase_count, HasFewTicks, HavePlayed, HaveSeenAll, HavePlayedInOrder, IsPortOf}
use Rattle.play_base.specs.Phases.{IsFullRun, IsAtEnd, IsLeftOf, EndsRun, AreFirstPlayed}
use Rattle.legal_runs.proofs.Places.{leads_place}
use Rattle.play_base.proofs.OrderLemmas.{order_goes_on}
use Rattle.play_base.proofs.JournalLemmas.{one_if, all_phases_after, up_after, ticks_both, leads_both}
use Rattle.play_base.proofs.ReceivedLemmas.{script_whole, kept_front, overruns_within, all_counted, list_grows}
use Rattle.legal_runs.proofs.NameLemmas.{no_calls_yet}
use Rattle.legal_runs.proofs.LineLemmas.{received_none}
use Rattle.legal_runs.proofs.Truths.{if_true}

-- ---- journals that lead to a terminal

-- the run of a scene
pub run_of_scene : (s : Scene) (v : PortValue)
    → v.counts ≡ counts_on s.port s.session
    → v.flip.capacity ≡ flip_on s.port s.session
    → IsRun (call_at s.port s.session) v.counts v.flip.capacity v.journal v.terminal
    → IsRun (call_at s.port s.session) (counts_on s.port s.session) (flip_on s.port s.session) v.journal v.terminal
run_of_scene s v counts capacity run =
    subst (λ (cs : List ℕ). IsRun (call_at s.port s.session) cs (flip_on s.port s.session) v.journal v.terminal) counts
    (subst (λ n. IsRun (call_at s.port s.session) v.counts n v.journal v.terminal) capacity run)

place_terminal : {HasOrder : Scene → List PlainEntry → Type 0} (s : Scene) (v : PortValue)
    → IsOfSceneIn HasOrder s v
    → IsPort v
    → (place_of s v.journal).terminal ≡ v.terminal
place_terminal s v of_scene port =
    let grown = leads_grown (call_in v.kept) (call_at s.port s.session) v.counts
    (opening (sum v.counts) v.flip.capacity) v.journal v.terminal of_scene.known port.run in
    leads_place (call_at s.port s.session) (counts_on s.port s.session) (first_place s.port s.session)
    (first_place s.port s.session).terminal v.journal v.terminal refl
    (run_of_scene s v of_scene.counts of_scene.capacity grown)

-- ---- the last entry

phases_more : (p : ℕ) (session : PlainSession) (k : ℕ) (es : List PlainEntry) (e : PlainEntry)
    → e.who ≡ Session
    → AreInPhases p session k es
    → AreInPhases p session k (es ++ e ∷ [])
phases_more p session k [] e who h = (subst (λ (w : Who). IsInPhase p session k w e.step e.event) (sym who) tt, tt)
phases_more p session k (x ∷ xs) e who h = (h.0, phases_more p session (phase_after x.event k) xs e who h.1)

session_turn : (p : ℕ) (session : PlainSession) (s : Place)
    → length session.phases ≤ s.terminal.phase
    → turn p session s ≡ Session
session_turn p session s past = if_true (nat_le (length session.phases) s.terminal.phase) Session _
    (le-leb (length session.phases) s.terminal.phase past)

hangup_ticks : (s : Scene) (journal : List PlainEntry) (e : PlainEntry) (dropped : List Flagged)
    → e.event ≡ hung_up dropped
    → HasFewTicks s journal
    → HasFewTicks s (journal ++ e ∷ [])
hangup_ticks s journal e dropped ends few j =
    let both = ticks_both j 0 journal (e ∷ []) in
    let none : tick_count_in j (phase_count journal + 0) (e ∷ []) ≡ 0 =
    ap (λ (event : PlainEvent). one_if (is_tick event && ((phase_count journal + 0) == j)) + 0) ends in
    let before = few j in
    omega (arith, both, none, before)

-- ---- the run of a scene

pub port_of_scene : {HasOrder : Scene → List PlainEntry → Type 0} (s : Scene) (v : PortValue)
    → IsOfSceneIn HasOrder s v
    → IsPortOf s v
port_of_scene s v h = record {
  counts = h.counts;
  capacity = h.capacity;
  limit = h.limit;
  calls = λ capacity run. leads_grown (call_in v.kept) (call_at s.port s.session) v.counts
      (opening (sum v.counts) capacity) v.journal v.terminal h.known run;
  in_phases = h.in_phases;
}

on_the_way : (s : Scene) (v : PortValue) → IsPortOf s v → IsPort v → IsOnTheWay s.port s.session v.journal v.terminal
on_the_way s v of port = record {
  steps = run_of_scene s v of.counts of.capacity (of.calls v.flip.capacity port.run);
  in_phases = of.in_phases;
  one = port.one;
}

-- also once the two ends of its flip buffer have met
port_met : (s : Scene) (v : PortValue) (flip : TakerState Flagged)
    → flip.capacity ≡ v.flip.capacity
    → IsPortOf s v
    → IsPortOf s (record v { flip = flip })
port_met s v flip capacity of = record {
  counts = of.counts;
  capacity = capacity ∙ of.capacity;
  limit = of.limit;
  calls = of.calls;
  in_phases = of.in_phases;
}

-- ---- a full journal

prefix_more : {X : Type 0} (xs ys zs ws : List X) → IsPrefix xs ys → zs ≡ ys ++ ws → IsPrefix xs zs
prefix_more xs ys zs ws h e = (h.0 ++ ws, sym (append_assoc xs h.0 ws) ∙ ap (λ l. l ++ ws) h.1 ∙ sym e)

-- what was taken begins what the line keeps of all that it hands over
begins_kept : (s : Scene) (v : PortValue) (putter : PutterState Flagged) (line : LineState) (done left : List LineStep)
    → HasPut v putter line done
    → script_on s.port s.session ≡ done ++ left
    → IsPrefix v.flip.taken putter.sent
    → IsPrefix v.flip.taken (kept_list (received_list (script_on s.port s.session)) line.report.overruns.items)
begins_kept s v putter line done left put is begins =
    let all : List Flagged = received_list done in
    let overruns : List Overrun = line.report.overruns.items in
    let grown = list_grows done left in
    let kept : putter.sent ≡ kept_list all overruns =
    HandsOver-kept v.flip.capacity all putter.sent putter.heads overruns put.hands_over in
    let whole : kept_list (received_list (script_on s.port s.session)) overruns ≡ kept_list all overruns ++ grown.more =
    ap (λ (steps : List LineStep). kept_list (received_list steps) overruns) is
    ∙ ap (λ (cs : List Flagged). kept_list cs overruns) grown.grows
    ∙ kept_front all grown.more overruns
    (overruns_within v.flip.capacity all putter.sent putter.heads overruns put.hands_over) in
    prefix_more v.flip.taken (kept_list all overruns) (kept_list (received_list (script_on s.port s.session)) overruns)
    grown.more (subst (λ (cs : List Flagged). IsPrefix v.flip.taken cs) kept begins) whole

few_entries : (v : PortValue) (line : LineState) (run : PortRun) (end : PortEnd)
    → IsLeftOf v line run end
    → v.limit ≡ MOST_ENTRIES
    → length run.journal.items ≤ MOST_ENTRIES
few_entries v line run end left limit =
    let same = ap (λ (es : List PlainEntry). length es) left.journal in
    let few = left.port.few in
    omega (arith, same, few, limit)

-- so many entries are told as are printed
pub told_full : (run : PortRun) (journal : List PlainEntry)
    → run.journal.items ≡ journal
    → length journal ≡ MOST_ENTRIES
    → length run.journal.items ≡ MOST_ENTRIES
told_full run journal is full = ap (λ (es : List PlainEntry). length es) is ∙ full

pub full_played : (s : Scene) (v : PortValue) (flip : TakerState Flagged) (putter : PutterState Flagged)
    (line : LineState) (run : PortRun) (end : PortEnd)
    → IsPortOf s v
    → IsFullRun s v putter line
    → IsPrefix v.flip.taken putter.sent
    → flip.taken ≡ v.flip.taken
    → flip.capacity ≡ v.flip.capacity
    → IsLeftOf (record v { flip = flip }) line run end
    → IsPlayedOn s.port s.session run end
full_played s v flip putter line run end of full begins taken capacity left =
    let count : length run.journal.items ≡ MOST_ENTRIES = told_full run v.journal left.journal full.full in
    let chars : chars_of run.journal.items ≡ v.flip.taken = ap chars_of left.journal ∙ left.port.chars ∙ taken in
    let overruns : run.line.overruns.items ≡ line.report.overruns.items =
    ap (λ (r : LineReport). r.overruns.items) left.report in
    record {
      terminal = v.terminal;
      at_end = left.at_end;
      few = few_entries (record v { flip = flip }) line run end left of.limit;
      short = record {
        on_the_way = subst (λ (es : List PlainEntry). IsOnTheWay s.port s.session es v.terminal) (sym left.journal)
            (on_the_way s (record v { flip = flip }) (port_met s v flip capacity of) left.port);
        ticks = λ k. subst (λ (es : List PlainEntry). tick_count_in k 0 es ≤ ticks_on s.port (phase_at s.session k))
            (sym left.journal) (full.ticks k);
        last = inl (ap (after_phases (length s.session.phases)) left.journal ∙ full.last);
        chars = subst (λ (cs : List Flagged).
            IsPrefix cs (kept_list (received_list (script_on s.port s.session)) run.line.overruns.items))
            (sym chars)
            (subst
            (λ (os : List Overrun). IsPrefix v.flip.taken (kept_list (received_list (script_on s.port s.session)) os))
            (sym overruns)
            (begins_kept s v putter line full.done full.left full.has_put full.script_is begins));
      };
      legal = λ other. absurd (other count);
    }

-- the journal of a port that was played to its last phase is full
pub full_at_end : (s : Scene) (v : PortValue) (putter : PutterState Flagged) (line : LineState)
    → IsAtEnd s v putter line
    → length v.journal ≡ v.limit
    → IsFullRun s v putter line
full_at_end s v putter line at_end full = record {
  full = full ∙ at_end.port_of.limit;
  ticks = at_end.played.ticks;
  last = all_phases_after (length s.session.phases) v.journal at_end.played.up_to;
  done = script_of_first s.port s.session (length s.session.phases);
  left = [];
  script_is =
      sym (script_whole s.port s.session)
      ∙ sym (append-nil (script_of_first s.port s.session (length s.session.phases)));
  has_put = at_end.has_put;
}

-- ---- hung up

is_past_all : (n m : ℕ) → n ≡ m → m ≤ n
is_past_all n m h = omega (arith, h)

-- the hangup stands in its turn
hangup_in_turn : (s : Scene) (v : PortValue) (e : PlainEntry) (dropped : List Flagged)
    → IsOfSceneIn HasAnyOrder s v
    → IsPort v
    → v.terminal.phase ≡ length s.session.phases
    → e.who ≡ Session
    → e.event ≡ hung_up dropped
    → AreInTurn s.port s.session (place_of s v.journal) (e ∷ [])
hangup_in_turn s v e dropped of_scene port past who event =
    let there = place_terminal s v of_scene port in
    let phase : length s.session.phases ≤ (place_of s v.journal).terminal.phase =
    is_past_all (place_of s v.journal).terminal.phase (length s.session.phases)
    (ap (λ (t : Terminal). t.phase) there ∙ past) in (
      record {
        by_turn = who ∙ sym (session_turn s.port s.session (place_of s v.journal) phase);
        piece = subst (λ (x : PlainEvent). IsPieceOf s.port s.session (place_of s v.journal) e.part x) (sym event) tt;
      },
      tt,
    )

-- the journal with the hangup is on the way
hung_on_the_way : (s : Scene) (v w : PortValue) (now : PutterState Flagged)
    → v.counts ≡ counts_on s.port s.session
    → IsOnTheWay s.port s.session v.journal v.terminal
    → IsPort w
    → HangsUp v w now
    → IsOnTheWay s.port s.session w.journal w.terminal
hung_on_the_way s v w now counted way port_w hang =
    let e : PlainEntry = hangup_entry v hang.dropped in
    let calls : ℕ → ℕ → Option PlainCall = call_at s.port s.session in
    let counts : List ℕ = counts_on s.port s.session in
    let allowed : Allowed calls counts v.terminal e =
    subst (λ (cs : List ℕ). Allowed calls cs v.terminal e) counted hang.appends.allowed in
    let journal : w.journal ≡ v.journal ++ e ∷ [] = ap (λ (x : PortValue). x.journal) hang.appends.appended in
    let terminal : w.terminal ≡ after calls v.terminal e = ap (λ (x : PortValue). x.terminal) hang.appends.appended in
    let steps : IsRun calls counts (flip_on s.port s.session) (v.journal ++ e ∷ []) w.terminal =
    leads_both calls counts (opening (sum counts) (flip_on s.port s.session)) v.journal v.terminal (e ∷ []) w.terminal
    way.steps (allowed, terminal) in
    record {
      steps = subst (λ (es : List PlainEntry). IsRun calls counts (flip_on s.port s.session) es w.terminal)
          (sym journal) steps;
      in_phases = subst (AreInPhases s.port s.session 0) (sym journal)
          (phases_more s.port s.session 0 v.journal e refl way.in_phases);
      one = port_w.one;
    }

-- the journal of a port that was hung up is finished
hung_finished : (s : Scene) (journal : List PlainEntry) (overruns : List Overrun) (e : PlainEntry)
    (dropped : List Flagged)
    → HavePlayed s (length s.session.phases) journal overruns
    → e.event ≡ hung_up dropped
    → IsFinished s.port s.session overruns (journal ++ e ∷ [])
hung_finished s journal overruns e dropped played event =
    let n : ℕ = length s.session.phases in
    let hangs : IsFinishedFrom s.port s.session (overruns ++ []) n (drop n s.session.phases) (e ∷ []) =
    subst (λ (phases : List PlainPhase). IsFinishedFrom s.port s.session (overruns ++ []) n phases (e ∷ []))
    (sym (drop_all n s.session.phases (omega arith)))
    (record { entry = e; dropped = dropped; alone = refl; is_hangup = event }) in
    subst (λ (os : List Overrun). IsFinished s.port s.session os (journal ++ e ∷ [])) (append-nil overruns)
    (played.finished [] (e ∷ []) (All-nil (λ (o : Overrun). received_before s.port s.session n ≤ o.at)) hangs)

-- the numbers of the line's report
sent_is : (n : ℕ) (sent : List Flagged) (overruns : List Overrun) (handed : ℕ) (all : List Flagged)
    → n + length overruns ≡ handed
    → handed ≡ length all
    → length sent + length overruns ≡ length all
    → n ≡ length sent
sent_is n sent overruns handed all h k e = omega (arith, h, k, e)

hung_account : (s : Scene) (v w : PortValue) (putter : PutterState Flagged) (line : LineState) (run : PortRun)
    (end : PortEnd) (e : PlainEntry) (dropped : List Flagged)
    → IsAtEnd s v putter line
    → w.journal ≡ v.journal ++ e ∷ []
    → e.event ≡ hung_up dropped
    → w.flip.taken ≡ putter.sent
    → IsLeftOf w line run end
    → IsAccounted s.port s.session run
hung_account s v w putter line run end e dropped at_end journal event all left =
    let n : ℕ = length s.session.phases in
    let entries : run.journal.items ≡ v.journal ++ e ∷ [] = left.journal ∙ journal in
    let overruns : run.line.overruns.items ≡ line.report.overruns.items =
    ap (λ (r : LineReport). r.overruns.items) left.report in
    let put = at_end.has_put in
    let handed : List Flagged = received_list (script_of_first s.port s.session n) in
    let whole : handed ≡ received_list (script_on s.port s.session) =
    ap received_list (script_whole s.port s.session) in
    let kept : putter.sent ≡ kept_list handed line.report.overruns.items =
    HandsOver-kept v.flip.capacity handed putter.sent putter.heads line.report.overruns.items put.hands_over in
    let kept_all : putter.sent ≡ kept_list (received_list (script_on s.port s.session)) run.line.overruns.items =
    kept
    ∙ ap (λ (cs : List Flagged). kept_list cs line.report.overruns.items) whole
    ∙ ap (λ (os : List Overrun). kept_list (received_list (script_on s.port s.session)) os) (sym overruns) in
    let shown =
    HandsOver-shown v.flip.capacity handed putter.sent putter.heads line.report.overruns.items put.hands_over in
    let count = all_counted v.flip.capacity handed putter.sent putter.heads line.report.overruns.items put.hands_over in
    record {
      finished = subst (λ (es : List PlainEntry). IsFinished s.port s.session run.line.overruns.items es) (sym entries)
          (subst (λ (os : List Overrun). IsFinished s.port s.session os (v.journal ++ e ∷ [])) (sym overruns)
          (hung_finished s v.journal line.report.overruns.items e dropped at_end.played event));
      chars = ap chars_of left.journal ∙ left.port.chars ∙ all ∙ kept_all;
      shown = subst (λ (os : List Overrun). AreShown (flip_on s.port s.session) 0 0 os) (sym overruns)
          (subst (λ c. AreShown c 0 0 line.report.overruns.items) at_end.port_of.capacity shown);
      seen = subst (λ (es : List PlainEntry). AreSeen s.port s.session es run.line.overruns.items) (sym entries)
          (subst (λ (os : List Overrun). AreSeen s.port s.session (v.journal ++ e ∷ []) os) (sym overruns)
          (at_end.played.seen (e ∷ [])));
      arrived =
          ap (λ (r : LineReport). r.arrived) left.report
          ∙ put.done.arrived
          ∙ ap arrival_count (script_whole s.port s.session);
      fifo_lost =
          ap (λ (r : LineReport). r.fifo_lost) left.report
          ∙ put.done.lost
          ∙ ap lost_count (script_whole s.port s.session);
      sent =
          ap (λ (r : LineReport). r.sent) left.report
          ∙ sent_is line.report.sent putter.sent line.report.overruns.items
          line.handed handed put.done.sent put.done.handed count
          ∙ ap (λ (cs : List Flagged). length cs) kept_all;
    }

prefix_same : {X : Type 0} (xs ys : List X) → xs ≡ ys → IsPrefix xs ys
prefix_same xs ys e = ([], append-nil xs ∙ e)

pub hung_played : (s : Scene) (v : PortValue) (flip : TakerState Flagged) (putter now : PutterState Flagged)
    (w : PortValue) (line : LineState) (run : PortRun) (end : PortEnd)
    → IsAtEnd s v putter line
    → IsPort v
    → now.sent ≡ putter.sent
    → HangsUp (record v { flip = flip }) w now
    → IsLeftOf w line run end
    → IsPlayedOn s.port s.session run end
hung_played s v flip putter now w line run end at_end port same hang left =
    let n : ℕ = length s.session.phases in
    let e : PlainEntry = hangup_entry (record v { flip = flip }) hang.dropped in
    let journal : w.journal ≡ v.journal ++ e ∷ [] = ap (λ (x : PortValue). x.journal) hang.appends.appended in
    let account = hung_account s v w putter line run end e hang.dropped at_end journal refl (hang.all ∙ same) left in
    let way : IsOnTheWay s.port s.session run.journal.items w.terminal =
    subst (λ (es : List PlainEntry). IsOnTheWay s.port s.session es w.terminal) (sym left.journal)
    (hung_on_the_way s (record v { flip = flip }) w now at_end.port_of.counts (on_the_way s v at_end.port_of port)
    left.port hang) in
    let entries : run.journal.items ≡ v.journal ++ e ∷ [] = left.journal ∙ journal in
    let limit : w.limit ≡ MOST_ENTRIES = ap (λ (x : PortValue). x.limit) hang.appends.appended ∙ at_end.port_of.limit in
    let after_all : after_phases n (v.journal ++ e ∷ []) ≡ e ∷ [] =
    ap (λ j. after_phases j (v.journal ++ e ∷ [])) (sym (add-zero n))
    ∙ up_after n 0 v.journal (e ∷ []) at_end.played.up_to in
    record {
      terminal = w.terminal;
      at_end = left.at_end;
      few = few_entries w line run end left limit;
      short = record {
        on_the_way = way;
        ticks = λ k. subst (λ (es : List PlainEntry). tick_count_in k 0 es ≤ ticks_on s.port (phase_at s.session k))
            (sym entries) (hangup_ticks s v.journal e hang.dropped refl at_end.played.ticks k);
        last = inr (record {
          entry = e;
          dropped = hang.dropped;
          alone = ap (after_phases n) entries ∙ after_all;
          is_hangup = refl;
        });
        chars = prefix_same (chars_of run.journal.items)
            (kept_list (received_list (script_on s.port s.session)) run.line.overruns.items) account.chars;
      };
      legal = λ other. record { on_the_way = way; account = account };
    }

pub hung_ends : (s : Scene) (v : PortValue) (flip : TakerState Flagged) (now : PutterState Flagged) (w : PortValue)
    (line : LineState) (run : PortRun) (end : PortEnd)
    → IsOfSceneIn HasAnyOrder s v
    → IsPort v
    → v.terminal.phase ≡ length s.session.phases
    → HangsUp (record v { flip = flip }) w now
    → IsLeftOf w line run end
    → EndsRun s v.journal line.report.overruns.items run
hung_ends s v flip now w line run end of_scene port past hang left =
    let e : PlainEntry = hangup_entry (record v { flip = flip }) hang.dropped in
    record {
      part = e ∷ [];
      added = left.journal ∙ ap (λ (x : PortValue). x.journal) hang.appends.appended;
      in_turn = hangup_in_turn s v e hang.dropped of_scene port past refl refl;
      overruns_are = ap (λ (r : LineReport). r.overruns.items) left.report;
    }

-- a port whose journal is full
pub full_ends : (s : Scene) (journal : List PlainEntry) (v : PortValue) (line : LineState) (run : PortRun)
    (end : PortEnd)
    → v.journal ≡ journal
    → IsLeftOf v line run end
    → EndsRun s journal line.report.overruns.items run
full_ends s journal v line run end same left =
    record {
      part = [];
      added = left.journal ∙ (same ∙ sym (append-nil journal));
      in_turn = tt;
      overruns_are = ap (λ (r : LineReport). r.overruns.items) left.report;
    }

-- a run that ends so is in the order of one thread, where its journal was
pub ends_in_order : (s : Scene) (journal : List PlainEntry) (overruns : List Overrun) (run : PortRun)
    → HasOneOrder s journal
    → HaveSeenAll s journal overruns
    → EndsRun s journal overruns run
    → IsRunInOrder s.port s.session run
ends_in_order s journal overruns run turns see_all h =
    let all : HasOneOrder s run.journal.items =
    order_goes_on s journal run.journal.items h.part h.added turns h.in_turn in
    record {
      turns = all;
      whole = λ other. record {
        turns = all;
        seen = subst (λ (es : List PlainEntry). AllSeeAll s.port s.session es run.line.overruns.items) (sym h.added)
            (subst (λ (os : List Overrun). AllSeeAll s.port s.session (journal ++ h.part) os) (sym h.overruns_are)
            (see_all h.part));
      };
    }

-- a port whose journal is full kept the order as far as it went
pub full_in_order : (s : Scene) (v : PortValue) (run : PortRun)
    → IsOfScene s v
    → run.journal.items ≡ v.journal
    → length v.journal ≡ MOST_ENTRIES
    → IsRunInOrder s.port s.session run
full_in_order s v run of_scene is full = record {
  turns = subst (λ (es : List PlainEntry). AreInTurn s.port s.session (first_place s.port s.session) es) (sym is)
      of_scene.turns;
  whole = λ other. absurd (other (told_full run v.journal is full));
}

-- ---- the beginning

pub first_none : (p : ℕ) (session : PlainSession) (c : ℕ) → first_step p session 0 c ≡ 0
first_none p session c = no_calls_yet (name_at p session c)

abbrev pub zeros : ℕ → List ℕ
zeros n = replicate n 0

no_steps : (n c : ℕ) → slice_index_or (zeros n) c 0 ≡ 0
no_steps zero c = refl
no_steps (suc n) zero = refl
no_steps (suc n) (suc c) = no_steps n c

script_none : (p : ℕ) (session : PlainSession) → script_of_first p session 0 ≡ []
unfolding script
script_none p session = refl

-- a port that was opened for the scene
pub opened_at : (s : Scene) (counts : List ℕ) (flip : TakerState Flagged) (putter : PutterState Flagged)
    (line : LineState)
    → counts ≡ counts_on s.port s.session
    → flip.capacity ≡ flip_on s.port s.session
    → LEAST_FLIP ≤ flip.capacity
    → putter.ring ≡ flip.ring
    → putter.capacity ≡ flip.capacity
    → putter.sent ≡ []
    → putter.heads ≡ []
    → HasDone line []
    → character_count s.port s.session.phases ≤ line.most
    → line.most ≤ MOST_ARRIVALS
    → line.report.overruns.items ≡ []
    → IsAtPhase s 0
    (record {
      terminal = opening (sum counts) flip.capacity;
      journal = [];
      kept = [];
      counts = counts;
      limit = MOST_ENTRIES;
      starved = false;
      flip = flip;
    }) putter line 0
opened_at s counts flip putter line is capacity room ring same none heads done most few_most no_overruns = record {
  of_scene = record {
    counts = is;
    capacity = capacity;
    limit = refl;
    known = λ c step call h. absurd (cc);
    in_phases = tt;
    turns = tt;
  };
  phase = refl;
  line_over = refl;
  clock_over = refl;
  callers = λ c. all_idle (sum counts) c ∙ ap caller_at_rest (sym (first_none s.port s.session c));
  begins_run = record {
    follows = refl;
    below = All-nil (λ (e : PlainEntry). IsTrue (is_flush e.event) → e.step < 0);
    few = omega arith;
  };
  rest = refl;
  cuts = refl;
  some_room = room;
  sent = ap (λ (cs : List Flagged). length cs) (sym none);
  has_put = record {
    ring = ring;
    capacity = same;
    done = subst (HasDone line) (sym (script_none s.port s.session)) done;
    hands_over = hands;
    room = omega (arith, ap (λ (cs : List Flagged). length cs) none, few_most);
  };
  most = most;
}
  where
    hands : HandsOver flip.capacity [] (received_list (script_of_first s.port s.session 0))
        [] putter.sent [] putter.heads [] line.report.overruns.items
    hands =
        subst (λ (all : List Flagged).
        HandsOver flip.capacity [] all [] putter.sent [] putter.heads [] line.report.overruns.items)
        (sym (ap received_list (script_none s.port s.session) ∙ received_none))
        (subst
        (λ (cs : List Flagged). HandsOver flip.capacity [] [] [] cs [] putter.heads [] line.report.overruns.items)
        (sym none)
        (subst (λ (hs : List ℕ). HandsOver flip.capacity [] [] [] [] [] hs [] line.report.overruns.items) (sym heads)
        (subst (λ (os : List Overrun). HandsOver flip.capacity [] [] [] [] [] [] [] os) (sym no_overruns)
        (HandsOver-none flip.capacity [] [] [] []))))

pub nothing_played : (s : Scene) → HavePlayedInOrder s 0 [] []
nothing_played s = record {
  played = record {
    up_to = inl (refl, refl);
    ticks = λ j. omega arith;
    finished = λ more rest later goes_on. goes_on;
    seen = λ rest. tt;
  };
  see_all = λ rest. tt;
}

pub no_first_steps : (s : Scene) (n : ℕ) → n ≡ length (names_in s) → AreFirstSteps s 0 (zeros n)
no_first_steps s n h =
    record { count = length-replicate n 0 ∙ h; each = λ c. no_steps n c ∙ sym (first_none s.port s.session c) }

-- a port that has come to the end of its phases can be hung up
pub phases_over : {HasOrder : Scene → List PlainEntry → Type 0} (s : Scene) (v : PortValue)
    (putter : PutterState Flagged) (line : LineState) (run : ℕ)
    → IsAtPhaseIn HasOrder s (length s.session.phases) v putter line run
    → v.terminal.phase ≡ length v.counts
phases_over s v putter line run h =
    h.phase
    ∙ sym (ap (λ (xs : List ℕ). length xs) h.of_scene.counts
    ∙ length-map s.session.phases (λ phase. length (scripts_on s.port phase)))

pub at_end_of : {HasOrder : Scene → List PlainEntry → Type 0} (s : Scene) (v : PortValue) (putter : PutterState Flagged)
    (line : LineState) (run : ℕ)
    → IsAtPhaseIn HasOrder s (length s.session.phases) v putter line run
    → HavePlayed s (length s.session.phases) v.journal line.report.overruns.items
    → IsAtEnd s v putter line
at_end_of s v putter line run h played =
    record { port_of = port_of_scene s v h.of_scene; has_put = h.has_put; played = played }

-- ---- port after port

pub last_or : {X : Type 0} (xs : List X) (y : X) (i : ℕ) (x : X)
    → slice_get (xs ++ y ∷ []) i ≡ Some x
    → (slice_get xs i ≡ Some x) ⊎ ((i ≡ length xs) × (Some y ≡ Some x))
last_or [] y zero x h = inr (refl, h)
last_or [] y (suc i) x h = absurd (cc)
last_or (z ∷ xs) y zero x h = inl h
last_or (z ∷ xs) y (suc i) x h = elim (last_or xs y i x h) [ inl p ↦ inl p | inr p ↦ inr (ap (λ n. suc n) p.0, p.1) ]

pub get_none : {X : Type 0} (xs : List X) (i : ℕ) (x : X) → length xs ≤ i → slice_get xs i ≡ Some x → ⊥
get_none [] i x h k = cc
get_none (y ∷ xs) zero x h k = absurd (omega (arith, h))
get_none (y ∷ xs) (suc i) x h k = get_none xs i x (omega (arith, h)) k

abbrev or_else : {X : Type 0} → X → Option X → X
or_else d None = d
or_else d (Some x) = x

pub some_is : {X : Type 0} (x y : X) → Some x ≡ Some y → x ≡ y
some_is x y h = ap (or_else x) h

pub one_more_played : (session : PlainSession) (n : ℕ) (runs : List PortRun) (ends : List PortEnd) (run : PortRun)
    (end : PortEnd)
    → AreFirstPlayed session n runs ends
    → IsPlayedOn n session run end
    → AreFirstPlayed session (n + 1) (runs ++ run ∷ []) (ends ++ end ∷ [])
one_more_played session n runs ends run end before now = record {
  runs_of = length-append runs (run ∷ []) ∙ ap (λ m. m + 1) before.runs_of;
  ends_of = length-append ends (end ∷ []) ∙ ap (λ m. m + 1) before.ends_of;
  each = λ p r e at_run at_end. one_of p r e (last_or runs run p r at_run) (last_or ends end p e at_end);
}
  where
    one_of : (p : ℕ) (r : PortRun) (e : PortEnd)
        → (slice_get runs p ≡ Some r) ⊎ ((p ≡ length runs) × (Some run ≡ Some r))
        → (slice_get ends p ≡ Some e) ⊎ ((p ≡ length ends) × (Some end ≡ Some e))
        → IsPlayedOn p session r e
    one_of p r e (inl a) (inl b) = before.each p r e a b
    one_of p r e (inl a) (inr b) = absurd (get_none runs p r (omega (arith, before.runs_of, before.ends_of, b.0)) a)
    one_of p r e (inr a) (inl b) = absurd (get_none ends p e (omega (arith, before.runs_of, before.ends_of, a.0)) b)
    one_of p r e (inr a) (inr b) =
        subst (λ m. IsPlayedOn m session r e) (sym (a.0 ∙ before.runs_of))
        (subst (λ (x : PortRun). IsPlayedOn n session x e) (some_is run r a.1)
        (subst (λ (x : PortEnd). IsPlayedOn n session run x) (some_is end e b.1) now))

pub one_more_in_order : (session : PlainSession) (n : ℕ) (runs : List PortRun) (run : PortRun)
    → length runs ≡ n
    → AreInOneOrder session runs
    → IsRunInOrder n session run
    → AreInOneOrder session (runs ++ run ∷ [])
one_more_in_order session n runs run count before now p r at = one_of (last_or runs run p r at)
  where
    one_of : (slice_get runs p ≡ Some r) ⊎ ((p ≡ length runs) × (Some run ≡ Some r)) → IsRunInOrder p session r
    one_of (inl a) = before p r a
    one_of (inr a) = subst (λ m. IsRunInOrder m session r) (sym (a.0 ∙ count))
        (subst (λ (x : PortRun). IsRunInOrder n session x) (some_is run r a.1) now)

pub none_in_order : (session : PlainSession) → AreInOneOrder session []
none_in_order session p run at = absurd (get_none [] p run (omega arith) at)

pub none_played : (session : PlainSession) → AreFirstPlayed session 0 [] []
none_played session = record {
  runs_of = refl;
  ends_of = refl;
  each = λ p r e at_run at_end. absurd (get_none [] p r (omega arith) at_run);
}

pub all_played : (session : PlainSession) (n : ℕ) (runs : List PortRun) (ends : List PortEnd)
    → AreFirstPlayed session n runs ends
    → n ≡ session.ports
    → ArePlayed session runs ends
all_played session n runs ends played all =
    record { runs_of_all = played.runs_of ∙ all; ends_of_all = played.ends_of ∙ all; each = played.each }
