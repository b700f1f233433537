-- A port with its line and callers, over one phase.
use Rattle.std.proofs.Common.{◌≡◌, ℕ, ◌+◌, ◌<◌, ◌≤◌, List, [], ◌∷◌, ◌++◌, Option, length}
use Rattle.std.proofs.Common.{map, drop, sym, ◌∙◌, ap, subst, arith, append_assoc}
use Rattle.std.specs.Prelude.{All, Result, Ok, Err, IfErr, OnErr}
use Rattle.tty_base.specs.declared.characters.Flagged.{Flagged}
use Rattle.tty_base.specs.declared.lines.LineStep.{LineStep}
use Rattle.tty_base.specs.declared.lines.Overrun.{Overrun}
use Rattle.word_ring.specs.Ends.{PutterState, with_loaded}
use Rattle.uart_line.specs.LineState.{LineState}
use Rattle.uart_line.specs.Received.{received_list, script}
use Rattle.uart_line.specs.Offered.{HandsOver, kept_list}
use Rattle.uart_line.proofs.OfferedLemmas.{HandsOver-kept}
use Rattle.tty_base.specs.Lines.{arrival_count}
use Rattle.tty_calls.specs.declared.answers.Denied.{Denied}
use Rattle.tty_calls.specs.declared.answers.Denied.TheVariants.{NoMemory, Full}
use Rattle.tty_calls.specs.Plain.{PlainCall, PlainEvent, PlainEntry, phase_ended}
use Rattle.tty_calls.specs.Sessions.{line_on, ticks_on, scripts_on, call_at, counts_on}
use Rattle.tty_terminal.specs.declared.callers.CallerState.{CallerState}
use Rattle.tty_terminal.specs.Terminals.{Terminal, caller_at}
use Rattle.tty_terminal.specs.Runs.{Leads}
use Rattle.legal_runs.specs.Legal.{phase_at, name_at, has_script, first_step, steps_in, script_of_first, script_on}
use Rattle.legal_runs.specs.Legal.{received_before}
use Rattle.legal_runs.specs.Short.{after_phases}
use Rattle.legal_runs.specs.Phases.{HasPlayed, CompletesPhase}
use Rattle.port_core.specs.Ports.{PortValue}
use Rattle.legal_runs.specs.Order.{Place, place_after, first_place, cuts_flushed}
use Rattle.play_base.specs.Roles.{Scene}
use Rattle.play_base.specs.Scenes.{place_of, AreAtFirst, IsOfSceneIn}
use Rattle.one_thread.specs.Stages.{EndsAfterLineIn, StopsAfterLine}
use Rattle.play_base.specs.Putting.{HasPut}
use Rattle.play_base.specs.Beginning.{IsAtPhaseIn, IsAtPhase}
use Rattle.one_thread.specs.Lines.{PlaysLineIn, PlaysLine, StopsInLineIn, StopsLine}
use Rattle.play_base.specs.Phases.{HasFewTicks, HavePlayed, HavePlayedInOrder, IsFullRun, StopsFull}
use Rattle.legal_runs.proofs.Places.{place_more}
use Rattle.play_base.proofs.JournalLemmas.{none_ends, leads_both, stops_within}
use Rattle.play_base.proofs.ReceivedLemmas.{script_parts, kept_later, arrivals_fit, hands_over_loaded}
use Rattle.play_base.proofs.PhaseLemmas.{few_ticks, phase_stays, PlaysPart, line_inside, all_see_within, played_more}
use Rattle.play_base.proofs.PhaseLemmas.{seen_all_more}
use Rattle.play_base.proofs.FullRuns.{full_in_phase}

-- ---- places

-- at the beginning of a phase no cut of it was flushed
no_cuts : (s : Scene) (journal part : List PlainEntry) (last : PlainEntry)
    → last.event ≡ phase_ended
    → (place_of s (journal ++ (part ++ last ∷ []))).cuts ≡ 0
no_cuts s journal part last ends =
    let calls : ℕ → ℕ → Option PlainCall = call_at s.port s.session in
    let first : Place = first_place s.port s.session in
    ap (λ (x : List PlainEntry). (place_after calls first x).cuts) (sym (append_assoc journal part (last ∷ [])))
    ∙ ap (λ (q : Place). q.cuts) (place_more calls first (journal ++ part) last)
    ∙ ap
    (λ (event : PlainEvent). cuts_flushed (place_after calls first (journal ++ part)).terminal
    event (place_after calls first (journal ++ part)).cuts) ends

-- ---- what was put, over the end of a phase

put_on : (v w : PortValue) (putter now : PutterState Flagged) (line : LineState) (steps : List LineStep) (head : ℕ)
    → HasPut v putter line steps
    → now ≡ with_loaded (record putter { pushed = putter.sent }) head
    → w.flip.ring ≡ v.flip.ring
    → w.flip.capacity ≡ v.flip.capacity
    → HasPut w now line steps
put_on v w putter now line steps head put met ring capacity =
    subst (λ (p : PutterState Flagged). HasPut w p line steps) (sym met) (record {
      ring = put.ring ∙ sym ring;
      capacity = put.capacity ∙ sym capacity;
      done = put.done;
      hands_over = subst (λ n. HandsOver n [] (received_list steps) [] putter.sent [] (putter.heads ++ head ∷ [])
          [] line.report.overruns.items)
          (sym capacity)
          (hands_over_loaded v.flip.capacity (received_list steps) putter.sent putter.heads (head ∷ [])
          line.report.overruns.items put.hands_over);
      room = put.room;
    })

same_put : (v w : PortValue) (putter now : PutterState Flagged) (line : LineState) (steps : List LineStep)
    → HasPut v putter line steps
    → now ≡ putter
    → w.flip.ring ≡ v.flip.ring
    → w.flip.capacity ≡ v.flip.capacity
    → HasPut w now line steps
same_put v w putter now line steps put same ring capacity =
    subst (λ (p : PutterState Flagged). HasPut w p line steps) (sym same) (record {
      ring = put.ring ∙ sym ring;
      capacity = put.capacity ∙ sym capacity;
      done = put.done;
      hands_over = subst
          (λ n. HandsOver n [] (received_list steps) [] putter.sent [] putter.heads [] line.report.overruns.items)
          (sym capacity) put.hands_over;
      room = put.room;
    })

same_capacity : {HasOrder : Scene → List PlainEntry → Type 0} (s : Scene) (v w : PortValue)
    → IsOfSceneIn HasOrder s v
    → IsOfSceneIn HasOrder s w
    → w.flip.capacity ≡ v.flip.capacity
same_capacity s v w old new = new.capacity ∙ sym old.capacity

-- ---- the end of a phase

end_phase : {HasOrder : Scene → List PlainEntry → Type 0} (s : Scene) (k : ℕ) (old mid : PortValue)
    (now : PutterState Flagged) (line played : LineState) (run : ℕ) (new : PortValue) (left : PutterState Flagged)
    (next : ℕ)
    → PlaysLineIn HasOrder s k old mid now line played run
    → (ends : EndsAfterLineIn HasOrder s mid new now left next)
    → ends.terminal.phase ≡ k
end_phase s k old mid now line played run new left next plays ends =
    let stays = phase_stays (call_at s.port s.session) (counts_on s.port s.session)
    mid.terminal ends.part ends.terminal ends.leads in
    let none = none_ends ends.part ends.inside in
    let here = plays.phase in
    omega (arith, stays, none, here)

pub at_next_phase : {HasOrder : Scene → List PlainEntry → Type 0} (s : Scene) (k : ℕ) (old mid new : PortValue)
    (putter now left : PutterState Flagged) (line played : LineState) (run after_line next : ℕ)
    → IsAtPhaseIn HasOrder s k old putter line run
    → PlaysLineIn HasOrder s k old mid now line played after_line
    → EndsAfterLineIn HasOrder s mid new now left next
    → IsAtPhaseIn HasOrder s (k + 1) new left played next
at_next_phase s k old mid new putter now left line played run after_line next before plays ends =
    let phase = end_phase s k old mid now line played after_line new left next plays ends in
    let capacity = same_capacity s old new before.of_scene ends.of_scene in
    let put = put_on mid new now left played (script_of_first s.port s.session (k + 1)) (length new.flip.taken)
    plays.has_put ends.met ends.ring (same_capacity s mid new plays.after_line.of_scene ends.of_scene) in
    record {
      of_scene = ends.of_scene;
      phase = ap (λ (t : Terminal). t.phase) ends.next ∙ ap (λ n. n + 1) phase;
      line_over = ap (λ (t : Terminal). t.line_over) ends.next;
      clock_over = ap (λ (t : Terminal). t.clock_over) ends.next;
      callers = subst (λ n. AreAtFirst s (n + 1) new.terminal) plays.phase ends.at_first;
      begins_run = ends.begins_run;
      rest = ends.rest;
      cuts =
          ap (λ (x : List PlainEntry). (place_of s x).cuts) ends.added
          ∙ no_cuts s mid.journal ends.part ends.last ends.ends;
      some_room = let room = before.some_room in omega (arith, room, capacity);
      sent =
          ap (λ (t : Terminal). t.sent) ends.next
          ∙ ends.sent
          ∙ plays.sent
          ∙ ap (λ (p : PutterState Flagged). length p.sent) (sym ends.met);
      has_put = put;
      most = (let same = plays.most in let most = before.most in omega arith);
    }

-- the line of the phase, and what comes after it
leads_on : (s : Scene) (t m u : Terminal) (flushes : List PlainEntry) (last : PlainEntry) (part : List PlainEntry)
    → Leads (call_at s.port s.session) (counts_on s.port s.session) t (flushes ++ last ∷ []) m
    → Leads (call_at s.port s.session) (counts_on s.port s.session) m part u
    → Leads (call_at s.port s.session) (counts_on s.port s.session) t (flushes ++ last ∷ part) u
leads_on s t m u flushes last part h k =
    subst (λ (es : List PlainEntry). Leads (call_at s.port s.session) (counts_on s.port s.session) t es u)
    (append_assoc flushes (last ∷ []) part)
    (leads_both (call_at s.port s.session) (counts_on s.port s.session) t (flushes ++ last ∷ []) m part u h k)

-- the phase as it was played
plays_part : {HasOrder : Scene → List PlainEntry → Type 0} (s : Scene) (k : ℕ) (old mid new : PortValue)
    (putter now left : PutterState Flagged) (line played : LineState) (run after_line next : ℕ)
    → k < length s.session.phases
    → IsAtPhaseIn HasOrder s k old putter line run
    → (plays : PlaysLineIn HasOrder s k old mid now line played after_line)
    → (ends : EndsAfterLineIn HasOrder s mid new now left next)
    → PlaysPart s k old.terminal plays.flushes plays.last (length now.sent) ends.part ends.last ends.terminal
plays_part s k old mid new putter now left line played run after_line next within before plays ends = record {
  within = within;
  begins = record {
    line = before.line_over;
    clock = before.clock_over;
    callers = λ c. ap (λ (x : CallerState). x.over) (before.callers c);
  };
  inside = line_inside plays.flushes plays.last (length now.sent) ends.part plays.inside plays.ends ends.inside;
  none = plays.no_end;
  line = plays.ends;
  leads = leads_on s old.terminal mid.terminal ends.terminal plays.flushes plays.last ends.part plays.leads ends.leads;
  ends = ends.ends;
  tick =
      ends.tick
      ∙ ap (λ n. n + ticks_on s.port (phase_at s.session mid.terminal.phase)) plays.tick
      ∙ ap (λ n. old.terminal.tick + ticks_on s.port (phase_at s.session n)) plays.phase;
}

completes_phase : {HasOrder : Scene → List PlainEntry → Type 0} (s : Scene) (k : ℕ) (old mid new : PortValue)
    (putter now left : PutterState Flagged) (line played : LineState) (run after_line next : ℕ)
    → IsAtPhaseIn HasOrder s k old putter line run
    → (plays : PlaysLineIn HasOrder s k old mid now line played after_line)
    → (ends : EndsAfterLineIn HasOrder s mid new now left next) → (more : List Overrun)
    → All (λ o. received_before s.port s.session (k + 1) ≤ o.at) more
    → CompletesPhase s.port s.session (played.report.overruns.items ++ more) k old.terminal ends.terminal
completes_phase s k old mid new putter now left line played run after_line next before plays ends more later =
    let list : List Flagged = received_list (script_of_first s.port s.session (k + 1)) in
    let kept : now.sent ≡ kept_list list played.report.overruns.items =
    HandsOver-kept mid.flip.capacity list now.sent now.heads played.report.overruns.items plays.has_put.hands_over in
    let same : kept_list list (played.report.overruns.items ++ more) ≡ kept_list list played.report.overruns.items =
    kept_later list played.report.overruns.items more later in
    record {
      line = ends.line;
      sent = ends.sent ∙ plays.sent ∙ ap (λ (cs : List Flagged). length cs) (kept ∙ sym same);
      clock = ends.clock;
      tick =
          ends.tick
          ∙ ap (λ n. n + ticks_on s.port (phase_at s.session mid.terminal.phase)) plays.tick
          ∙ ap (λ n. old.terminal.tick + ticks_on s.port (phase_at s.session n)) plays.phase;
      first = λ c. ap (λ (x : CallerState). x.next) (before.callers c);
      callers = λ c. subst (λ n. HasPlayed
          (has_script (scripts_on s.port (phase_at s.session n)) (name_at s.port s.session c))
          (first_step s.port s.session n c) (steps_in s.port s.session n c) (caller_at ends.terminal c).next
          (caller_at ends.terminal c).over) plays.phase (ends.callers c);
    }

-- the journal after the phase
journal_after : (journal mid new flushes : List PlainEntry) (last : PlainEntry) (part : List PlainEntry)
    (end : PlainEntry)
    → mid ≡ journal ++ (flushes ++ last ∷ [])
    → new ≡ mid ++ (part ++ end ∷ [])
    → new ≡ journal ++ ((flushes ++ last ∷ part) ++ end ∷ [])
journal_after journal mid new flushes last part end is ends =
    ends
    ∙ ap (λ (x : List PlainEntry). x ++ (part ++ end ∷ [])) is
    ∙ append_assoc journal (flushes ++ last ∷ []) (part ++ end ∷ [])
    ∙ ap (λ (x : List PlainEntry). journal ++ x) (sym (append_assoc (flushes ++ last ∷ []) part (end ∷ [])))
    ∙ ap (λ (x : List PlainEntry). journal ++ (x ++ end ∷ [])) (append_assoc flushes (last ∷ []) part)

pub played_phase : {HasOrder : Scene → List PlainEntry → Type 0} (s : Scene) (k : ℕ) (old mid new : PortValue)
    (putter now left : PutterState Flagged) (line played : LineState) (run after_line next : ℕ)
    → k < length s.session.phases
    → IsAtPhaseIn HasOrder s k old putter line run
    → HavePlayedInOrder s k old.journal line.report.overruns.items
    → PlaysLineIn HasOrder s k old mid now line played after_line
    → EndsAfterLineIn HasOrder s mid new now left next
    → HavePlayedInOrder s (k + 1) new.journal played.report.overruns.items
played_phase s k old mid new putter now left line played run after_line next within before so_far plays ends =
    let part = plays_part s k old mid new putter now left line played run after_line next within before plays ends in
    let whole : List PlainEntry = old.journal ++ ((plays.flushes ++ plays.last ∷ ends.part) ++ ends.last ∷ []) in
    let journal : new.journal ≡ whole =
    journal_after old.journal mid.journal new.journal plays.flushes
    plays.last ends.part ends.last plays.added ends.added in
    let completes : (more : List Overrun)
    → All (λ o. received_before s.port s.session (k + 1) ≤ o.at) more
    → CompletesPhase s.port s.session ((line.report.overruns.items ++ plays.overruns) ++ more)
    k old.terminal ends.terminal =
    λ more later. subst
    (λ (os : List Overrun). CompletesPhase s.port s.session (os ++ more) k old.terminal ends.terminal)
    plays.more_overruns
    (completes_phase s k old mid new putter now left line played run after_line next before plays ends more later) in
    subst (λ (x : List PlainEntry). HavePlayedInOrder s (k + 1) x played.report.overruns.items) (sym journal)
    (subst (λ (os : List Overrun). HavePlayedInOrder s (k + 1) whole os) (sym plays.more_overruns) (record {
      played = played_more s k old.terminal old.journal plays.flushes plays.last (length now.sent) ends.part ends.last
          ends.terminal line.report.overruns.items plays.overruns so_far.played part completes
          (all_see_within s k old.journal plays.flushes plays.overruns plays.seen);
      see_all = seen_all_more s k old.terminal old.journal plays.flushes plays.last (length now.sent) ends.part
          ends.last ends.terminal line.report.overruns.items plays.overruns so_far part plays.seen;
    }))

-- ---- a full journal

script_left : (s : Scene) (k : ℕ) (steps left : List LineStep)
    → script_of_first s.port s.session (k + 1) ≡ steps ++ left
    → script_on s.port s.session ≡ steps ++ (left ++ script (map (line_on s.port) (drop (k + 1) s.session.phases)))
script_left s k steps left h =
    script_parts s.port s.session (k + 1)
    ∙ ap (λ (x : List LineStep). x ++ script (map (line_on s.port) (drop (k + 1) s.session.phases))) h
    ∙ append_assoc steps left (script (map (line_on s.port) (drop (k + 1) s.session.phases)))

full_in_line : {HasOrder : Scene → List PlainEntry → Type 0} (s : Scene) (k : ℕ) (old new : PortValue)
    (putter now : PutterState Flagged) (line played : LineState) (run : ℕ)
    → k < length s.session.phases
    → IsAtPhaseIn HasOrder s k old putter line run
    → HavePlayed s k old.journal line.report.overruns.items
    → StopsInLineIn HasOrder s k old new now played
    → IsFullRun s new now played
full_in_line s k old new putter now line played run within before so_far stops = record {
  full = stops.full;
  ticks = subst (HasFewTicks s) (sym stops.added)
      (few_ticks s k old.journal stops.part old.terminal new.terminal so_far.up_to so_far.ticks stops.leads stops.inside
      (let tick = stops.tick in omega (arith, tick)));
  last =
      ap (after_phases (length s.session.phases)) stops.added
      ∙ stops_within k (length s.session.phases) old.journal stops.part so_far.up_to stops.inside within;
  done = stops.steps;
  left = stops.left ++ script (map (line_on s.port) (drop (k + 1) s.session.phases));
  script_is = script_left s k stops.steps stops.left stops.script;
  has_put = stops.has_put;
}

full_after_line : (s : Scene) (k : ℕ) (old mid new : PortValue) (putter now left : PutterState Flagged)
    (line played : LineState) (run after_line : ℕ)
    → k < length s.session.phases
    → IsAtPhase s k old putter line run
    → HavePlayed s k old.journal line.report.overruns.items
    → PlaysLine s k old mid now line played after_line
    → StopsAfterLine s mid new Full
    → left ≡ now
    → IsFullRun s new left played
full_after_line s k old mid new putter now left line played run after_line within before so_far plays stops same =
    let part : List PlainEntry = plays.flushes ++ plays.last ∷ stops.part in
    let bound : ticks_on s.port (phase_at s.session mid.terminal.phase) ≡ ticks_on s.port (phase_at s.session k) =
    ap (λ n. ticks_on s.port (phase_at s.session n)) plays.phase in
    full_in_phase s k old new left played line.report.overruns.items part within so_far
    (stops.full ∙ stops.of_scene.limit)
    (stops.added
    ∙ ap (λ (x : List PlainEntry). x ++ stops.part) plays.added
    ∙ append_assoc old.journal (plays.flushes ++ plays.last ∷ []) stops.part
    ∙ ap (λ (x : List PlainEntry). old.journal ++ x) (append_assoc plays.flushes (plays.last ∷ []) stops.part))
    (leads_on s old.terminal mid.terminal new.terminal plays.flushes plays.last stops.part plays.leads stops.leads)
    (line_inside plays.flushes plays.last (length now.sent) stops.part plays.inside plays.ends stops.inside)
    (let ticks = stops.ticks in let tick = plays.tick in omega (arith, ticks, tick, bound))
    (same_put mid new now left played (script_of_first s.port s.session (k + 1)) plays.has_put same stops.ring
    (same_capacity s mid new plays.after_line.of_scene stops.of_scene))

-- ---- the player's exits

pub room_for_line : {HasOrder : Scene → List PlainEntry → Type 0} (s : Scene) (k : ℕ) (v : PortValue)
    (putter : PutterState Flagged) (line : LineState) (run : ℕ) (steps : List LineStep)
    → IsAtPhaseIn HasOrder s k v putter line run
    → k < length s.session.phases
    → steps ≡ line_on s.port (phase_at s.session k)
    → line.report.arrived + arrival_count steps ≤ line.most
room_for_line s k v putter line run steps before within is =
    let fit = arrivals_fit s.port s.session k within in
    let count = ap arrival_count is in
    let arrived = before.has_put.done.arrived in
    let most = before.most in
    omega (arith, fit, count, arrived, most)

pub stopped_in_line : (d : Denied) (s : Scene) (k : ℕ) (old new : PortValue) (putter now : PutterState Flagged)
    (line played : LineState) (run : ℕ)
    → k < length s.session.phases
    → IsAtPhase s k old putter line run
    → HavePlayedInOrder s k old.journal line.report.overruns.items
    → StopsLine d s k old new now played
    → StopsFull d s new now played
stopped_in_line NoMemory s k old new putter now line played run within before so_far stops = tt
stopped_in_line Full s k old new putter now line played run within before so_far stops =
    (stops.of_scene, full_in_line s k old new putter now line played run within before so_far.played stops)

pub stopped_after_line : (d : Denied) (s : Scene) (k : ℕ) (old mid new : PortValue)
    (putter now left : PutterState Flagged) (line played : LineState) (run after_line : ℕ)
    → k < length s.session.phases
    → IsAtPhase s k old putter line run
    → HavePlayedInOrder s k old.journal line.report.overruns.items
    → PlaysLine s k old mid now line played after_line
    → StopsAfterLine s mid new d
    → left ≡ now
    → StopsFull d s new left played
stopped_after_line NoMemory s k old mid new putter now left line
    played run after_line within before so_far plays stops same = tt
stopped_after_line Full s k old mid new putter now left line
    played run after_line within before so_far plays stops same = (
      stops.of_scene,
      full_after_line s k old mid new putter now left line played
          run after_line within before so_far.played plays stops same,
    )

-- what an `Err` says, with what stayed
pub err_with : {T E : Type 0} (P R : E → Type 0) (Q : Type 0) (r : Result T E)
    → IfErr r P
    → OnErr r Q
    → ((e : E) → P e → Q → R e)
    → IfErr r R
err_with P R Q (Ok x) h k f = tt
err_with P R Q (Err e) h k f = f e h k
