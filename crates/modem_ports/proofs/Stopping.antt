-- A journal that is full, in the line of a phase or behind it, whatever the order is.
use Rattle.std.proofs.Common.{◌≡◌, ◌<◌, ℕ, ◌+◌, List, [], ◌∷◌, ◌++◌, length, map, drop, refl, sym, ap, ◌∙◌, subst}
use Rattle.std.proofs.Common.{arith, append_assoc}
use Rattle.tty_base.specs.declared.characters.Flagged.{Flagged}
use Rattle.tty_base.specs.declared.lines.LineStep.{LineStep}
use Rattle.tty_base.specs.declared.lines.Overrun.{Overrun}
use Rattle.word_ring.specs.Ends.{PutterState}
use Rattle.uart_line.specs.LineState.{LineState}
use Rattle.uart_line.specs.Received.{script, received_list}
use Rattle.uart_line.specs.Offered.{HandsOver}
use Rattle.tty_base.specs.Sizes.{MOST_ENTRIES}
use Rattle.tty_calls.specs.Plain.{PlainEvent, PlainEntry}
use Rattle.tty_calls.specs.Sessions.{line_on, ticks_on, call_at, counts_on}
use Rattle.legal_runs.specs.Legal.{phase_at, script_on, script_of_first, session_events, session_events_in}
use Rattle.legal_runs.specs.Short.{after_phases}
use Rattle.port_core.specs.Ports.{PortValue}
use Rattle.play_base.specs.Roles.{Scene}
use Rattle.play_base.specs.Putting.{HasPut}
use Rattle.one_thread.specs.Lines.{PlaysLineIn, StopsInLineIn}
use Rattle.play_base.specs.Phases.{HasFewTicks, HavePlayed, IsFullRun}
use Rattle.one_thread.specs.Acts.{PlayingIn}
use Rattle.play_base.proofs.JournalLemmas.{stops_within, leads_both}
use Rattle.play_base.proofs.PhaseLemmas.{few_ticks}
use Rattle.play_base.proofs.ReceivedLemmas.{script_parts}
use Rattle.play_base.proofs.FullRuns.{full_in_phase}
use Rattle.play_base.specs.declared.roles.Role.{Role}
use Rattle.one_thread.specs.declared.after_line.Stand.{Stand}
use Rattle.tty_calls.specs.declared.sessions.Script.{Script}

script_left : (s : Scene) (k : ℕ) (steps left : List LineStep)
    → script_of_first s.port s.session (k + 1) ≡ steps ++ left
    → script_on s.port s.session ≡ steps ++ (left ++ script (map (line_on s.port) (drop (k + 1) s.session.phases)))
script_left s k steps left h =
    script_parts s.port s.session (k + 1)
    ∙ ap (λ (x : List LineStep). x ++ script (map (line_on s.port) (drop (k + 1) s.session.phases))) h
    ∙ append_assoc steps left (script (map (line_on s.port) (drop (k + 1) s.session.phases)))

-- in the line of phase k
pub full_in_line : {HasOrder : Scene → List PlainEntry → Type 0} (s : Scene) (k : ℕ) (old new : PortValue)
    (now : PutterState Flagged) (played : LineState) (overruns : List Overrun)
    → k < length s.session.phases
    → HavePlayed s k old.journal overruns
    → StopsInLineIn HasOrder s k old new now played
    → IsFullRun s new now played
full_in_line s k old new now played overruns within so_far stops = record {
  full = stops.full;
  ticks = subst (HasFewTicks s) (sym stops.added)
      (few_ticks s k old.journal stops.part old.terminal new.terminal so_far.up_to so_far.ticks stops.leads stops.inside
      (let tick = stops.tick in omega (arith, tick)));
  last =
      ap (after_phases (length s.session.phases)) stops.added
      ∙ stops_within k (length s.session.phases) old.journal stops.part so_far.up_to stops.inside within;
  done = stops.steps;
  left = stops.left ++ script (map (line_on s.port) (drop (k + 1) s.session.phases));
  script_is = script_left s k stops.steps stops.left stops.script;
  has_put = stops.has_put;
}

inside_both : (xs ys : List PlainEntry)
    → session_events_in xs ≡ []
    → session_events_in ys ≡ []
    → session_events_in (xs ++ ys) ≡ []
inside_both [] ys h g = g
inside_both (x ∷ xs) ys h g =
    let front : session_events x.event ≡ [] = none_front (session_events x.event) (session_events_in xs) h in
    let rest : session_events_in xs ≡ [] = none_behind (session_events x.event) (session_events_in xs) h in
    ap (λ (es : List PlainEvent). es ++ session_events_in (xs ++ ys)) front ∙ inside_both xs ys rest g
  where
    none_front : (xs bs : List PlainEvent) → xs ++ bs ≡ [] → xs ≡ []
    none_front [] bs e = refl
    none_front (a ∷ xs) bs e = absurd (cc)

    none_behind : (xs bs : List PlainEvent) → xs ++ bs ≡ [] → bs ≡ []
    none_behind [] bs e = e
    none_behind (a ∷ xs) bs e = absurd (cc)

put_same : (mid v : PortValue) (now left : PutterState Flagged) (played : LineState) (steps : List LineStep)
    → HasPut mid now played steps
    → left ≡ now
    → v.flip.ring ≡ mid.flip.ring
    → v.flip.capacity ≡ mid.flip.capacity
    → HasPut v left played steps
put_same mid v now left played steps h same ring capacity =
    subst (λ (q : PutterState Flagged). HasPut v q played steps) (sym same)
    (record {
      ring = h.ring ∙ sym ring;
      capacity = h.capacity ∙ sym capacity;
      done = h.done;
      hands_over = subst (λ (n : ℕ). HandsOver n [] (received_list steps) [] now.sent [] now.heads []
          played.report.overruns.items) (sym capacity) h.hands_over;
      room = h.room;
    })

-- behind the line of phase k
pub full_behind_line : {HasOrder : Scene → List PlainEntry → Type 0} (s : Scene) (k : ℕ) (old mid v : PortValue)
    (now left : PutterState Flagged) (line played : LineState) (run : ℕ) (overruns : List Overrun)
    (scripts : List Script) (roles : List Role) (ticks : ℕ) (stand : Stand)
    → k < length s.session.phases
    → HavePlayed s k old.journal overruns
    → PlaysLineIn HasOrder s k old mid now line played run
    → PlayingIn HasOrder s scripts roles mid v ticks stand
    → ticks ≡ ticks_on s.port (phase_at s.session mid.terminal.phase)
    → length v.journal ≡ MOST_ENTRIES
    → left ≡ now
    → IsFullRun s v left played
full_behind_line s k old mid v now left line played run overruns scripts roles ticks stand within so_far plays its
    ticks_are full same =
    let front : List PlainEntry = plays.flushes ++ plays.last ∷ [] in
    let front_inside : session_events_in front ≡ [] =
    inside_both plays.flushes (plays.last ∷ []) plays.inside
    (ap (λ (e : PlainEvent). session_events e ++ []) plays.ends) in
    let bound : ticks_on s.port (phase_at s.session mid.terminal.phase) ≡ ticks_on s.port (phase_at s.session k) =
    ap (λ n. ticks_on s.port (phase_at s.session n)) plays.phase in
    let tick = its.tick in
    let was = plays.tick in
    full_in_phase s k old v left played overruns (front ++ its.part) within so_far full
    (its.added
    ∙ (ap (λ (x : List PlainEntry). x ++ its.part) plays.added ∙ append_assoc old.journal front its.part))
    (leads_both (call_at s.port s.session) (counts_on s.port s.session) old.terminal front mid.terminal its.part
    v.terminal
    plays.leads its.leads)
    (inside_both front its.part front_inside its.inside)
    (omega (arith, tick, was, ticks_are, bound))
    (put_same mid v now left played (script_of_first s.port s.session (k + 1)) plays.has_put same its.ring
    (its.plays.of_scene.capacity ∙ sym plays.after_line.of_scene.capacity))
