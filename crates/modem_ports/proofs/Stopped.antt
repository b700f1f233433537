-- A port with modem lines whose journal is full: as far as it went, in the line of a phase or behind it.
use Rattle.std.proofs.Common.{◌≡◌, ◌<◌, ℕ, ◌+◌, Bool, true, false, List, [], ◌∷◌, ◌++◌}
use Rattle.std.proofs.Common.{length, if◌then◌else◌, sym, ap, ◌∙◌, subst, arith, append-nil}
use Rattle.tty_base.specs.declared.characters.Flagged.{Flagged}
use Rattle.tty_base.specs.declared.lines.LineStep.{LineStep}
use Rattle.word_ring.specs.Ends.{PutterState}
use Rattle.uart_line.specs.LineState.{LineState}
use Rattle.tty_calls.specs.declared.answers.Denied.{Denied}
use Rattle.tty_calls.specs.declared.answers.Denied.TheVariants.{NoMemory, Full}
use Rattle.tty_calls.specs.Plain.{PlainEntry}
use Rattle.tty_calls.specs.Sessions.{PlainSession, ticks_on, call_at, counts_on}
use Rattle.tty_terminal.specs.Terminals.{Terminal}
use Rattle.tty_terminal.specs.Runs.{Leads}
use Rattle.legal_runs.specs.Legal.{phase_at}
use Rattle.port_core.specs.Ports.{PortValue, IsPort}
use Rattle.one_thread.specs.Acts.{PlaysItsLine, StopsItsLine, PlayingIn}
use Rattle.legal_runs.specs.Order.{AreInTurn}
use Rattle.one_thread.specs.Lines.{PlaysLineIn, StopsInLineIn}
use Rattle.play_base.specs.Scenes.{HasAnyOrder, place_of}
use Rattle.play_base.specs.declared.roles.Role.{Role}
use Rattle.order_laws.specs.Agreed.{Agrees, IsLike}
use Rattle.order_laws.proofs.Agreeing.{before_all}
use Rattle.order_laws.proofs.InEach.{same_calls}
use Rattle.order_laws.proofs.Shapes.{at_phase}
use Rattle.modem_ports.proofs.Stopping.{full_in_line, full_behind_line}
use Rattle.passed_calls.specs.Blocks.{names_on}
use Rattle.passed_calls.specs.Derived.{Passing, AreInSteps, by_caller}
use Rattle.order_laws.specs.Passed.{begin_of}
use Rattle.order_laws.specs.Witness.{scene_on}
use Rattle.order_laws.specs.Begun.{begun_at}
use Rattle.modem_text.specs.Sessions.{ModemCall, PinStep, blocks_in}
use Rattle.modem_text.specs.Events.{events_on}
use Rattle.modem_steps.specs.Derived.{block_phases, passings_on}
use Rattle.modem_one.specs.Desk.{DeskState}
use Rattle.modem_one.specs.Playing.{passings_with, next_passing}
use Rattle.modem_one.specs.AfterLine.{FillsTurns, StopsTurns}
use Rattle.modem_ports.specs.declared.phases.ModemStation.{ModemStation}
use Rattle.modem_ports.specs.Ports.{passed_by, IsModemsFull}
use Rattle.modem_ports.specs.Between.{IsStoppedBy, Setting, BeginsPhase}
use Rattle.modem_ports.proofs.Lines.{AreBeforeEnd, before_stop}
use Rattle.modem_ports.proofs.Resting.{begun_stays}
use Rattle.tty_terminal.specs.Standing.{standing_in, at_first}
use Rattle.one_thread.specs.Acts.{PlayingIn}
use Rattle.order_laws.specs.Growth.{HasShape}
use Rattle.passed_calls.specs.Blocks.{Block}
use Rattle.passed_calls.specs.Derived.{blocks_of}
use Rattle.passed_calls.specs.Logs.{logged_on}
use Rattle.std.proofs.Common.{zero, suc, take}
use Rattle.std.specs.Prelude.{slice_get}
use Rattle.order_laws.specs.Passed.{IsPassedBy, steps_named}
use Rattle.passed_ports.proofs.Alike.{agrees_alike}
use Rattle.modem_one.specs.Played.{port_in}
use Rattle.modem_one.proofs.Shares.{names_same}
use Rattle.modem_ports.proofs.Lines.{entries_in_line, place_in}
use Rattle.modem_ports.proofs.Counted.{mine_is}
use Rattle.modem_ports.proofs.Logged.{logged_in}
use Rattle.modem_ports.proofs.Resting.{begun_is, begun_stays, none_in_line}
use Rattle.modem_ports.proofs.Phased.{idle_first, place_first, line_begins, line_in, same_behind, frame_of}
use Rattle.modem_derived.proofs.ByEvents.{none_begun}

abbrev Begins : (s : Setting) (roles : List Role) (at : ModemStation) (run : ℕ) (left : List (List ModemCall))
    (items : List PinStep) (steps : List LineStep) (ticks : ℕ)
    → Type 0
Begins s roles at run left items steps ticks =
    BeginsPhase s roles at at.station.port.terminal.phase run left items steps ticks

-- ---- the line

-- two sessions of the same shape as a third one
between : (p : ℕ) (first session other : PlainSession)
    → HasShape p first session
    → HasShape p first other
    → HasShape p session other
between p first session other a b = record {
  consoles = b.consoles ∙ sym a.consoles;
  flip = b.flip ∙ sym a.flip;
  lines = b.lines ∙ sym a.lines;
  names = b.names ∙ sym a.names;
}

-- in a scene that agrees with the port as the line began, what it did is in its turn
pub in_its_turn : (s : Setting) (roles : List Role) (at : ModemStation) (run : ℕ) (left : List (List ModemCall))
    (items : List PinStep) (steps : List LineStep) (ticks : ℕ) (v : PortValue) (putter : PutterState Flagged)
    (line : LineState) (played : PlainSession) (part : List PlainEntry)
    → Begins s roles at run left items steps ticks
    → StopsItsLine Full steps at.station.port v at.station.putter putter at.station.line line run
    → IsLike s.first (scene_on s.first.port played)
    → Agrees (scene_on s.first.port played) at.station.port
    → v.journal ≡ at.station.port.journal ++ part
    → AreInTurn s.first.port played (place_in s.first played at.station.port) part
    × AreBeforeEnd (call_at s.first.port played) (place_in s.first played at.station.port) part
in_its_turn s roles at run left items steps ticks v putter line played part h stops like agrees added =
    let p = s.first.port in
    let old = at.station.port in
    let z = scene_on p played in
    let its = line_in s roles at run left items steps ticks z h like agrees in
    let here : StopsInLineIn HasAnyOrder z old.terminal.phase old v putter line = stops.each its in
    let same : here.part ≡ part = same_behind old.journal here.part part (sym here.added ∙ added) in
    let place : (place_of z old.journal).terminal ≡ old.terminal =
    place_first z old.terminal.phase old at.station.putter at.station.line run its.begins h.between.port in
    let leads : Leads (call_at p played) (counts_on p played) (place_of z old.journal).terminal here.part v.terminal =
    subst (λ (t : Terminal). Leads (call_at p played) (counts_on p played) t here.part v.terminal) (sym place)
    here.leads in
    let before : AreBeforeEnd (call_at p played) (place_of z old.journal) here.part =
    before_stop (call_at p played) (counts_on p played) (place_of z old.journal) here.part v.terminal leads here.inside
    here.line_over in (
      subst (λ (es : List PlainEntry). AreInTurn p played (place_of z old.journal) es) same here.in_turn,
      subst (λ (es : List PlainEntry). AreBeforeEnd (call_at p played) (place_of z old.journal) es) same before,
    )

pub line_full : (s : Setting) (roles : List Role) (at : ModemStation) (run : ℕ) (left : List (List ModemCall))
    (items : List PinStep) (steps : List LineStep) (ticks : ℕ) (v : PortValue) (putter : PutterState Flagged)
    (line : LineState)
    → Begins s roles at run left items steps ticks
    → StopsItsLine Full steps at.station.port v at.station.putter putter at.station.line line run
    → IsPort v
    → IsModemsFull s.first s.session v putter line at.desk
line_full s roles at run left items steps ticks v putter line h stops port =
    let first = s.first in
    let p = first.port in
    let session = s.session in
    let old = at.station.port in
    let k = old.terminal.phase in
    let b = h.between.before in
    let has = b.has in
    let d = at.desk in
    let phases = block_phases session in
    let mine = passed_by session p d in
    let begins = line_begins s roles at run left items steps ticks h in
    let stopped = stops.each begins in
    let own = in_its_turn s roles at run left items steps ticks v putter line has.session stopped.part h stops
    has.like has.agrees stopped.added in
    let idle : (c : ℕ) → (standing_in c v.journal at_first).begun ≡ false = λ c.
    begun_is v c port
    ∙ (begun_stays old v stopped.part c h.between.port port stopped.added
    (none_in_line p has.session (place_in first has.session old) c stopped.part own.0 own.1)
    ∙ idle_first first session old at.station.putter at.station.line run d b c) in
    let before : (played : PlainSession)
    → IsLike first (scene_on p played)
    → IsPassedBy p phases mine played
    → Agrees (scene_on p played) old =
    λ played like by.
    agrees_alike p phases mine has.session played old (between p first.session has.session played has.like.shape
    like.shape)
    has.by by has.agrees in
    record {
      port = port;
      number = b.desk.number;
      ring = stopped.has_put.ring;
      mine = mine;
      passed = λ c.
          ap (λ (ms : List Passing). by_caller c (passings_on session d.log p ++ ms))
          (none_begun session p (events_on p d.log) v.journal idle)
          ∙ ap (by_caller c) (append-nil (passings_on session d.log p));
      has = record {
        session = has.session;
        by = has.by;
        within = has.within;
        ports = has.ports;
        flips = has.flips;
        like = has.like;
        agrees = record { known = stopped.of_scene.known; in_phases = stopped.of_scene.in_phases };
      };
      full = λ played like by agrees.
          let z = scene_on p played in
          let agreed = before played like by in
          let its = line_in s roles at run left items steps ticks z h like agreed in
          let here : StopsInLineIn HasAnyOrder z k old v putter line = stops.each its in (
            here.of_scene,
            full_in_line z k old v putter line at.station.line.report.overruns.items its.within
                (b.each.each z like agreed).1.played here,
          );
      logged = λ played like by agrees.
          let z = scene_on p played in
          let agreed = before played like by in
          let turns = in_its_turn s roles at run left items steps ticks v putter line played stopped.part h stops
          like agreed stopped.added in
          logged_in first session played old d [] v.journal stopped.part b.desk like agreed
          (b.each.each z like agreed).0.of_scene stopped.added
          (entries_in_line played (port_in session played p v.journal) (logged_on p d.log) (place_in first played old)
          (length old.journal) stopped.part turns.0 turns.1);
    }

-- ---- behind the line

some_below : (names : List (List ℕ)) (blocks : List Block) (p c m : ℕ)
    → m < steps_named p blocks (slice_get names c)
    → c < length names
some_below [] blocks p c m lt = absurd (omega (arith, lt))
some_below (name ∷ names) blocks p zero m lt = omega arith
some_below (name ∷ names) blocks p (suc c) m lt =
    let below = some_below names blocks p c m lt in
    omega (arith, below)

last_before : (from end : ℕ) (ms : List Passing) (m : Passing) → AreInSteps from end (ms ++ m ∷ []) → m.step < end
last_before from end [] m are = are.1
last_before from end (x ∷ ms) m are = last_before x.step end ms m are.2

pub turns_full : (s : Setting) (roles : List Role) (at : ModemStation) (run : ℕ) (left : List (List ModemCall))
    (items : List PinStep) (steps : List LineStep) (ticks : ℕ) (mid : PortValue) (putter : PutterState Flagged)
    (line : LineState) (later : ℕ) (v : PortValue) (now : PutterState Flagged) (y : DeskState)
    → Begins s roles at run left items steps ticks
    → PlaysItsLine steps at.station.port mid at.station.putter putter at.station.line line run later
    → FillsTurns (frame_of s mid ticks) roles v y
    → now ≡ putter
    → IsPort v
    → IsModemsFull s.first s.session v now line y
turns_full s roles at run left items steps ticks mid putter line later v now y h plays fills same port =
    let first = s.first in
    let p = first.port in
    let session = s.session in
    let old = at.station.port in
    let k = old.terminal.phase in
    let b = h.between.before in
    let f = frame_of s mid ticks in
    let phases = block_phases session in
    let playing = fills.playing.playing in
    let desk = fills.playing.desk in
    let has = playing.has in
    let mine : ℕ → List Passing = passings_with session p y (begun_at v) in
    let on = plays.each (line_begins s roles at run left items steps ticks h) in
    let own : PlayingIn HasAnyOrder (scene_on p has.session) (f.scripts (scene_on p has.session)) roles mid v ticks
    fills.stand =
    playing.each.each (scene_on p has.session) has.like has.agrees in
    let known : (c : ℕ) → begun_at v c ≡ true → c < length (names_on p (blocks_in session)) = λ c begun.
    subst (λ (ns : List (List ℕ)). c < length ns) (sym (names_same p session))
    (some_below (names_on p (blocks_of phases)) (blocks_of (take (v.terminal.phase + 1) phases)) p c
    (next_passing session p y c).step
    (last_before 0 (begin_of p phases (v.terminal.phase + 1) c) (by_caller c (passings_on session y.log p))
    (next_passing session p y c)
    (subst (λ (x : Bool). AreInSteps 0 (begin_of p phases (v.terminal.phase + 1) c)
    (by_caller c (passings_on session y.log p) ++ (if x then next_passing session p y c ∷ [] else []))) begun
    (playing.up_to c)))) in
    record {
      port = port;
      number = desk.number;
      ring = ap (λ (q : PutterState Flagged). q.ring) same ∙ (on.has_put.ring ∙ sym own.ring);
      mine = mine;
      passed = mine_is first session v y fills.due port desk known;
      has = has;
      full = λ played like by agrees.
          let z = scene_on p played in
          let its = playing.each.each z like agrees in
          let agrees_mid = before_all z mid v its.part its.added playing.each.grows agrees in
          let agrees_old =
          before_all z old mid (on.flushes ++ on.last ∷ []) on.added (same_calls old mid on.kept) agrees_mid in
          let begins = line_in s roles at run left items steps ticks z h like agrees_old in
          let here : PlaysLineIn HasAnyOrder z k old mid putter at.station.line line later = plays.each begins in
          let ticks_same : ticks ≡ ticks_on z.port (phase_at z.session mid.terminal.phase) =
          playing.each.ticks_are
          ∙ sym ((λ i. ticks_on (like.port i) (phase_at z.session mid.terminal.phase))
          ∙ at_phase (ticks_on p) first.session z.session mid.terminal.phase like.ticks) in (
            its.plays.of_scene,
            full_behind_line z k old mid v putter now at.station.line line later at.station.line.report.overruns.items
                (f.scripts z) roles ticks fills.stand begins.within (b.each.each z like agrees_old).1.played here its
                ticks_same
                (fills.full ∙ its.plays.of_scene.limit) same,
          );
      logged = λ played like by agrees.
          let z = scene_on p played in
          logged_in first session played v y fills.due v.journal [] desk like agrees
          (playing.each.each z like agrees).plays.of_scene (sym (append-nil v.journal)) tt;
    }

-- whatever it was denied for
pub turns_stop : (denied : Denied) (s : Setting) (roles : List Role) (at : ModemStation) (run : ℕ)
    (left : List (List ModemCall)) (items : List PinStep) (steps : List LineStep) (ticks : ℕ) (mid : PortValue)
    (putter : PutterState Flagged) (line : LineState) (later : ℕ) (then_at : ModemStation) (v : PortValue)
    (now : PutterState Flagged) (y : DeskState)
    → Begins s roles at run left items steps ticks
    → PlaysItsLine steps at.station.port mid at.station.putter putter at.station.line line run later
    → StopsTurns denied (frame_of s mid ticks) roles v y
    → now ≡ putter
    → IsPort v
    → then_at.station.port ≡ v
    → then_at.station.putter ≡ now
    → then_at.station.line ≡ line
    → then_at.desk ≡ y
    → IsStoppedBy denied s.first s.session then_at
turns_stop NoMemory s roles at run left items steps ticks mid putter
    line later then_at v now y h plays stops same port a b c e = tt
turns_stop Full s roles at run left items steps ticks mid putter
    line later then_at v now y h plays stops same port a b c e =
    let full = turns_full s roles at run left items steps ticks mid putter line later v now y h plays stops same port in
    subst (λ (q : PortValue). IsModemsFull s.first s.session q then_at.station.putter then_at.station.line then_at.desk)
    (sym a)
    (subst (λ (q : PutterState Flagged). IsModemsFull s.first s.session v q then_at.station.line then_at.desk) (sym b)
    (subst (λ (q : LineState). IsModemsFull s.first s.session v now q then_at.desk) (sym c)
    (subst (λ (q : DeskState). IsModemsFull s.first s.session v now line q) (sym e) full)))

pub line_stops : (denied : Denied) (s : Setting) (roles : List Role) (at : ModemStation) (run : ℕ)
    (left : List (List ModemCall)) (items : List PinStep) (steps : List LineStep) (ticks : ℕ) (then_at : ModemStation)
    (v : PortValue) (putter : PutterState Flagged) (line : LineState)
    → Begins s roles at run left items steps ticks
    → StopsItsLine denied steps at.station.port v at.station.putter putter at.station.line line run
    → IsPort v
    → then_at.station.port ≡ v
    → then_at.station.putter ≡ putter
    → then_at.station.line ≡ line
    → then_at.desk ≡ at.desk
    → IsStoppedBy denied s.first s.session then_at
line_stops NoMemory s roles at run left items steps ticks then_at v putter line h stops port a b c e = tt
line_stops Full s roles at run left items steps ticks then_at v putter line h stops port a b c e =
    let full = line_full s roles at run left items steps ticks v putter line h stops port in
    subst (λ (q : PortValue). IsModemsFull s.first s.session q then_at.station.putter then_at.station.line then_at.desk)
    (sym a)
    (subst (λ (q : PutterState Flagged). IsModemsFull s.first s.session v q then_at.station.line then_at.desk) (sym b)
    (subst (λ (q : LineState). IsModemsFull s.first s.session v putter q then_at.desk) (sym c)
    (subst (λ (q : DeskState). IsModemsFull s.first s.session v putter line q) (sym e) full)))
