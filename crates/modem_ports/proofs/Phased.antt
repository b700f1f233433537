-- A phase of a port with modem lines: from its beginning to its end, or as far as it went.
use Rattle.std.proofs.Common.{◌≡◌, ◌<◌, ℕ, ◌+◌, Bool, false, List, [], ◌∷◌, ◌++◌, None}
use Rattle.std.proofs.Common.{if◌then◌else◌, refl, sym, ap, ◌∙◌, subst, append_assoc, append-nil}
use Rattle.std.proofs.lemmas.Bool.{false≢true}
use Rattle.tty_base.specs.declared.characters.Flagged.{Flagged}
use Rattle.tty_base.specs.declared.lines.LineStep.{LineStep}
use Rattle.word_ring.specs.Ends.{PutterState}
use Rattle.uart_line.specs.LineState.{LineState}
use Rattle.tty_calls.specs.declared.sessions.Script.{Script}
use Rattle.tty_calls.specs.declared.journals.Who.{Who}
use Rattle.tty_calls.specs.declared.journals.Who.TheVariants.{Session}
use Rattle.tty_calls.specs.Plain.{PlainEntry, PlainEvent, is_caller, phase_ended}
use Rattle.modem_steps.specs.Order.{goes_on}
use Rattle.modem_ports.specs.Between.{numbers_in}
use Rattle.tty_calls.specs.Sessions.{PlainSession, line_on, call_at, counts_on}
use Rattle.tty_terminal.specs.declared.callers.CallerState.{CallerState}
use Rattle.tty_terminal.specs.Terminals.{Terminal, has_begun}
use Rattle.tty_terminal.specs.Runs.{Leads}
use Rattle.legal_runs.specs.Legal.{phase_at}
use Rattle.port_core.specs.Ports.{PortValue, IsPort}
use Rattle.one_thread.specs.Acts.{BeginsLine, PlaysItsLine}
use Rattle.legal_runs.specs.Order.{AreInTurn, IsPieceOf, Place}
use Rattle.play_base.specs.Roles.{Scene, names_in}
use Rattle.play_base.specs.Beginning.{IsAtPhaseIn}
use Rattle.one_thread.specs.Lines.{PlaysLineIn}
use Rattle.play_base.specs.Scenes.{HasAnyOrder, place_of}
use Rattle.one_thread.specs.Stages.{EndsAfterLineIn}
use Rattle.one_thread.specs.declared.after_line.Stand.{Stand}
use Rattle.play_base.specs.declared.roles.Role.{Role}
use Rattle.one_thread.proofs.Entries.{place_is}
use Rattle.play_base.proofs.PortLemmas.{port_of_scene, run_of_scene}
use Rattle.one_thread.proofs.StationLemmas.{at_next_phase}
use Rattle.order_laws.specs.Agreed.{Agrees, IsLike, AreRolesOfEach}
use Rattle.order_laws.proofs.Agreeing.{before_all}
use Rattle.order_laws.proofs.InEach.{same_calls, any_phase_each}
use Rattle.order_laws.proofs.Shapes.{phases_same, at_phase}
use Rattle.passed_calls.specs.Derived.{Passing, AreInSteps, by_caller}
use Rattle.order_laws.specs.Passed.{begin_of}
use Rattle.order_laws.specs.Witness.{scene_on, HasPassed, IsPlayingIn}
use Rattle.order_laws.specs.Filled.{scripts_in}
use Rattle.order_laws.specs.Begun.{begun_at}
use Rattle.order_laws.specs.Later.{ComesBy}
use Rattle.order_laws.proofs.PassedAdding.{blocks_same}
use Rattle.order_laws.proofs.Casts.{roles_each}
use Rattle.order_laws.proofs.Possible.{any_begins_line, any_begins_playing, any_end_on}
use Rattle.modem_text.specs.Sessions.{ModemCall, ModemSession, PinStep}
use Rattle.modem_steps.specs.Derived.{block_phases, carrier_on, passings_on}
use Rattle.modem_one.specs.declared.turns.Next.TheVariants as next
use Rattle.modem_one.specs.Desk.{DeskState}
use Rattle.modem_one.specs.Later.{IsDeskAt}
use Rattle.modem_one.specs.Left.{AreCallsLeft, AreItemsLeft}
use Rattle.modem_one.specs.Playing.{Frame, passings_with, next_passing}
use Rattle.modem_one.specs.AfterLine.{BeginsTurns, EndsTurns}
use Rattle.modem_one.proofs.DeskEvents.{desk_entry}
use Rattle.modem_one.proofs.Whose.{turn_now}
use Rattle.modem_one.proofs.Ordering.{here}
use Rattle.modem_one.proofs.Taking.{can_end}
use Rattle.modem_ports.specs.declared.phases.ModemStation.{ModemStation}
use Rattle.modem_ports.specs.Ports.{passed_by, IsBeforeModems}
use Rattle.modem_ports.specs.Between.{Setting, BeginsPhase}
use Rattle.modem_ports.proofs.Lines.{AreBeforeEnd, before_end, desk_in_line}
use Rattle.modem_ports.proofs.Resting.{begun_stays}

-- ---- lists

pub same_behind : (xs ys zs : List PlainEntry) → xs ++ ys ≡ xs ++ zs → ys ≡ zs
same_behind [] ys zs e = e
same_behind (x ∷ xs) ys zs e = same_behind xs ys zs (cc)

-- ---- what was begun

-- with nothing begun all that was passed down is logged
pub only_logged : (session : ModemSession) (p : ℕ) (d : DeskState) (begun : ℕ → Bool)
    → ((c : ℕ) → begun c ≡ false)
    → (c : ℕ)
    → passings_with session p d begun c ≡ passed_by session p d c
only_logged session p d begun none c =
    ap (λ (b : Bool). by_caller c (passings_on session d.log p) ++ (if b then next_passing session p d c ∷ [] else []))
    (none c)
    ∙ append-nil (by_caller c (passings_on session d.log p))

pub idle_first : (first : Scene) (session : ModemSession) (v : PortValue) (putter : PutterState Flagged)
    (line : LineState) (run : ℕ) (d : DeskState)
    → IsBeforeModems first session v putter line run d
    → (c : ℕ)
    → begun_at v c ≡ false
idle_first first session v putter line run d b c =
    ap (λ (q : CallerState). has_begun q)
    ((b.each.each (scene_on first.port b.has.session) b.has.like b.has.agrees).0.callers c)

-- ---- the line

-- the place of a port at the beginning of a phase
pub place_first : (s : Scene) (k : ℕ) (v : PortValue) (putter : PutterState Flagged) (line : LineState) (run : ℕ)
    → IsAtPhaseIn HasAnyOrder s k v putter line run
    → IsPort v
    → (place_of s v.journal).terminal ≡ v.terminal
place_first s k v putter line run at port =
    let of = at.of_scene in
    place_is s v
    (run_of_scene s v of.counts of.capacity ((port_of_scene s v of).calls v.flip.capacity port.run))

abbrev pub line_begins : (s : Setting) (roles : List Role) (at : ModemStation) (run : ℕ) (left : List (List ModemCall))
    (items : List PinStep) (steps : List LineStep) (ticks : ℕ)
    → BeginsPhase s roles at at.station.port.terminal.phase run left items steps ticks
    → BeginsLine steps at.station.port at.station.putter at.station.line run
line_begins s roles at run left items steps ticks h =
    any_begins_line s.first (block_phases s.session) (passed_by s.session s.first.port at.desk) steps at.station.port
    at.station.putter at.station.line run h.between.before.each h.between.before.has h.phase h.steps_are

-- each session that agrees with the port begins this line
abbrev pub line_in : (s : Setting) (roles : List Role) (at : ModemStation) (run : ℕ) (left : List (List ModemCall))
    (items : List PinStep) (steps : List LineStep) (ticks : ℕ) (z : Scene)
    → BeginsPhase s roles at at.station.port.terminal.phase run left items steps ticks
    → IsLike s.first z
    → Agrees z at.station.port
    → BeginsLine steps at.station.port at.station.putter at.station.line run
line_in s roles at run left items steps ticks z h like agrees = record {
  scene = z;
  begins = (h.between.before.each.each z like agrees).0;
  within = subst (λ (n : ℕ). at.station.port.terminal.phase < n)
      (sym (phases_same s.first.port s.first.session z.session like.shape)) h.phase;
  steps_are =
      h.steps_are
      ∙ (sym (at_phase (line_on s.first.port) s.first.session z.session at.station.port.terminal.phase
      like.shape.lines)
      ∙ λ i. line_on (sym like.port i) (phase_at z.session at.station.port.terminal.phase));
}

-- ---- the desk at the end of the line

-- the port of the scene that was played
same_port : (first z : Scene) → IsLike first z → z ≡ scene_on first.port z.session
same_port first z like = λ i. record { port = like.port i; session = z.session }

pub desk_behind : (s : Setting) (roles : List Role) (at : ModemStation) (run : ℕ) (left : List (List ModemCall))
    (items : List PinStep) (steps : List LineStep) (ticks : ℕ) (mid : PortValue) (putter : PutterState Flagged)
    (line : LineState) (later : ℕ)
    → BeginsPhase s roles at at.station.port.terminal.phase run left items steps ticks
    → PlaysItsLine steps at.station.port mid at.station.putter putter at.station.line line run later
    → IsDeskAt s.first s.session mid at.desk []
desk_behind s roles at run left items steps ticks mid putter line later h plays =
    let p = s.first.port in
    let old = at.station.port in
    let begins = line_begins s roles at run left items steps ticks h in
    let on = plays.each begins in
    let part = on.flushes ++ on.last ∷ [] in
    let by : ComesBy old mid part = record {
      added = on.added;
      grows = same_calls old mid on.kept;
      counts = on.after_line.of_scene.counts ∙ sym begins.begins.of_scene.counts;
      capacity = on.capacity;
    } in
    desk_in_line s.first s.session old mid at.desk part by h.between.before.desk (λ played like agrees.
    let z = scene_on p played in
    let agreed = before_all z old mid part by.added by.grows agrees in
    let its = line_in s roles at run left items steps ticks z h like agreed in
    let here : PlaysLineIn HasAnyOrder z old.terminal.phase old mid putter at.station.line line later =
    plays.each its in
    let own = here.flushes ++ here.last ∷ [] in
    let same : own ≡ part = same_behind old.journal own part (sym here.added ∙ on.added) in
    let place : (place_of z old.journal).terminal ≡ old.terminal =
    place_first z old.terminal.phase old at.station.putter at.station.line run its.begins h.between.port in
    let leads : Leads (call_at p played) (counts_on p played) (place_of z old.journal).terminal own mid.terminal =
    subst (λ (t : Terminal). Leads (call_at p played) (counts_on p played) t own mid.terminal) (sym place) here.leads in
    let before : AreBeforeEnd (call_at p played) (place_of z old.journal) own =
    before_end (call_at p played) (counts_on p played) (place_of z old.journal) here.flushes here.last mid.terminal
    leads (ap (λ (t : Terminal). t.line_over) place ∙ its.begins.line_over) here.no_end in (
      subst (λ (es : List PlainEntry). AreInTurn p played (place_of z old.journal) es) same here.in_turn,
      subst (λ (es : List PlainEntry). AreBeforeEnd (call_at p played) (place_of z old.journal) es) same before,
    ))

-- ---- behind the line

-- the phase as the player's functions speak of it
abbrev pub frame_of : Setting → PortValue → (ticks : ℕ) → Frame
frame_of s v ticks = record {
  first = s.first;
  session = s.session;
  scripts = scripts_in s.first.port s.callers v.terminal.phase;
  start = v;
  ticks = ticks;
}

roles_of_each : (s : Setting) (roles : List Role) (at : ModemStation) (run : ℕ) (left : List (List ModemCall))
    (items : List PinStep) (steps : List LineStep) (ticks : ℕ) (mid : PortValue) (putter : PutterState Flagged)
    (line : LineState) (later : ℕ)
    → BeginsPhase s roles at at.station.port.terminal.phase run left items steps ticks
    → PlaysItsLine steps at.station.port mid at.station.putter putter at.station.line line run later
    → AreRolesOfEach s.first (scripts_in s.first.port s.callers at.station.port.terminal.phase)
    roles at.station.port.terminal.phase mid
roles_of_each s roles at run left items steps ticks mid putter line later h plays =
    let cast = h.roles_are in
    roles_each s.first s.callers (names_in s.first) cast.steps roles steps at.station.port mid at.station.putter
    putter at.station.line line run later h.between.before.each
    (line_begins s roles at run left items steps ticks h) plays h.phase h.own refl cast.next cast.cast

pub turns_begin : (s : Setting) (roles : List Role) (at : ModemStation) (run : ℕ) (left : List (List ModemCall))
    (items : List PinStep) (steps : List LineStep) (ticks : ℕ) (mid : PortValue) (putter : PutterState Flagged)
    (line : LineState) (later : ℕ)
    → BeginsPhase s roles at at.station.port.terminal.phase run left items steps ticks
    → PlaysItsLine steps at.station.port mid at.station.putter putter at.station.line line run later
    → IsPort mid
    → BeginsTurns (frame_of s mid ticks) roles mid at.desk
    (record { run = later; part = 0; ticks = ticks; going = None }) left items
    × (putter.ring ≡ mid.flip.ring)
turns_begin s roles at run left items steps ticks mid putter line later h plays port =
    let first = s.first in
    let p = first.port in
    let old = at.station.port in
    let k = old.terminal.phase in
    let b = h.between.before in
    let d = at.desk in
    let stand : Stand = record { run = later; part = 0; ticks = ticks; going = None } in
    let begins = line_begins s roles at run left items steps ticks h in
    let on = plays.each begins in
    let phase : mid.terminal.phase ≡ k = on.phase in
    let phases = block_phases s.session in
    let scripts : (j : ℕ) → Scene → List Script = scripts_in p s.callers in
    let idle : (c : ℕ) → begun_at mid c ≡ false = λ c.
    ap (λ (q : CallerState). has_begun q) (on.after_line.callers c) in
    let plays_first : IsPlayingIn HasAnyOrder first phases (scripts k) roles mid (passed_by s.session p d) mid ticks
    stand =
    any_begins_playing first phases (scripts k) roles (passed_by s.session p d) steps old mid at.station.putter putter
    at.station.line line run later ticks b.each b.has b.before plays h.phase h.steps_are h.ticks_are port
    (roles_of_each s roles at run left items steps ticks mid putter line later h plays) in
    let same : (c : ℕ) → passed_by s.session p d c ≡ passings_with s.session p d (begun_at mid) c = λ c.
    sym (only_logged s.session p d (begun_at mid) idle c) in (
      record {
        at = record {
          playing = record {
            playing = subst (λ (j : ℕ). IsPlayingIn HasAnyOrder first phases (scripts j) roles mid
                (passings_with s.session p d (begun_at mid)) mid ticks stand) (sym phase)
                (subst (λ (mine : ℕ → List Passing).
                IsPlayingIn HasAnyOrder first phases (scripts k) roles mid mine mid ticks stand) (λ i. λ c. same c i)
                plays_first);
            desk = desk_behind s roles at run left items steps ticks mid putter line later h plays;
            logged_before = b.logged_before;
            carrier_rests = idle (carrier_on p s.session);
            never_held = λ c begun. absurd (false≢true (sym (idle c) ∙ begun));
          };
          roles_are =
              h.numbers ∙ ap (λ (j : ℕ). numbers_in p s.session j ++ carrier_on p s.session ∷ []) (sym phase);
          next_of_all = b.next_of_all;
        };
        frame = record {
          within = h.within;
          of_blocks = h.scene.of_blocks;
          blocks = blocks_same s.session.ports s.session.flips first.session.ports first.session.flips
              (block_phases s.session) h.scene.ports h.scene.flips h.within.blocks;
          port = h.port;
        };
        none_over = λ c. ap (λ (q : CallerState). q.over) (on.after_line.callers c);
        calls = subst (λ (j : ℕ). AreCallsLeft p j s.session roles d.next left) (sym phase) h.calls;
        items_are = subst (λ (j : ℕ). AreItemsLeft p j s.session d.items items) (sym phase) h.items_are;
      },
      on.has_put.ring,
    )

-- ---- up to the end of the phase

abbrev last_or : PlainEntry → List PlainEntry → PlainEntry
last_or d [] = d
last_or d (e ∷ es) = last_or e es

last_is : (d : PlainEntry) (es : List PlainEntry) (e : PlainEntry) → last_or d (es ++ e ∷ []) ≡ e
last_is d [] e = refl
last_is d (x ∷ es) e = last_is x es e

one_last : (xs ys : List PlainEntry) (e f : PlainEntry) → xs ++ e ∷ [] ≡ ys ++ f ∷ [] → e ≡ f
one_last xs ys e f same = sym (last_is e xs e) ∙ (ap (last_or e) same ∙ last_is e ys f)

piece_of_end : (p : ℕ) (session : PlainSession) (place : Place) (part : ℕ) (event : PlainEvent)
    → event ≡ phase_ended
    → IsPieceOf p session place part event
piece_of_end p session place part event is =
    subst (λ (x : PlainEvent). IsPieceOf p session place part x) (sym is) tt

-- the scene that the port has played, at the end of the phase
pub phase_over : (s : Setting) (roles : List Role) (at : ModemStation) (run : ℕ) (left : List (List ModemCall))
    (items : List PinStep) (steps : List LineStep) (ticks : ℕ) (mid : PortValue) (putter : PutterState Flagged)
    (line : LineState) (later : ℕ) (new : PortValue) (now : PutterState Flagged) (y : DeskState) (after_it : ℕ)
    → BeginsPhase s roles at at.station.port.terminal.phase run left items steps ticks
    → PlaysItsLine steps at.station.port mid at.station.putter putter at.station.line line run later
    → EndsTurns (frame_of s mid ticks) roles new putter now y after_it
    → IsBeforeModems s.first s.session new now line after_it y
    × (new.terminal.phase ≡ at.station.port.terminal.phase + 1)
phase_over s roles at run left items steps ticks mid putter line later new now y after_it h plays ends =
    let first = s.first in
    let p = first.port in
    let session = s.session in
    let old = at.station.port in
    let k = old.terminal.phase in
    let b = h.between.before in
    let f = frame_of s mid ticks in
    let phases = block_phases session in
    let v = ends.last in
    let begins = line_begins s roles at run left items steps ticks h in
    let on = plays.each begins in
    let playing = ends.at.playing in
    let mine = passings_with session p y (begun_at v) in
    let both = any_end_on first phases f.scripts roles mid mine v new putter now ticks ends.stand after_it
    playing.playing
    (can_end f roles v y ends.stand ends.at ends.is_end) ends.ends ends.adds in
    let z = scene_on p both.1.session in
    let ended : EndsAfterLineIn HasAnyOrder z mid new putter now after_it = both.0.each z both.1.like both.1.agrees in
    let entry : ends.adds.entry ≡ ended.last =
    one_last v.journal (mid.journal ++ ended.part) ends.adds.entry ended.last
    (sym ends.adds.added ∙ (ended.added ∙ sym (append_assoc mid.journal ended.part (ended.last ∷ [])))) in
    let who : ends.adds.entry.who ≡ Session = ap (λ (e : PlainEntry). e.who) entry ∙ ended.who in
    let event : ends.adds.entry.event ≡ phase_ended = ap (λ (e : PlainEntry). e.event) entry ∙ ended.ends in
    let grows = same_calls v new ends.adds.kept in
    let agrees_v = before_all z v new (ends.adds.entry ∷ []) ends.adds.added grows both.1.agrees in
    let of_v = (playing.playing.each.each z both.1.like agrees_v).plays.of_scene in
    let by : ComesBy v new (ends.adds.entry ∷ []) = record {
      added = ends.adds.added;
      grows = grows;
      counts = ended.of_scene.counts ∙ sym of_v.counts;
      capacity = ended.of_scene.capacity ∙ sym of_v.capacity;
    } in
    let idle_new : (c : ℕ) → begun_at new c ≡ false = λ c. ap (λ (q : CallerState). has_begun q) (ended.at_first c) in
    let idle : (c : ℕ) → begun_at v c ≡ false = λ c.
    sym (begun_stays v new (ends.adds.entry ∷ []) c ends.was_port ends.is_port ends.adds.added
    (ap (λ (w : Who). is_caller w c) who, tt))
    ∙ idle_new c in
    let same : (c : ℕ) → mine c ≡ passed_by session p y c = only_logged session p y (begun_at v) idle in
    let agrees_mid = before_all z mid new (ended.part ++ ended.last ∷ []) ended.added both.0.grows both.1.agrees in
    let agrees_old = before_all z old mid (on.flushes ++ on.last ∷ []) on.added (same_calls old mid on.kept) agrees_mid
    in
    let its = line_in s roles at run left items steps ticks z h both.1.like agrees_old in
    let at_end : PlaysLineIn HasAnyOrder z k old mid putter at.station.line line later = plays.each its in
    let phase : new.terminal.phase ≡ k + 1 =
    (at_next_phase z k old mid new at.station.putter putter now at.station.line line run later after_it its.begins
    at_end
    ended).phase in
    let next_is : mid.terminal.phase + 1 ≡ new.terminal.phase = ap (λ (j : ℕ). j + 1) on.phase ∙ sym phase in
    let phase_v : v.terminal.phase ≡ k = (playing.playing.each.each z both.1.like agrees_v).phase ∙ at_end.phase in (
      record {
        each = any_phase_each first steps old mid new at.station.putter putter now at.station.line line run later
            after_it
            b.each begins plays h.phase h.steps_are both.0;
        has = subst (λ (m : ℕ → List Passing). HasPassed first phases m new) (λ i. λ c. same c i) both.1;
        before = λ c. subst (λ (j : ℕ). AreInSteps 0 (begin_of p phases j c) (passed_by session p y c)) (sym phase)
            (subst (λ (ms : List Passing). AreInSteps 0 (begin_of p phases (k + 1) c) ms) (same c)
            (subst (λ (j : ℕ). AreInSteps 0 (begin_of p phases (j + 1) c) (mine c)) phase_v (playing.playing.up_to c)));
        desk = desk_entry first session v new y ends.adds.entry by playing.desk (record {
          turn = λ played like agrees j later.
              let agreed = before_all (scene_on p played) v new (ends.adds.entry ∷ []) by.added by.grows agrees in
              turn_now first session played (f.scripts (scene_on p played)) roles v y ends.stand
              (playing.playing.each.each (scene_on p played) like agreed).plays next.End playing.desk.at_entry j later
              ends.is_end
              ∙ ap goes_on (sym who);
          piece = λ played like agrees.
              piece_of_end p played (here first played v) ends.adds.entry.part ends.adds.entry.event event;
        });
        logged_before = playing.logged_before;
        next_of_all = ends.at.next_of_all;
        steps = λ c other. ends.steps c other ∙ ap (λ (j : ℕ). begin_of p phases j c) next_is;
        items = ends.items ∙ ap (λ (j : ℕ). begin_of p phases j (carrier_on p session)) next_is;
      },
      phase,
    )
