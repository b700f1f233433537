-- A port that plays a scene, with one entry more.
use Rattle.std.proofs.Common.{◌≡◌, ◌<◌, ℕ, ◌+◌, List, [], ◌∷◌, ◌++◌, Bool, true, false, not, ◌&&◌, ◌||◌}
use Rattle.std.proofs.Common.{Option, Some, if◌then◌else◌, length, map, refl, sym, ◌∙◌, ap, subst}
use Rattle.std.specs.Prelude.{slice_index, nat_le}
use Rattle.std.proofs.lemmas.Bool.{false≢true, lt-leb}
use Rattle.tty_base.specs.declared.characters.Flagged.{Flagged}
use Rattle.word_ring.specs.Ends.{TakerState}
use Rattle.tty_calls.specs.declared.sessions.Script.{Script}
use Rattle.tty_calls.specs.declared.journals.Who.{Who}
use Rattle.tty_calls.specs.declared.journals.Who.TheVariants.{Flusher, Clock, Session}
use Rattle.tty_calls.specs.Plain.{PlainCall, PlainEntry}
use Rattle.tty_calls.specs.Sessions.{call_at, counts_on}
use Rattle.tty_terminal.specs.Terminals.{Terminal, caller_at}
use Rattle.tty_terminal.specs.Calls.{outcome_of}
use Rattle.tty_terminal.specs.Steps.{Allowed, after, nothing_to_flush, is_wait}
use Rattle.tty_terminal.specs.Runs.{IsRun, KnowsMore}
use Rattle.tty_terminal.proofs.Grown.{after_grown}
use Rattle.tty_terminal.proofs.Runs.{leads_more}
use Rattle.tty_terminal.proofs.WaitLaws.{run_waits}
use Rattle.legal_runs.specs.Legal.{IsInPhase, AreInPhases, session_events, flip_on}
use Rattle.port_core.specs.Ports.{PlainKept, PortValue, call_in, Appends}
use Rattle.legal_runs.specs.Order.{Place, first_place, IsPieceOf, turn, turn_after, turn_after_event, turn_by_rank}
use Rattle.legal_runs.specs.Order.{callers_of, first_of, can_go_on, is_waiting, must_wait, is_of_consoles}
use Rattle.play_base.specs.Roles.{Scene, numbers_in, role_in}
use Rattle.play_base.specs.Scenes.{place_of, HasAnyOrder, IsOfSceneIn}
use Rattle.one_thread.specs.Turns.{role_numbers, turn_with, who_of, IsKeptCall, HasCallers, HasRuns, PlaysIn, TakesTurn}
use Rattle.play_base.specs.declared.roles.Role.{Role}
use Rattle.one_thread.specs.declared.after_line.Stand.{Stand}
use Rattle.one_thread.specs.declared.after_line.Turn.{Turn}
use Rattle.one_thread.proofs.Ranks.{first_same}
use Rattle.legal_runs.proofs.Places.{place_more, in_phases_more, leads_place, leads_phase}

-- an entry more, of the session's calls
pub record IsMore (s : Scene) (v w : PortValue) (e : PlainEntry) : Type 0 where
  pub journal : w.journal ≡ v.journal ++ e ∷ []
  pub counts : w.counts ≡ v.counts
  pub limit : w.limit ≡ v.limit
  pub capacity : w.flip.capacity ≡ v.flip.capacity
  pub ring : w.flip.ring ≡ v.flip.ring
  pub known : KnowsMore (call_in w.kept) (call_at s.port s.session)
  pub allowed : Allowed (call_at s.port s.session) (counts_on s.port s.session) v.terminal e
  pub terminal : w.terminal ≡ after (call_at s.port s.session) v.terminal e

pub more_of : (s : Scene) (v w : PortValue) (kept : List PlainKept) (flip : TakerState Flagged) (e : PlainEntry)
    → v.counts ≡ counts_on s.port s.session
    → KnowsMore (call_in kept) (call_at s.port s.session)
    → Appends (record v { kept = kept }) w flip e
    → flip.capacity ≡ v.flip.capacity
    → flip.ring ≡ v.flip.ring
    → IsMore s v w e
more_of s v w kept flip e counts known appends capacity ring =
    let grown = after_grown (call_in kept) (call_at s.port s.session) v.counts v.terminal e known appends.allowed in
    record {
      journal = ap (λ (x : PortValue). x.journal) appends.appended;
      counts = ap (λ (x : PortValue). x.counts) appends.appended;
      limit = ap (λ (x : PortValue). x.limit) appends.appended;
      capacity = ap (λ (x : PortValue). x.flip.capacity) appends.appended ∙ capacity;
      ring = ap (λ (x : PortValue). x.flip.ring) appends.appended ∙ ring;
      known = subst (λ (ks : List PlainKept). KnowsMore (call_in ks) (call_at s.port s.session))
          (sym (ap (λ (x : PortValue). x.kept) appends.appended)) known;
      allowed = subst (λ (cs : List ℕ). Allowed (call_at s.port s.session) cs v.terminal e) counts grown.0;
      terminal = ap (λ (x : PortValue). x.terminal) appends.appended ∙ sym grown.1;
    }

abbrev pub IsRunOf : Scene → List PlainEntry → Terminal → Type 0
IsRunOf s journal t = IsRun (call_at s.port s.session) (counts_on s.port s.session) (flip_on s.port s.session) journal t

pub run_more : (s : Scene) (v w : PortValue) (e : PlainEntry)
    → IsRunOf s v.journal v.terminal
    → IsMore s v w e
    → IsRunOf s w.journal w.terminal
run_more s v w e run more =
    subst (λ (j : List PlainEntry). IsRunOf s j w.terminal) (sym more.journal)
    (subst (λ (t : Terminal). IsRunOf s (v.journal ++ e ∷ []) t) (sym more.terminal)
    (leads_more (call_at s.port s.session) (counts_on s.port s.session) _ v.journal v.terminal e run more.allowed))

pub place_is : (s : Scene) (v : PortValue)
    → IsRunOf s v.journal v.terminal
    → (place_of s v.journal).terminal ≡ v.terminal
place_is s v run = leads_place (call_at s.port s.session) (counts_on s.port s.session) (first_place s.port s.session)
    _ v.journal v.terminal refl run

pub before_more : (s : Scene) (v w : PortValue) (e : PlainEntry)
    → IsMore s v w e
    → (place_of s w.journal).before ≡ Some e
before_more s v w e more =
    ap (λ (j : List PlainEntry). (place_of s j).before) more.journal
    ∙ ap (λ (x : Place). x.before) (place_more (call_at s.port s.session) (first_place s.port s.session) v.journal e)

pub scene_more : {HasOrder : Scene → List PlainEntry → Type 0} (s : Scene) (v w : PortValue) (e : PlainEntry)
    → IsOfSceneIn HasOrder s v
    → IsRunOf s v.journal v.terminal
    → IsMore s v w e
    → IsInPhase s.port s.session v.terminal.phase e.who e.step e.event
    → IsOfSceneIn HasAnyOrder s w
scene_more s v w e scene run more phase =
    let at_phase = leads_phase (call_at s.port s.session) (counts_on s.port s.session) _ v.journal v.terminal run in
    let phases = in_phases_more s.port s.session 0 v.journal e scene.in_phases
    (subst (λ (k : ℕ). IsInPhase s.port s.session k e.who e.step e.event) (sym at_phase) phase) in
    record {
      counts = more.counts ∙ scene.counts;
      capacity = more.capacity ∙ scene.capacity;
      limit = more.limit ∙ scene.limit;
      known = more.known;
      in_phases = subst (λ (j : List PlainEntry). AreInPhases s.port s.session 0 j) (sym more.journal) phases;
      turns = tt;
    }

-- ---- whose turn it is, by the definition of the order

pub numbers_same : (scripts : List Script) (roles : List Role)
    → numbers_in (map (role_in scripts) roles) ≡ role_numbers roles
numbers_same scripts [] = refl
numbers_same scripts (r ∷ roles) = ap (λ (ns : List ℕ). r.number ∷ ns) (numbers_same scripts roles)

can_case : (waits over x y : Bool)
    → (waits ≡ true → x ≡ y)
    → (not over && (not waits || not x)) ≡ (not over && (not waits || not y))
can_case false over x y h = refl
can_case true over x y h = ap (λ (z : Bool). not over && (not true || not z)) (h refl)

-- the call that waits is kept, and so the same in the session
pub kept_is : (s : Scene) (v : PortValue) (c step : ℕ)
    → KnowsMore (call_in v.kept) (call_at s.port s.session)
    → IsKeptCall v.kept c step
    → call_in v.kept c step ≡ call_at s.port s.session c step
kept_is s v c step known kept = kept.found ∙ sym (known c step kept.call kept.found)

pub can_same : {HasOrder : Scene → List PlainEntry → Type 0} (s : Scene) (scripts : List Script) (roles : List Role)
    (v : PortValue) (stand : Stand)
    → PlaysIn HasOrder s scripts roles v stand
    → (c : ℕ)
    → can_go_on (call_in v.kept) v.terminal c ≡ can_go_on (call_at s.port s.session) v.terminal c
can_same s scripts roles v stand plays c =
    can_case (is_waiting v.terminal c) (caller_at v.terminal c).over (must_wait (call_in v.kept) v.terminal c)
    (must_wait (call_at s.port s.session) v.terminal c)
    (λ waits.
    let begun =
    run_waits (call_at s.port s.session) (counts_on s.port s.session) _ v.journal v.terminal plays.run c waits in
    let same = kept_is s v c (caller_at v.terminal c).next plays.of_scene.known (plays.callers.kept c begun) in
    ap (λ (o : Option PlainCall). is_wait (outcome_of v.terminal (caller_at v.terminal c) o)) same)

third : (a b : Bool) (x y z : Who) → a ≡ false → b ≡ true → z ≡ (if a then x else if not b then y else z)
third true b x y z e f = absurd (false≢true (sym e))
third false true x y z e f = refl
third false false x y z e f = absurd (false≢true f)

pub by_turn : {HasOrder : Scene → List PlainEntry → Type 0} (s : Scene) (scripts : List Script) (roles : List Role)
    (v : PortValue) (stand : Stand) (who : Who)
    → PlaysIn HasOrder s scripts roles v stand
    → who
    ≡ turn_with (role_numbers roles) stand.going
    (turn_by_rank (is_of_consoles s.session) (call_in v.kept) (role_numbers roles) v.terminal)
    → who ≡ turn s.port s.session (place_of s v.journal)
by_turn s scripts roles v stand who plays is =
    let place = place_of s v.journal in
    let at = place_is s v plays.run in
    let numbers = role_numbers roles in
    let callers : callers_of s.port s.session v.terminal.phase ≡ numbers =
    sym plays.callers.are_roles.numbers ∙ numbers_same scripts roles in
    let same : turn_by_rank (is_of_consoles s.session) (call_in v.kept) numbers v.terminal
    ≡ turn_by_rank (is_of_consoles s.session) (call_at s.port s.session) numbers v.terminal =
    ap (λ (w : Who).
    if not (nothing_to_flush v.terminal)
    then Flusher
    else if is_of_consoles s.session && not v.terminal.clock_over then Clock else w)
    (first_same (can_go_on (call_in v.kept) v.terminal) (can_go_on (call_at s.port s.session) v.terminal) numbers
    (if not v.terminal.clock_over then Clock else first_of (is_waiting v.terminal) numbers Session)
    (λ i lt. can_same s scripts roles v stand plays (slice_index numbers i))) in
    let there : turn_by_rank (is_of_consoles s.session) (call_at s.port s.session) numbers v.terminal
    ≡ turn_by_rank (is_of_consoles s.session) (call_at s.port s.session)
    (callers_of s.port s.session place.terminal.phase) place.terminal =
    ap (λ (ns : List ℕ). turn_by_rank (is_of_consoles s.session) (call_at s.port s.session) ns v.terminal) (sym callers)
    ∙ ap
    (λ (t : Terminal).
    turn_by_rank (is_of_consoles s.session) (call_at s.port s.session) (callers_of s.port s.session t.phase) t)
    (sym at) in
    let ranked : who
    ≡ turn_after place.before (turn_by_rank (is_of_consoles s.session) (call_at s.port s.session)
    (callers_of s.port s.session place.terminal.phase) place.terminal) =
    (is ∙ ap (λ (w : Who). turn_with numbers stand.going w) (same ∙ there))
    ∙ sym (plays.settled (turn_by_rank (is_of_consoles s.session) (call_at s.port s.session)
    (callers_of s.port s.session place.terminal.phase) place.terminal)) in
    ranked
    ∙ third (nat_le (length s.session.phases) place.terminal.phase) place.terminal.line_over Session _ _
    (lt-leb (length s.session.phases) place.terminal.phase
    (subst (λ (t : Terminal). t.phase < length s.session.phases) (sym at) plays.within))
    (ap (λ (t : Terminal). t.line_over) at ∙ plays.line)

-- a turn that was taken
pub plays_more : (s : Scene) (scripts : List Script) (roles : List Role) (v w : PortValue) (stand now : Stand)
    (next : Turn) (e : PlainEntry)
    → PlaysIn HasAnyOrder s scripts roles v stand
    → IsMore s v w e
    → IsInPhase s.port s.session v.terminal.phase e.who e.step e.event
    → e.who ≡ who_of (role_numbers roles) next
    → IsPieceOf s.port s.session (place_of s v.journal) e.part e.event
    → session_events e.event ≡ []
    → w.terminal.phase ≡ v.terminal.phase
    → w.terminal.line_over ≡ v.terminal.line_over
    → w.terminal.sent ≡ v.terminal.sent
    → (w.terminal.clock_over ≡ true → now.ticks ≡ 0)
    → w.terminal.tick + now.ticks ≡ v.terminal.tick + stand.ticks
    → HasRuns w (Some e) now.run now.part
    → HasCallers s scripts roles w now.going
    → ((other : Who) → turn_after_event e.event e.who other ≡ turn_with (role_numbers roles) now.going other)
    → TakesTurn s scripts roles v w stand now next
plays_more s scripts roles v w stand now next e plays more phase who piece inside same_phase
    same_line same_sent clock ticks runs callers settled =
    let before = before_more s v w e more in
    record {
      on = record {
        plays = record {
          of_scene = scene_more s v w e plays.of_scene plays.run more phase;
          run = run_more s v w e plays.run more;
          within = subst (λ (k : ℕ). k < length s.session.phases) (sym same_phase) plays.within;
          line = same_line ∙ plays.line;
          clock = clock;
          runs = subst (λ (b : Option PlainEntry). HasRuns w b now.run now.part) (sym before) runs;
          callers = callers;
          settled = λ other. ap (λ (b : Option PlainEntry). turn_after b other) before ∙ settled other;
        };
        adds = record {
          entry = e;
          added = more.journal;
          allowed = more.allowed;
          leads = more.terminal;
          inside = inside;
          piece = piece;
          phase = same_phase;
          sent = same_sent;
          ring = more.ring;
        };
        ticks = ticks;
      };
      who = who;
    }
