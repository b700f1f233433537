-- What comes after the line, from its beginning to the end of the phase.
use Rattle.std.proofs.Common.{◌≡◌, ◌<◌, ℕ, ◌+◌, List, [], ◌∷◌, ◌++◌, Bool, true, false, not, ◌&&◌, ◌||◌, Option}
use Rattle.std.proofs.Common.{None, Some, length, map, get_or, append_assoc, refl, sym, ◌∙◌, ap, subst, arith}
use Rattle.std.specs.Prelude.{slice_get, slice_index, All, sum, Contains}
use Rattle.std.proofs.lemmas.List.{append-nil, length-map}
use Rattle.std.proofs.lemmas.List.Concat.{flat_map-append}
use Rattle.std.proofs.lemmas.Option.{slice_get-get_or, same_Some}
use Rattle.std.proofs.lemmas.Bool.{false≢true}
use mathlib.Core.List.{IsPrefix}
use Rattle.tty_base.specs.declared.characters.Flagged.{Flagged}
use Rattle.word_ring.specs.Ends.{PutterState, with_loaded}
use Rattle.tty_calls.specs.declared.sessions.Script.{Script}
use Rattle.tty_calls.specs.declared.answers.Denied.{Denied}
use Rattle.tty_calls.specs.declared.answers.Denied.TheVariants.{NoMemory, Full}
use Rattle.tty_calls.specs.declared.journals.Who.TheVariants.{Session}
use Rattle.tty_calls.specs.Plain.{phase_ended, PlainEntry}
use Rattle.tty_calls.specs.Sessions.{ticks_on, scripts_on, call_at, counts_on}
use Rattle.tty_terminal.specs.declared.callers.CallerState.{CallerState}
use Rattle.tty_terminal.specs.Terminals.{Terminal, opening, caller_at, is_over}
use Rattle.tty_terminal.specs.Steps.{may_end, nothing_to_flush, next_phase}
use Rattle.tty_terminal.specs.Runs.{Leads, IsRun}
use Rattle.tty_terminal.specs.Marks.{Marks}
use Rattle.tty_terminal.specs.Standing.{Standing, standing_of}
use Rattle.tty_terminal.proofs.Grown.{leads_grown}
use Rattle.tty_terminal.proofs.Runs.{leads_more}
use Rattle.legal_runs.specs.Legal.{phase_at, name_at, has_script, first_step, steps_in, IsCallerOf, session_events}
use Rattle.legal_runs.specs.Legal.{session_events_in}
use Rattle.legal_runs.specs.Phases.{HasPlayed}
use Rattle.port_core.specs.Flips.{after_meeting}
use Rattle.port_core.specs.Phases.{EndsPhase}
use Rattle.port_core.specs.Ports.{PortValue, IsPort, call_in, Denies, phase_entry}
use Rattle.legal_runs.specs.Order.{first_place, AreInTurn, IsInTurn, is_waiting, must_wait, is_of_consoles}
use Rattle.play_base.specs.Roles.{Scene, calls_in, role_in, AreRolesOf}
use Rattle.play_base.specs.Scenes.{place_of, HasAnyOrder, HasOneOrder, IsOfSceneIn, AreAtFirst, BeginsRun}
use Rattle.one_thread.specs.Stages.{IsAfterLineIn, EndsAfterLineIn, StopsAfterLine}
use Rattle.one_thread.specs.Acts.{PlayingIn, Playing, PlaysEnd}
use Rattle.one_thread.specs.Turns.{role_numbers, IsTurn, IsPossible, NoneIs, NothingGoesOn}
use Rattle.one_thread.specs.Turns.{standing_at, standing_at_rest, IsAtRest, IsInRole, IsAbsent}
use Rattle.one_thread.specs.Turns.{HasCallers, next_run, HasRuns, PlaysIn, Plays, PlaysOnIn}
use Rattle.play_base.specs.declared.roles.Role.{Role}
use Rattle.one_thread.specs.declared.after_line.Stand.{Stand}
use Rattle.one_thread.specs.declared.after_line.Turn.TheVariants as turn
use Rattle.legal_runs.proofs.Places.{turns_more}
use Rattle.one_thread.proofs.Possible.{end_view, by_rank}
use Rattle.one_thread.proofs.Entries.{more_of, IsRunOf, scene_more, by_turn, numbers_same}
use Rattle.play_base.proofs.OrderLemmas.{scene_in}
use Rattle.one_thread.proofs.Passing.{runs_rest, stands_at, marks_at}
use Rattle.one_thread.proofs.Calling.{role_of, role_number, enough}
use Rattle.one_thread.proofs.Starting.{no_steps, at_rest}
use Rattle.legal_runs.proofs.NameLemmas.{first_next}
use Rattle.legal_runs.proofs.Truths.{all_four}

-- ---- the beginning

first_stands : (s : Scene) (v : PortValue)
    → AreAtFirst s v.terminal.phase v.terminal
    → (c : ℕ)
    → standing_at v c ≡ standing_at_rest (first_step s.port s.session v.terminal.phase c)
first_stands s v first c = ap (λ (x : CallerState). standing_of x) (first c)

in_role_at_first : (first count : ℕ) → IsInRole first count (standing_at_rest first)
in_role_at_first first count =
    record {
      low = omega arith;
      high = omega arith;
      calling = λ b. absurd (false≢true b);
      over = λ o. absurd (false≢true o);
      over_rest = λ o. refl;
      rest = λ b. record { waits = refl; parts = refl; taken = refl; generation = refl };
    }

callers_at_first : (s : Scene) (scripts : List Script) (roles : List Role) (v : PortValue)
    → AreAtFirst s v.terminal.phase v.terminal
    → AreRolesOf s v.terminal.phase (map (role_in scripts) roles)
    → HasCallers s scripts roles v None
callers_at_first s scripts roles v first are =
    record {
      are_roles = are;
      in_roles = λ i r is.
          let role = role_of s v.terminal.phase scripts roles i r are is in
          let stands : standing_at v r.number ≡ standing_at_rest r.first =
          first_stands s v first r.number ∙ ap (λ (n : ℕ). standing_at_rest n) (sym role.first) in
          subst (λ (q : Standing). IsInRole r.first (length (calls_in (slice_get scripts r.place))) q) (sym stands)
          (in_role_at_first r.first _);
      kept = λ c begun. absurd (false≢true (sym (ap (λ (q : Standing). q.begun) (first_stands s v first c)) ∙ begun));
      others = λ c absent. first_stands s v first c;
      goes_on = λ i none. absurd (cc);
      parts = λ c waits some.
          let none : (standing_at v c).parts ≡ 0 = ap (λ (q : Standing). q.parts) (first_stands s v first c) in
          absurd (omega arith);
    }

pub run_of_port : {HasOrder : Scene → List PlainEntry → Type 0} (s : Scene) (v : PortValue)
    → IsOfSceneIn HasOrder s v
    → IsPort v
    → IsRunOf s v.journal v.terminal
run_of_port s v scene port =
    subst (λ (n : ℕ). IsRun (call_at s.port s.session) (counts_on s.port s.session) n v.journal v.terminal)
    scene.capacity
    (subst (λ (cs : List ℕ). IsRun (call_at s.port s.session) cs v.flip.capacity v.journal v.terminal) scene.counts
    (leads_grown (call_in v.kept) (call_at s.port s.session) v.counts (opening (sum v.counts) v.flip.capacity)
    v.journal v.terminal scene.known port.run))

pub begins : {HasOrder : Scene → List PlainEntry → Type 0} (s : Scene) (scripts : List Script) (roles : List Role)
    (v : PortValue) (ticks run : ℕ)
    → IsAfterLineIn HasOrder s v run
    → AreRolesOf s v.terminal.phase (map (role_in scripts) roles)
    → IsPort v
    → PlayingIn HasOrder s scripts roles v v ticks (record { run = run; part = 0; ticks = ticks; going = None })
begins s scripts roles v ticks run h are port =
    let few = h.begins_run.few in
    record {
      plays = record {
        of_scene = h.of_scene;
        run = run_of_port s v h.of_scene port;
        within = h.within;
        line = h.line;
        clock = λ over. absurd (false≢true (sym h.clock ∙ over));
        runs = record {
          follows = h.begins_run.follows;
          one = λ lt. absurd (omega arith);
          below = h.begins_run.below;
          few = omega arith;
          after_flush = h.no_flush;
        };
        callers = callers_at_first s scripts roles v h.callers are;
        settled = h.no_part;
      };
      part = [];
      added = sym (append-nil v.journal);
      leads = refl;
      inside = refl;
      phase = refl;
      sent = refl;
      tick = refl;
      ring = refl;
    }

-- ---- a turn more

inside_more : (part : List PlainEntry) (e : PlainEntry)
    → session_events_in part ≡ []
    → session_events e.event ≡ []
    → session_events_in (part ++ e ∷ []) ≡ []
inside_more part e inside no_event =
    flat_map-append (λ (x : PlainEntry). session_events x.event) part (e ∷ [])
    ∙ ((λ i. inside i ++ (no_event i ++ [])) ∙ refl)

pub goes_on_playing : {HasOrder : Scene → List PlainEntry → Type 0} (s : Scene) (scripts : List Script)
    (roles : List Role) (start v w : PortValue) (ticks : ℕ) (stand now : Stand)
    → PlayingIn HasOrder s scripts roles start v ticks stand
    → PlaysOnIn HasOrder s scripts roles v w stand now
    → PlayingIn HasOrder s scripts roles start w ticks now
goes_on_playing s scripts roles start v w ticks stand now h more =
    let adds = more.adds in
    record {
      plays = more.plays;
      part = h.part ++ adds.entry ∷ [];
      added =
          adds.added
          ∙ (ap (λ (j : List PlainEntry). j ++ adds.entry ∷ []) h.added
          ∙ append_assoc start.journal h.part (adds.entry ∷ []));
      leads =
          subst (λ (t : Terminal).
          Leads (call_at s.port s.session) (counts_on s.port s.session) start.terminal (h.part ++ adds.entry ∷ []) t)
          (sym adds.leads)
          (leads_more (call_at s.port s.session) (counts_on s.port s.session) start.terminal
          h.part v.terminal adds.entry h.leads adds.allowed);
      inside = inside_more h.part adds.entry h.inside adds.inside;
      phase = adds.phase ∙ h.phase;
      sent = adds.sent ∙ h.sent;
      tick = more.ticks ∙ h.tick;
      ring = adds.ring ∙ h.ring;
    }

-- the numbers of the roles are those of callers of the port
pub all_known : {HasOrder : Scene → List PlainEntry → Type 0} (s : Scene) (scripts : List Script) (roles : List Role)
    (v : PortValue) (stand : Stand)
    → PlaysIn HasOrder s scripts roles v stand
    → All (λ (r : Role). r.number < sum v.counts) roles
all_known s scripts roles v stand plays i d lt =
    subst (λ (cs : List ℕ). (get_or roles i d).number < sum cs) (sym plays.of_scene.counts)
    (role_of s v.terminal.phase scripts roles i (get_or roles i d) plays.callers.are_roles
    (slice_get-get_or roles i d lt)).known

-- ---- the end of the phase

all_over : (over waits must : Bool) → (not over && (not waits || not must)) ≡ false → waits ≡ false → over ≡ true
all_over true waits must e f = refl
all_over false true must e f = absurd (false≢true (sym f))
all_over false false must e f = absurd (false≢true (sym e))

-- each caller is over
all_are_over : (v : PortValue) (numbers : List ℕ)
    → NothingGoesOn v numbers
    → NoneIs (is_waiting v.terminal) numbers
    → (i : ℕ)
    → i < length numbers
    → (caller_at v.terminal (slice_index numbers i)).over ≡ true
all_are_over v numbers h none i lt =
    let c = slice_index numbers i in
    all_over (caller_at v.terminal c).over (is_waiting v.terminal c) (must_wait (call_in v.kept) v.terminal c)
    (h.none i lt) (none i lt)

-- nothing is left to do in the phase
pub record NothingIsLeft (v : PortValue) (roles : List Role) : Type 0 where
  pub idle_is : nothing_to_flush v.terminal ≡ true
  pub clock_is : v.terminal.clock_over ≡ true
  pub over : (i : ℕ)
      → i < length (role_numbers roles)
      → (caller_at v.terminal (slice_index (role_numbers roles) i)).over ≡ true

pub nothing_left : (v : PortValue) (roles : List Role) (going : Option ℕ)
    → IsPossible v (role_numbers roles) going turn.End
    → NothingIsLeft v roles
nothing_left v roles going possible =
    let h = (end_view v (role_numbers roles) going possible).1 in
    record { idle_is = h.0.idle; clock_is = h.0.clock; over = all_are_over v (role_numbers roles) h.0 h.1 }

pub may_end_of : {HasOrder : Scene → List PlainEntry → Type 0} (s : Scene) (scripts : List Script) (roles : List Role)
    (v : PortValue) (stand : Stand)
    → PlaysIn HasOrder s scripts roles v stand
    → NothingIsLeft v roles
    → may_end v.counts v.terminal ≡ true
may_end_of s scripts roles v stand plays nothing =
    all_four v.terminal.line_over v.terminal.clock_over _ (nothing_to_flush v.terminal) plays.line nothing.clock_is
    (enough s scripts roles v stand is_over plays refl nothing.over) nothing.idle_is

-- where each caller stands at the end of its phase
pub record HasEnded (is_caller : Bool) (first count : ℕ) (q : Standing) : Type 0 where
  pub played : HasPlayed is_caller first count q.next q.over
  pub resting : record q { over = false } ≡ standing_at_rest (first + count)

resting_of : (q : Standing) (next : ℕ)
    → q.next ≡ next
    → q.begun ≡ false
    → IsAtRest q
    → record q { over = false } ≡ standing_at_rest next
resting_of q next at begun rest =
    λ i. record {
      next = at i;
      over = false;
      waits = rest.waits i;
      parts = rest.parts i;
      taken = rest.taken i;
      generation = rest.generation i;
      begun = begun i;
    }

default_free : (ns : List ℕ) (i c : ℕ) → i < length ns → slice_index ns i ≡ get_or ns i c
default_free ns i c lt =
    same_Some (get_or ns i 0) (get_or ns i c) (sym (slice_get-get_or ns i 0 lt) ∙ slice_get-get_or ns i c lt)

-- of the caller of a role
ended_in_role : {HasOrder : Scene → List PlainEntry → Type 0} (s : Scene) (scripts : List Script) (roles : List Role)
    (v : PortValue) (stand : Stand) (i : ℕ) (r : Role)
    → PlaysIn HasOrder s scripts roles v stand
    → slice_get roles i ≡ Some r
    → (caller_at v.terminal r.number).over ≡ true
    → HasEnded true (first_step s.port s.session v.terminal.phase r.number)
    (steps_in s.port s.session v.terminal.phase r.number) (standing_at v r.number)
ended_in_role s scripts roles v stand i r plays at over =
    let role = role_of s v.terminal.phase scripts roles i r plays.callers.are_roles at in
    let in_role = plays.callers.in_roles i r at in
    let next : (standing_at v r.number).next
    ≡ first_step s.port s.session v.terminal.phase r.number + steps_in s.port s.session v.terminal.phase r.number =
    in_role.over over ∙ (λ j. role.first j + role.count j) in
    let begun = in_role.over_rest over in
    record { played = (next, over); resting = resting_of (standing_at v r.number) _ next begun (in_role.rest begun) }

has_ended : {HasOrder : Scene → List PlainEntry → Type 0} (s : Scene) (scripts : List Script) (roles : List Role)
    (v : PortValue) (stand : Stand) (c : ℕ)
    → PlaysIn HasOrder s scripts roles v stand
    → NothingIsLeft v roles
    → (b : Bool)
    → has_script (scripts_on s.port (phase_at s.session v.terminal.phase)) (name_at s.port s.session c) ≡ b
    → HasEnded b (first_step s.port s.session v.terminal.phase c) (steps_in s.port s.session v.terminal.phase c)
    (standing_at v c)
has_ended s scripts roles v stand c plays nothing true is =
    let are = plays.callers.are_roles in
    let held : Contains (role_numbers roles) c =
    subst (λ (ns : List ℕ). Contains ns c) (numbers_same scripts roles) (are.all c is) in
    let i = held.0 in
    let many = length-map roles (λ (r : Role). r.number) in
    let below : i < length (role_numbers roles) = held.1 in
    let lt : i < length roles = omega arith in
    let r = get_or roles i (record { number = 0; first = 0; place = 0 }) in
    let at : slice_get roles i ≡ Some r = slice_get-get_or roles i (record { number = 0; first = 0; place = 0 }) lt in
    let number = role_number roles i r at in
    let c_is : r.number ≡ c = sym number ∙ (default_free (role_numbers roles) i c below ∙ held.2) in
    let over : (caller_at v.terminal r.number).over ≡ true =
    subst (λ (n : ℕ). (caller_at v.terminal n).over ≡ true) number (nothing.over i below) in
    subst (λ (n : ℕ). HasEnded true (first_step s.port s.session v.terminal.phase n)
    (steps_in s.port s.session v.terminal.phase n) (standing_at v n)) c_is
    (ended_in_role s scripts roles v stand i r plays at over)
has_ended s scripts roles v stand c plays nothing false is =
    let absent : IsAbsent roles c =
    λ i r at e.
    let caller = (role_of s v.terminal.phase scripts roles i r plays.callers.are_roles at).caller in
    let own = subst (λ (n : ℕ). IsCallerOf s.port s.session v.terminal.phase n) e caller in
    false≢true (sym is ∙ own) in
    let stands = plays.callers.others c absent in
    let none : steps_in s.port s.session v.terminal.phase c ≡ 0 = no_steps s.port s.session v.terminal.phase c is in
    let first = first_step s.port s.session v.terminal.phase c in
    let same : first ≡ first + steps_in s.port s.session v.terminal.phase c = omega arith in
    record {
      played = (ap (λ (q : Standing). q.next) stands, ap (λ (q : Standing). q.over) stands);
      resting = ap (λ (q : Standing). record q { over = false }) stands ∙ ap (λ (n : ℕ). standing_at_rest n) same;
    }

pub ends_of : {HasOrder : Scene → List PlainEntry → Type 0} (Order : Scene → List PlainEntry → Type 0) (s : Scene)
    (scripts : List Script) (roles : List Role) (start v w : PortValue) (putter now : PutterState Flagged) (ticks : ℕ)
    (stand rested : Stand)
    → PlayingIn HasOrder s scripts roles start v ticks stand
    → IsPossible v (role_numbers roles) stand.going turn.End
    → EndsPhase v w putter now
    → ticks ≡ ticks_on s.port (phase_at s.session start.terminal.phase)
    → rested ≡ record { run = next_run stand.run stand.part; part = 0; ticks = stand.ticks; going = None }
    → Order s w.journal
    → EndsAfterLineIn Order s start w putter now rested.run
ends_of Order s scripts roles start v w putter now ticks stand rested h possible ends asked rest turns =
    let plays = h.plays in
    let e : PlainEntry = phase_entry v Session phase_ended in
    let more = more_of s v w v.kept (after_meeting v.flip putter) e plays.of_scene.counts
    plays.of_scene.known ends.appends refl refl in
    let nothing = nothing_left v roles stand.going possible in
    let runs = runs_rest v w (place_of s v.journal).before stand.run stand.part e plays.runs more.journal
    (ap (λ (m : Marks). m.latest) (marks_at s v w e more)) refl in
    let few = runs.few in
    let next : w.terminal ≡ next_phase v.terminal = ap (λ (x : PortValue). x.terminal) ends.appends.appended in
    let taken : v.flip.taken ≡ w.flip.taken = sym (ap (λ (x : PortValue). x.flip.taken) ends.appends.appended) in
    let left : stand.ticks ≡ 0 = plays.clock nothing.clock_is in
    let tick = h.tick in
    let ended : (c : ℕ)
    → HasEnded (has_script (scripts_on s.port (phase_at s.session v.terminal.phase)) (name_at s.port s.session c))
    (first_step s.port s.session v.terminal.phase c) (steps_in s.port s.session v.terminal.phase c) (standing_at v c) =
    λ c. has_ended s scripts roles v stand c plays nothing
    (has_script (scripts_on s.port (phase_at s.session v.terminal.phase)) (name_at s.port s.session c)) refl in
    let at_first : AreAtFirst s (v.terminal.phase + 1) w.terminal =
    λ c. at_rest (caller_at w.terminal c) (first_step s.port s.session (v.terminal.phase + 1) c)
    (stands_at s v w e more c
    ∙ ((ended c).resting
    ∙ ap (λ (n : ℕ). standing_at_rest n) (sym (first_next s.port s.session v.terminal.phase c plays.within)))) in
    record {
      part = h.part;
      last = e;
      terminal = v.terminal;
      added =
          more.journal
          ∙ (ap (λ (j : List PlainEntry). j ++ e ∷ []) h.added ∙ append_assoc start.journal h.part (e ∷ []));
      leads = h.leads;
      inside = h.inside;
      who = refl;
      ends = refl;
      next = next;
      line = plays.line;
      sent = h.sent;
      clock = nothing.clock_is;
      tick = omega arith;
      callers = λ c.
          subst (λ (k : ℕ). HasPlayed
          (has_script (scripts_on s.port (phase_at s.session k)) (name_at s.port s.session c))
          (first_step s.port s.session k c) (steps_in s.port s.session k c)
          (caller_at v.terminal c).next (caller_at v.terminal c).over)
          h.phase (ended c).played;
      of_scene = scene_in Order s w (scene_more s v w e plays.of_scene plays.run more tt) turns;
      at_first = subst (λ (k : ℕ). AreAtFirst s (k + 1) w.terminal) h.phase at_first;
      rest = ap (λ (t : Terminal). nothing_to_flush t) next ∙ nothing.idle_is;
      begins_run =
          subst (λ (x : Stand). BeginsRun x.run w) (sym rest)
          (begins_after w (Some e) (next_run stand.run stand.part) runs);
      met =
          ends.meets.putter
          ∙ ap (λ (n : ℕ). with_loaded (record putter { pushed = putter.sent }) n)
          (ap (λ (xs : List Flagged). length xs) taken);
      begins = subst (λ (xs : List Flagged). IsPrefix xs putter.sent) taken ends.meets.begins;
      ring = more.ring ∙ h.ring;
    }
  where
    begins_after : (x : PortValue) (before : Option PlainEntry) (run : ℕ) → HasRuns x before run 0 → BeginsRun run x
    begins_after x before run r = let few = r.few in record { follows = r.follows; below = r.below; few = omega arith }

-- in the order of one thread
pub end_in_order : (s : Scene) (scripts : List Script) (roles : List Role) (v w : PortValue)
    (putter now : PutterState Flagged) (stand : Stand)
    → Plays s scripts roles v stand
    → IsTurn (is_of_consoles s.session) v (role_numbers roles) stand.going turn.End
    → EndsPhase v w putter now
    → HasOneOrder s w.journal
end_in_order s scripts roles v w putter now stand plays is ends =
    let e : PlainEntry = phase_entry v Session phase_ended in
    let in_turn : IsInTurn s.port s.session (place_of s v.journal) e =
    record { by_turn = by_turn s scripts roles v stand Session plays is.who; piece = tt } in
    subst (λ (j : List PlainEntry). AreInTurn s.port s.session (first_place s.port s.session) j)
    (sym (ap (λ (x : PortValue). x.journal) ends.appends.appended))
    (turns_more s.port s.session (first_place s.port s.session) v.journal e plays.of_scene.turns in_turn)

pub plays_end : (roles : List Role) (old new : PortValue) (putter now : PutterState Flagged) (stand rested : Stand)
    → EndsPhase old new putter now
    → rested ≡ record { run = next_run stand.run stand.part; part = 0; ticks = stand.ticks; going = None }
    → PlaysEnd roles old new putter now stand rested.run
plays_end roles old new putter now stand rested ends rest =
    record {
      each = λ start h. ends_of HasAnyOrder h.scene h.scripts roles start old new putter now h.ticks
          stand rested h.playing h.possible ends h.ticks_are rest tt;
      in_order = λ start h.
          ends_of HasOneOrder h.scene h.scripts roles start old new putter now h.ticks stand rested h.playing
          (by_rank (is_of_consoles h.scene.session) old (role_numbers roles) stand.going turn.End h.is_turn)
          ends h.ticks_are rest
          (end_in_order h.scene h.scripts roles old new putter now stand h.playing.plays h.is_turn ends);
    }

-- ---- a journal that takes no further entry, or no memory

pub stops_of : (s : Scene) (scripts : List Script) (roles : List Role) (start v w : PortValue) (ticks : ℕ)
    (stand : Stand) (d : Denied)
    → Playing s scripts roles start v ticks stand
    → Denies d v w
    → ticks ≡ ticks_on s.port (phase_at s.session start.terminal.phase)
    → StopsAfterLine s start w d
stops_of s scripts roles start v w ticks stand Full h denies asked =
    let tick = h.tick in
    subst (λ (x : PortValue). StopsAfterLine s start x Full) (sym denies.1)
    (record {
      part = h.part;
      added = h.added;
      leads = h.leads;
      inside = h.inside;
      ticks = omega arith;
      of_scene = h.plays.of_scene;
      full = denies.0;
      ring = h.ring;
    })
stops_of s scripts roles start v w ticks stand NoMemory h denies asked =
    let tick = h.tick in
    let scene = h.plays.of_scene in
    subst (λ (x : PortValue). StopsAfterLine s start x NoMemory) (sym denies.1)
    (record {
      part = h.part;
      added = h.added;
      leads = h.leads;
      inside = h.inside;
      ticks = omega arith;
      of_scene = record {
        counts = scene.counts;
        capacity = scene.capacity;
        limit = scene.limit;
        known = scene.known;
        in_phases = scene.in_phases;
        turns = scene.turns;
      };
      full = tt;
      ring = h.ring;
    })
