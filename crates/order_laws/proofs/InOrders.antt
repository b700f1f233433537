-- The acts of a player whose session is only known as its callers pass calls down, in an order in which each session
-- that agrees with the port plays them.
use Rattle.std.proofs.Common.{◌≡◌, ◌≤◌, ◌<◌, ℕ, ◌+◌, Bool, true, false, List, [], ◌∷◌, ◌++◌, None, Some}
use Rattle.std.proofs.Common.{length, if◌then◌else◌, refl, sym, ap, ◌∙◌, subst, arith, length-append}
use Rattle.std.specs.Prelude.{slice_get}
use Rattle.std.proofs.lemmas.Bool.{false≢true}
use Rattle.std.proofs.lemmas.Option.{same_Some}
use Rattle.tty_base.specs.declared.lines.LineStep.{LineStep}
use Rattle.tty_base.specs.declared.characters.Flagged.{Flagged}
use Rattle.uart_line.specs.LineState.{LineState}
use Rattle.word_ring.specs.Ends.{PutterState}
use Rattle.tty_calls.specs.declared.sessions.Script.{Script}
use Rattle.tty_calls.specs.declared.journals.Who.TheVariants.{Caller}
use Rattle.tty_calls.specs.Plain.{PlainCall, PlainEntry, is_caller}
use Rattle.tty_calls.specs.Sessions.{line_on, ticks_on}
use Rattle.tty_calls.specs.Limits.{IsCallWithin}
use Rattle.tty_terminal.specs.Runs.{is_of_call}
use Rattle.passed_calls.specs.Blocks.{names_on}
use Rattle.passed_calls.specs.Derived.{Passing, BlockPhase, blocks_of, by_caller, all_calls, calls_at}
use Rattle.passed_calls.specs.Within.{AreBlocksWithin, ArePassedWithin}
use Rattle.passed_calls.proofs.Limits.{within_limits}
use Rattle.legal_runs.specs.Legal.{phase_at}
use Rattle.port_core.specs.Attempts.{PlainTried}
use Rattle.port_core.specs.Ports.{PortValue, call_in, end_entry}
use Rattle.play_base.specs.Roles.{Scene}
use Rattle.play_base.specs.Scenes.{HasAnyOrder}
use Rattle.one_thread.specs.Turns.{role_numbers, who_of, standing_at, IsPossible}
use Rattle.one_thread.specs.Turns.{IsNextCall, PlaysIn, PlaysOnIn, TakesTurn}
use Rattle.one_thread.specs.Acts.{BeginsLine, PlaysItsLine, InTurn, PlaysTurn}
use Rattle.one_thread.specs.Acts.{InCall, TriesCall, PlaysCall, EndsCalls, InLast, PlaysLast, PlaysEnd}
use Rattle.play_base.specs.declared.roles.Role.{Role}
use Rattle.one_thread.specs.declared.after_line.Stand.{Stand}
use Rattle.one_thread.specs.declared.after_line.Turn.{Turn}
use Rattle.one_thread.specs.declared.after_line.Turn.TheVariants as turn
use Rattle.one_thread.proofs.Calling.{may_act}
use Rattle.one_thread.proofs.Orders.{at_phase_in, plays_in, playing_in}
use Rattle.order_laws.specs.Agreed.{Agrees, IsLike, IsBeforeEachIn, PlaysEachIn}
use Rattle.order_laws.proofs.Shapes.{phases_same, at_phase}
use Rattle.order_laws.specs.Passed.{begin_of, IsPassedBy, AreBefore, AreUpTo, PassesMore}
use Rattle.order_laws.specs.Passed.{GrowsBy, IsOfBlocks, passed_more, with_passing}
use Rattle.order_laws.specs.Witness.{scene_on, HasPassed, IsPlayingIn, IsCallingIn}
use Rattle.order_laws.proofs.Within.{passes_then, within_by}
use Rattle.order_laws.proofs.PassedAdding.{more_within, like_first, blocks_same}
use Rattle.order_laws.proofs.PassedGrowing.{agrees_then}
use Rattle.order_laws.proofs.Nexts.{next_begun, next_passed, none_left}
use Rattle.order_laws.proofs.Made.{made_at_first, made_in_turn, made_by_call, made_same}
use Rattle.order_laws.proofs.Passings.{all_more, in_more_steps, first_rises}

-- ---- the session that is played

agrees_on : {HasOrder : Scene → List PlainEntry → Type 0} (s : Scene) (scripts : List Script) (roles : List Role)
    (v w : PortValue) (stand now : Stand)
    → PlaysOnIn HasOrder s scripts roles v w stand now
    → Agrees s w
agrees_on s scripts roles v w stand now h =
    record { known = h.plays.of_scene.known; in_phases = h.plays.of_scene.in_phases }

phase_on : (p : ℕ) (phases : List BlockPhase) (mine : ℕ → List Passing) (j k : ℕ)
    → k ≡ j
    → AreUpTo p phases j mine
    → AreUpTo p phases k mine
phase_on p phases mine j k same h = subst (λ (i : ℕ). AreUpTo p phases i mine) (sym same) h

made_between : (b : Bool) (n : ℕ) → b ≡ false → (if b then n + 1 else n) ≡ n
made_between true n e = absurd (false≢true (sym e))
made_between false n e = refl

own_more : (mine more : ℕ → List Passing) (c : ℕ) (m : Passing) (call : PlainCall) (n : ℕ)
    → PassesMore c m mine more
    → m.calls ≡ call ∷ []
    → length (all_calls (mine c)) ≡ n
    → length (all_calls (more c)) ≡ n + 1
own_more mine more c m call n h one were =
    ap (λ (ms : List Passing). length (all_calls ms)) h.own
    ∙ (ap (λ (cs : List PlainCall). length cs)
    (all_more (mine c) m ∙ ap (λ (cs : List PlainCall). all_calls (mine c) ++ cs) one)
    ∙ (length-append (all_calls (mine c)) (call ∷ []) ∙ ap (λ (i : ℕ). i + 1) were))

abbrev last_or : PlainEntry → List PlainEntry → PlainEntry
last_or d [] = d
last_or d (e ∷ es) = last_or e es

last_is : (d : PlainEntry) (es : List PlainEntry) (e : PlainEntry) → last_or d (es ++ e ∷ []) ≡ e
last_is d [] e = refl
last_is d (x ∷ es) e = last_is x es e

pub same_entry : (es : List PlainEntry) (e f : PlainEntry) → es ++ e ∷ [] ≡ es ++ f ∷ [] → e ≡ f
same_entry es e f same = sym (last_is e es e) ∙ (ap (last_or e) same ∙ last_is e es f)

-- what was passed down stays so, where the session that is played agrees with the port as it goes on
has_on : (first : Scene) (phases : List BlockPhase) (mine : ℕ → List Passing) (old new : PortValue)
    (h : HasPassed first phases mine old)
    → Agrees (scene_on first.port h.session) new
    → HasPassed first phases mine new
has_on first phases mine old new h agrees = record {
  session = h.session;
  by = h.by;
  within = h.within;
  ports = h.ports;
  flips = h.flips;
  like = h.like;
  agrees = agrees;
}

-- a turn that can be taken, in whatever order
abbrev pub turn_of : {HasOrder : Scene → List PlainEntry → Type 0} (first : Scene) (phases : List BlockPhase)
    (scripts : Scene → List Script) (roles : List Role) (start : PortValue) (mine : ℕ → List Passing) (v : PortValue)
    (ticks : ℕ) (stand : Stand) (next : Turn)
    → IsPlayingIn HasOrder first phases scripts roles start mine v ticks stand
    → IsPossible v (role_numbers roles) stand.going next
    → InTurn roles v stand next
turn_of first phases scripts roles start mine v ticks stand next h possible =
    record {
      scene = scene_on first.port h.has.session;
      scripts = scripts (scene_on first.port h.has.session);
      plays = plays_in HasAnyOrder (scene_on first.port h.has.session) (scripts (scene_on first.port h.has.session))
          roles v stand (h.each.each (scene_on first.port h.has.session) h.has.like h.has.agrees).plays tt;
      possible = possible;
    }

-- ---- a flush, a tick, or the end of the clock

pub turn_goes_on : {HasOrder : Scene → List PlainEntry → Type 0} (first : Scene) (phases : List BlockPhase)
    (scripts : Scene → List Script) (roles : List Role) (start : PortValue) (mine : ℕ → List Passing)
    (old new : PortValue) (ticks : ℕ) (was now : Stand) (next : Turn)
    → IsPlayingIn HasOrder first phases scripts roles start mine old ticks was
    → IsPossible old (role_numbers roles) was.going next
    → ((c : ℕ) → is_caller (who_of (role_numbers roles) next) c ≡ false)
    → PlaysTurn roles old new was now next
    → PlaysEachIn HasOrder first scripts roles start new ticks now
    → IsPlayingIn HasOrder first phases scripts roles start mine new ticks now
turn_goes_on first phases scripts roles start mine old new ticks was now next h possible none plays each =
    let s = scene_on first.port h.has.session in
    let takes : TakesTurn s (scripts s) roles old new was now next =
    plays.each (turn_of first phases scripts roles start mine old ticks was next h possible) in
    record {
      each = each;
      has = has_on first phases mine old new h.has (agrees_on s (scripts s) roles old new was now takes.on);
      up_to = phase_on first.port phases mine old.terminal.phase new.terminal.phase takes.on.adds.phase h.up_to;
      made = made_in_turn s (scripts s) roles old new was now next mine none takes h.made;
    }

-- ---- a call

pub made_begun : (b : Bool) (n : ℕ) → b ≡ true → (if b then n + 1 else n) ≡ n + 1
made_begun true n e = refl
made_begun false n e = absurd (false≢true e)

-- the one that it has begun
pub begun_is_next : {HasOrder : Scene → List PlainEntry → Type 0} (first : Scene) (phases : List BlockPhase)
    (scripts : Scene → List Script) (roles : List Role)
    (start : PortValue) (mine : ℕ → List Passing) (v : PortValue) (ticks : ℕ) (stand : Stand) (place : ℕ) (r : Role)
    (call : PlainCall)
    → IsPlayingIn HasOrder first phases scripts roles start mine v ticks stand
    → slice_get roles place ≡ Some r
    → (standing_at v r.number).begun ≡ true
    → call_in v.kept r.number (standing_at v r.number).next ≡ Some call
    → IsCallingIn HasOrder first phases scripts roles start mine v ticks stand place call
begun_is_next first phases scripts roles start mine v ticks stand place r call h is begun kept =
    let s = scene_on first.port h.has.session in
    record {
      each = h.each;
      has = h.has;
      up_to = h.up_to;
      role = r;
      at_place = is;
      own = h.made r.number ∙ made_begun (standing_at v r.number).begun (standing_at v r.number).next begun;
      others = λ d other. h.made d;
      next = next_begun s (scripts s) roles v stand place r call
          (h.each.each s h.has.like h.has.agrees).plays is begun kept;
    }

-- a new one, which it passes down
pub passed_is_next : {HasOrder : Scene → List PlainEntry → Type 0} (first : Scene) (phases : List BlockPhase)
    (scripts : Scene → List Script) (roles : List Role)
    (start : PortValue) (mine more : ℕ → List Passing) (m : Passing) (v : PortValue) (ticks : ℕ) (stand : Stand)
    (place : ℕ) (r : Role) (call : PlainCall)
    → IsPlayingIn HasOrder first phases scripts roles start mine v ticks stand
    → IsPossible v (role_numbers roles) stand.going (turn.Call place)
    → slice_get roles place ≡ Some r
    → (standing_at v r.number).begun ≡ false
    → IsOfBlocks first.port phases first.session
    → AreBlocksWithin first.session.ports first.session.flips phases
    → PassesMore r.number m mine more
    → m.caller ≡ r.number
    → m.calls ≡ call ∷ []
    → IsCallWithin call
    → calls_at (mine r.number) m.step ≡ []
    → begin_of first.port phases v.terminal.phase r.number ≤ m.step
    → AreUpTo first.port phases v.terminal.phase more
    → IsCallingIn HasOrder first phases scripts roles start more v ticks stand place call
passed_is_next {HasOrder} first phases scripts roles start mine more m v ticks stand place r call h possible
    is rest blocks limits passes caller one good none from up_to =
    let p = first.port in
    let k = v.terminal.phase in
    let session = h.has.session in
    let then_passes : PassesMore m.caller m mine more =
    subst (λ (c : ℕ). PassesMore c m mine more) (sym caller) passes in
    let later = with_passing p phases m h.has.by.passed session in
    let by : IsPassedBy p phases more later = passes_then p phases mine more m session h.has.by then_passes in
    let within : ArePassedWithin (passed_more p m h.has.by.passed) =
    more_within p m call h.has.by.passed h.has.within one good
    (ap (λ (c : ℕ). calls_at (by_caller c (h.has.by.passed p)) m.step) caller
    ∙ (ap (λ (ms : List Passing). calls_at ms m.step) (h.has.by.by r.number) ∙ none)) in
    let like : IsLike first (scene_on p later) =
    like_first first phases more later blocks by (h.has.like.shape.consoles) (h.has.like.shape.flip)
    (within_limits phases (passed_more p m h.has.by.passed) later refl
    (blocks_same first.session.ports first.session.flips session.ports
    session.flips phases h.has.ports h.has.flips limits) within) in
    let s = scene_on p session in
    let z = scene_on p later in
    let at : PlaysIn HasOrder s (scripts s) roles v stand = (h.each.each s h.has.like h.has.agrees).plays in
    let grows : GrowsBy p k phases r.number m mine more session later =
    record {
      by = h.has.by;
      then_by = by;
      passes = passes;
      from = from;
      up_to = h.up_to;
      then_up_to = up_to;
      within = at.within;
      consoles = like.shape.consoles ∙ sym h.has.like.shape.consoles;
      flip = like.shape.flip ∙ sym h.has.like.shape.flip;
    } in
    let on = (may_act s (scripts s) roles v stand place r at is possible).not_over in
    let agrees : Agrees z v =
    agrees_then p phases r.number m mine more session later (scripts s) roles v stand at grows on in
    let plays : PlaysIn HasOrder z (scripts z) roles v stand = (h.each.each z like agrees).plays in
    let next : IsNextCall (scripts z) roles v place call =
    next_passed p phases m mine more session later (scripts z)
    roles v stand place r call plays is grows one h.made rest in
    record {
      each = h.each;
      has = record {
        session = later;
        by = by;
        within = within_by p phases mine more m session h.has.by then_passes within;
        ports = h.has.ports;
        flips = h.has.flips;
        like = like;
        agrees = agrees;
      };
      up_to = up_to;
      role = r;
      at_place = is;
      own = own_more mine more r.number m call (standing_at v r.number).next passes one
          (h.made r.number ∙ made_between (standing_at v r.number).begun (standing_at v r.number).next rest);
      others = λ d other. ap (λ (ms : List Passing). length (all_calls ms)) (passes.others d other) ∙ h.made d;
      next = next;
    }

abbrev pub call_of : {HasOrder : Scene → List PlainEntry → Type 0} (first : Scene) (phases : List BlockPhase)
    (scripts : Scene → List Script) (roles : List Role) (start : PortValue) (more : ℕ → List Passing) (v : PortValue)
    (ticks : ℕ) (stand : Stand) (place : ℕ) (call : PlainCall)
    → IsCallingIn HasOrder first phases scripts roles start more v ticks stand place call
    → IsPossible v (role_numbers roles) stand.going (turn.Call place)
    → InCall roles v stand place call
call_of first phases scripts roles start more v ticks stand place call h possible =
    record {
      in_turn = record {
        scene = scene_on first.port h.has.session;
        scripts = scripts (scene_on first.port h.has.session);
        plays = plays_in HasAnyOrder (scene_on first.port h.has.session) (scripts (scene_on first.port h.has.session))
            roles v stand (h.each.each (scene_on first.port h.has.session) h.has.like h.has.agrees).plays tt;
        possible = possible;
      };
      next = h.next;
    }

pub call_goes_on : {HasOrder : Scene → List PlainEntry → Type 0} (first : Scene) (phases : List BlockPhase)
    (scripts : Scene → List Script) (roles : List Role) (start : PortValue) (more : ℕ → List Passing)
    (old new : PortValue) (ticks : ℕ) (was now : Stand) (place : ℕ) (call : PlainCall) (tried : PlainTried)
    → IsCallingIn HasOrder first phases scripts roles start more old ticks was place call
    → IsPossible old (role_numbers roles) was.going (turn.Call place)
    → TriesCall roles old new place call tried
    → PlaysCall roles old new was now place call
    → PlaysEachIn HasOrder first scripts roles start new ticks now
    → IsPlayingIn HasOrder first phases scripts roles start more new ticks now
call_goes_on first phases scripts roles start more old new ticks was now place call tried h possible tries plays each =
    let s = scene_on first.port h.has.session in
    let on : PlaysOnIn HasAnyOrder s (scripts s) roles old new was now =
    (plays.each (call_of first phases scripts roles start more old ticks was place call h possible)).on in
    let makes = tries.makes in
    let same : tries.role ≡ h.role = same_Some tries.role h.role (sym tries.at_place ∙ h.at_place) in
    let entry : makes.entry ≡ on.adds.entry =
    same_entry old.journal makes.entry on.adds.entry (sym makes.added ∙ on.adds.added) in
    let who : on.adds.entry.who ≡ Caller h.role.number =
    ap (λ (e : PlainEntry). e.who) (sym entry) ∙ (makes.who ∙ ap (λ (r : Role). Caller r.number) same) in
    let of_call : is_of_call on.adds.entry.event ≡ true =
    ap (λ (e : PlainEntry). is_of_call e.event) (sym entry) ∙ makes.of_call in
    record {
      each = each;
      has = has_on first phases more old new h.has (agrees_on s (scripts s) roles old new was now on);
      up_to = phase_on first.port phases more old.terminal.phase new.terminal.phase on.adds.phase h.up_to;
      made = made_by_call s old new more on.adds h.role.number who of_call h.own h.others;
    }

-- ---- the end of a caller's calls

abbrev pub last_of : {HasOrder : Scene → List PlainEntry → Type 0} (first : Scene) (phases : List BlockPhase)
    (scripts : Scene → List Script) (roles : List Role) (start : PortValue) (mine : ℕ → List Passing) (v : PortValue)
    (ticks : ℕ) (stand : Stand) (place : ℕ) (r : Role)
    → IsPlayingIn HasOrder first phases scripts roles start mine v ticks stand
    → IsPossible v (role_numbers roles) stand.going (turn.Call place)
    → slice_get roles place ≡ Some r
    → (standing_at v r.number).begun ≡ false
    → InLast roles v stand place
last_of first phases scripts roles start mine v ticks stand place r h possible is rest =
    record {
      in_turn = turn_of first phases scripts roles start mine v ticks stand (turn.Call place) h possible;
      none = none_left first.port phases mine h.has.session (scripts (scene_on first.port h.has.session))
          roles v stand place r
          (h.each.each (scene_on first.port h.has.session) h.has.like h.has.agrees).plays
          is h.has.by h.up_to h.made rest;
    }

pub last_goes_on : {HasOrder : Scene → List PlainEntry → Type 0} (first : Scene) (phases : List BlockPhase)
    (scripts : Scene → List Script) (roles : List Role) (start : PortValue) (mine : ℕ → List Passing)
    (old new : PortValue) (ticks : ℕ) (was now : Stand) (place : ℕ) (r : Role)
    → IsPlayingIn HasOrder first phases scripts roles start mine old ticks was
    → IsPossible old (role_numbers roles) was.going (turn.Call place)
    → slice_get roles place ≡ Some r
    → (standing_at old r.number).begun ≡ false
    → EndsCalls roles old new place
    → PlaysLast roles old new was now place
    → PlaysEachIn HasOrder first scripts roles start new ticks now
    → IsPlayingIn HasOrder first phases scripts roles start mine new ticks now
last_goes_on first phases scripts roles start mine old new ticks was now place r h possible is rest ends plays each =
    let s = scene_on first.port h.has.session in
    let on : PlaysOnIn HasAnyOrder s (scripts s) roles old new was now =
    (plays.each (last_of first phases scripts roles start mine old ticks was place r h possible is rest)).on in
    let added : new.journal ≡ old.journal ++ end_entry old ends.role.number ∷ [] =
    ap (λ (v : PortValue). v.journal) ends.appends.appended in
    let entry : end_entry old ends.role.number ≡ on.adds.entry =
    same_entry old.journal (end_entry old ends.role.number) on.adds.entry (sym added ∙ on.adds.added) in
    record {
      each = each;
      has = has_on first phases mine old new h.has (agrees_on s (scripts s) roles old new was now on);
      up_to = phase_on first.port phases mine old.terminal.phase new.terminal.phase on.adds.phase h.up_to;
      made = made_same s old new mine on.adds (sym (ap (λ (e : PlainEntry). is_of_call e.event) entry)) h.made;
    }

-- ---- the end of the phase

pub passed_at_end : {HasOrder : Scene → List PlainEntry → Type 0} (first : Scene) (phases : List BlockPhase)
    (scripts : Scene → List Script) (roles : List Role) (start : PortValue) (mine : ℕ → List Passing)
    (old new : PortValue) (putter now : PutterState Flagged) (ticks : ℕ) (stand : Stand) (run : ℕ)
    → IsPlayingIn HasOrder first phases scripts roles start mine old ticks stand
    → IsPossible old (role_numbers roles) stand.going turn.End
    → PlaysEnd roles old new putter now stand run
    → HasPassed first phases mine new
passed_at_end first phases scripts roles start mine old new putter now ticks stand run h possible plays =
    let s = scene_on first.port h.has.session in
    let ends = plays.each start (record {
      scene = s;
      scripts = scripts s;
      ticks = ticks;
      playing = playing_in HasAnyOrder s (scripts s) roles start old ticks stand
          (h.each.each s h.has.like h.has.agrees) tt;
      possible = possible;
      ticks_are =
          h.each.ticks_are
          ∙ sym (at_phase (ticks_on first.port) first.session s.session start.terminal.phase h.has.like.ticks);
    }) in
    has_on first phases mine old new h.has
    (record { known = ends.of_scene.known; in_phases = ends.of_scene.in_phases })

-- ---- the beginning of a phase

abbrev pub line_of : {HasOrder : Scene → List PlainEntry → Type 0} (first : Scene) (phases : List BlockPhase)
    (mine : ℕ → List Passing) (lines : List LineStep) (v : PortValue) (putter : PutterState Flagged) (line : LineState)
    (run : ℕ)
    → IsBeforeEachIn HasOrder first v putter line run
    → HasPassed first phases mine v
    → v.terminal.phase < length first.session.phases
    → lines ≡ line_on first.port (phase_at first.session v.terminal.phase)
    → BeginsLine lines v putter line run
line_of first phases mine lines v putter line run h has within is =
    record {
      scene = scene_on first.port has.session;
      begins = at_phase_in HasAnyOrder (scene_on first.port has.session) v.terminal.phase v putter line run
          (h.each (scene_on first.port has.session) has.like has.agrees).0 tt;
      within = subst (λ (n : ℕ). v.terminal.phase < n)
          (sym (phases_same first.port first.session has.session has.like.shape)) within;
      steps_are =
          is ∙ sym (at_phase (line_on first.port) first.session has.session v.terminal.phase has.like.shape.lines);
    }

pub playing_begins : {HasOrder : Scene → List PlainEntry → Type 0} (first : Scene) (phases : List BlockPhase)
    (scripts : Scene → List Script) (roles : List Role) (mine : ℕ → List Passing) (lines : List LineStep)
    (old mid : PortValue) (putter now : PutterState Flagged) (line played : LineState) (run later ticks : ℕ)
    → IsBeforeEachIn HasOrder first old putter line run
    → HasPassed first phases mine old
    → AreBefore first.port phases old.terminal.phase mine
    → PlaysItsLine lines old mid putter now line played run later
    → old.terminal.phase < length first.session.phases
    → lines ≡ line_on first.port (phase_at first.session old.terminal.phase)
    → PlaysEachIn HasOrder first scripts roles mid mid ticks
    (record { run = later; part = 0; ticks = ticks; going = None })
    → IsPlayingIn HasOrder first phases scripts roles mid mine mid ticks
    (record { run = later; part = 0; ticks = ticks; going = None })
playing_begins first phases scripts roles mine lines old mid putter now line played run
    later ticks h has before plays within is each =
    let p = first.port in
    let k = old.terminal.phase in
    let on = plays.each (line_of first phases mine lines old putter line run h has within is) in
    let after = on.after_line in
    let up_to : AreUpTo p phases k mine =
    λ c. in_more_steps 0 (begin_of p phases k c) (begin_of p phases (k + 1) c) (mine c)
    (first_rises p k (k + 1) phases (slice_get (names_on p (blocks_of phases)) c) (omega arith)) (before c) in
    record {
      each = each;
      has = has_on first phases mine old mid has
          (record { known = after.of_scene.known; in_phases = after.of_scene.in_phases });
      up_to = phase_on p phases mine k mid.terminal.phase on.phase up_to;
      made = made_at_first p mid.terminal.phase phases mine has.session mid has.by
          (subst (λ (i : ℕ). AreBefore p phases i mine) (sym on.phase) before) after.callers;
    }
