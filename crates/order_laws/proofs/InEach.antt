-- Each session that agrees with a port goes on to be played.
use Rattle.std.proofs.Common.{◌≡◌, ◌<◌, ◌+◌, ℕ, Bool, None, List, ◌∷◌, [], ◌++◌, length, map, sym, ◌∙◌, ap, subst}
use Rattle.tty_base.specs.declared.lines.LineStep.{LineStep}
use Rattle.uart_line.specs.LineState.{LineState}
use Rattle.word_ring.specs.Ends.{PutterState}
use Rattle.tty_base.specs.declared.characters.Flagged.{Flagged}
use Rattle.tty_calls.specs.declared.sessions.Script.{Script}
use Rattle.tty_calls.specs.Plain.{PlainCall, PlainEntry}
use Rattle.tty_calls.specs.Sessions.{line_on, ticks_on}
use Rattle.tty_terminal.specs.Runs.{KnowsMore}
use Rattle.legal_runs.specs.Legal.{phase_at}
use Rattle.port_core.specs.Attempts.{PlainTried}
use Rattle.port_core.specs.Ports.{PlainKept, PortValue, IsPort, call_in, end_entry}
use Rattle.legal_runs.specs.Order.{is_of_consoles}
use Rattle.play_base.specs.Roles.{Scene, role_in, AreRolesOf}
use Rattle.play_base.specs.Scenes.{HasAnyOrder, HasOneOrder}
use Rattle.one_thread.specs.Stages.{EndsAfterLineIn}
use Rattle.play_base.specs.Beginning.{IsAtPhaseIn}
use Rattle.one_thread.specs.Lines.{PlaysLineIn}
use Rattle.play_base.specs.Phases.{HavePlayedInOrder}
use Rattle.one_thread.specs.Turns.{role_numbers, IsTurn, IsPossible, IsNextCall, PlaysIn, PlaysOnIn}
use Rattle.one_thread.specs.Acts.{BeginsLine, PlaysItsLine, AddsEntry, InTurn, PlaysTurn, TriesCall}
use Rattle.one_thread.specs.Acts.{PlaysCall, HasNoCall, EndsCalls, PlaysLast, PlayingIn, PlaysEnd}
use Rattle.play_base.specs.declared.roles.Role.{Role}
use Rattle.one_thread.specs.declared.after_line.Stand.{Stand}
use Rattle.one_thread.specs.declared.after_line.Turn.{Turn}
use Rattle.one_thread.specs.declared.after_line.Turn.TheVariants as turn
use Rattle.one_thread.proofs.Possible.{by_rank}
use Rattle.one_thread.proofs.Orders.{at_phase_in, plays_in}
use Rattle.one_thread.proofs.AfterLine.{begins, goes_on_playing}
use Rattle.one_thread.proofs.StationLemmas.{at_next_phase, played_phase}
use Rattle.order_laws.specs.Agreed.{IsLike, IsBeforeEachIn, IsBeforeEach, AreRolesOfEach}
use Rattle.order_laws.specs.Agreed.{PlaysEachIn, PlaysEach, EndsEachIn, EndsEach}
use Rattle.order_laws.proofs.Agreeing.{before, before_all, next_made, none_left}
use Rattle.order_laws.proofs.Shapes.{at_phase, phases_same}

pub same_calls : (old new : PortValue) → new.kept ≡ old.kept → KnowsMore (call_in old.kept) (call_in new.kept)
same_calls old new same =
    subst (λ (ks : List PlainKept). KnowsMore (call_in old.kept) (call_in ks)) (sym same) (λ c step call is. is)

-- the turn is the same in each
turn_in : (first s : Scene) (roles : List Role) (v : PortValue) (stand : Stand) (next : Turn)
    → IsLike first s
    → IsTurn (is_of_consoles first.session) v (role_numbers roles) stand.going next
    → IsTurn (is_of_consoles s.session) v (role_numbers roles) stand.going next
turn_in first s roles v stand next like is =
    subst (λ (b : Bool). IsTurn b v (role_numbers roles) stand.going next) (sym like.shape.consoles) is

abbrev in_any : {HasOrder : Scene → List PlainEntry → Type 0} (s : Scene) (scripts : List Script) (roles : List Role)
    (v : PortValue) (stand : Stand) (next : Turn)
    → PlaysIn HasOrder s scripts roles v stand
    → IsPossible v (role_numbers roles) stand.going next
    → InTurn roles v stand next
in_any s scripts roles v stand next plays possible = record {
  scene = s;
  scripts = scripts;
  plays = plays_in HasAnyOrder s scripts roles v stand plays tt;
  possible = possible;
}

-- ---- the turns of a phase, in an order in which each session plays them

turn_in_each : {HasOrder : Scene → List PlainEntry → Type 0} (first : Scene) (scripts : Scene → List Script)
    (roles : List Role) (start old new : PortValue) (ticks : ℕ) (was now : Stand)
    → PlaysEachIn HasOrder first scripts roles start old ticks was
    → ((s : Scene)
    → IsLike first s
    → PlaysIn HasOrder s (scripts s) roles old was
    → PlaysOnIn HasOrder s (scripts s) roles old new was now)
    → AddsEntry old new
    → PlaysEachIn HasOrder first scripts roles start new ticks now
turn_in_each first scripts roles start old new ticks was now h on adds =
    record {
      ticks_are = h.ticks_are;
      grows = λ c step call is_call. same_calls old new adds.kept c step call (h.grows c step call is_call);
      each = λ s like agrees.
          let playing = h.each s like (before s old new adds.entry adds.added (same_calls old new adds.kept) agrees) in
          goes_on_playing s (scripts s) roles start old new ticks was now playing (on s like playing.plays);
    }

call_in_each : {HasOrder : Scene → List PlainEntry → Type 0} (first : Scene) (scripts : Scene → List Script)
    (roles : List Role) (start old new : PortValue) (ticks : ℕ) (was now : Stand) (place : ℕ) (call : PlainCall)
    (tried : PlainTried)
    → PlaysEachIn HasOrder first scripts roles start old ticks was
    → IsPossible old (role_numbers roles) was.going (turn.Call place)
    → TriesCall roles old new place call tried
    → ((s : Scene)
    → IsLike first s
    → PlaysIn HasOrder s (scripts s) roles old was
    → IsNextCall (scripts s) roles old place call
    → PlaysOnIn HasOrder s (scripts s) roles old new was now)
    → PlaysEachIn HasOrder first scripts roles start new ticks now
call_in_each first scripts roles start old new ticks was now place call tried h possible tries on =
    let makes = tries.makes in
    record {
      ticks_are = h.ticks_are;
      grows = λ c step x is_call. makes.grows c step x (h.grows c step x is_call);
      each = λ s like agrees.
          let playing = h.each s like (before s old new makes.entry makes.added makes.grows agrees) in
          let in_turn : InTurn roles old was (turn.Call place) =
          in_any s (scripts s) roles old was (turn.Call place) playing.plays possible in
          goes_on_playing s (scripts s) roles start old new ticks was now playing
          (on s like playing.plays
          (next_made roles old new was place tries.role call in_turn tries.at_place makes agrees));
    }

last_in_each : {HasOrder : Scene → List PlainEntry → Type 0} (first : Scene) (scripts : Scene → List Script)
    (roles : List Role) (start old new : PortValue) (ticks : ℕ) (was now : Stand) (place : ℕ)
    → PlaysEachIn HasOrder first scripts roles start old ticks was
    → IsPossible old (role_numbers roles) was.going (turn.Call place)
    → EndsCalls roles old new place
    → ((s : Scene)
    → IsLike first s
    → PlaysIn HasOrder s (scripts s) roles old was
    → HasNoCall (scripts s) roles old place
    → PlaysOnIn HasOrder s (scripts s) roles old new was now)
    → PlaysEachIn HasOrder first scripts roles start new ticks now
last_in_each first scripts roles start old new ticks was now place h possible ends on =
    let appended = ends.appends.appended in
    record {
      ticks_are = h.ticks_are;
      grows = λ c step x is_call.
          same_calls old new (ap (λ (v : PortValue). v.kept) appended) c step x (h.grows c step x is_call);
      each = λ s like agrees.
          let playing = h.each s like
          (before s old new (end_entry old ends.role.number) (ap (λ (v : PortValue). v.journal) appended)
          (same_calls old new (ap (λ (v : PortValue). v.kept) appended)) agrees) in
          let in_turn : InTurn roles old was (turn.Call place) =
          in_any s (scripts s) roles old was (turn.Call place) playing.plays possible in
          goes_on_playing s (scripts s) roles start old new ticks was now playing
          (on s like playing.plays (none_left roles old new was place in_turn ends agrees));
    }

end_in_each : {HasOrder : Scene → List PlainEntry → Type 0} (first : Scene) (scripts : Scene → List Script)
    (roles : List Role) (start old new : PortValue) (putter now : PutterState Flagged) (ticks : ℕ) (stand : Stand)
    (run : ℕ)
    → PlaysEachIn HasOrder first scripts roles start old ticks stand
    → ((s : Scene)
    → IsLike first s
    → PlayingIn HasOrder s (scripts s) roles start old ticks stand
    → ticks ≡ ticks_on s.port (phase_at s.session start.terminal.phase)
    → EndsAfterLineIn HasOrder s start new putter now run)
    → AddsEntry old new
    → EndsEachIn HasOrder first start new putter now run
end_in_each first scripts roles start old new putter now ticks stand run h ends adds =
    record {
      grows = λ c step x is_call. same_calls old new adds.kept c step x (h.grows c step x is_call);
      each = λ s like agrees.
          ends s like (h.each s like (before s old new adds.entry adds.added (same_calls old new adds.kept) agrees))
          (h.ticks_are
          ∙ sym (ap (λ (p : ℕ). ticks_on p (phase_at s.session start.terminal.phase)) like.port
          ∙ at_phase (ticks_on first.port) first.session s.session start.terminal.phase like.ticks));
    }

-- ---- in the order of one thread

pub turn_each : (first : Scene) (scripts : Scene → List Script) (roles : List Role) (start old new : PortValue)
    (ticks : ℕ) (was now : Stand) (next : Turn)
    → PlaysEach first scripts roles start old ticks was
    → IsTurn (is_of_consoles first.session) old (role_numbers roles) was.going next
    → PlaysTurn roles old new was now next
    → AddsEntry old new
    → PlaysEach first scripts roles start new ticks now
turn_each first scripts roles start old new ticks was now next h is plays adds =
    turn_in_each first scripts roles start old new ticks was now h
    (λ s like playing. plays.in_order
    (record { scene = s; scripts = scripts s; plays = playing; is_turn = turn_in first s roles old was next like is }))
    adds

pub call_each : (first : Scene) (scripts : Scene → List Script) (roles : List Role) (start old new : PortValue)
    (ticks : ℕ) (was now : Stand) (place : ℕ) (call : PlainCall) (tried : PlainTried)
    → PlaysEach first scripts roles start old ticks was
    → IsTurn (is_of_consoles first.session) old (role_numbers roles) was.going (turn.Call place)
    → TriesCall roles old new place call tried
    → PlaysCall roles old new was now place call
    → PlaysEach first scripts roles start new ticks now
call_each first scripts roles start old new ticks was now place call tried h is tries plays =
    call_in_each first scripts roles start old new ticks was now place call tried h
    (by_rank (is_of_consoles first.session) old (role_numbers roles) was.going (turn.Call place) is) tries
    (λ s like playing next. plays.in_order (record {
      scene = s;
      scripts = scripts s;
      plays = playing;
      is_turn = turn_in first s roles old was (turn.Call place) like is;
    }) next)

pub last_each : (first : Scene) (scripts : Scene → List Script) (roles : List Role) (start old new : PortValue)
    (ticks : ℕ) (was now : Stand) (place : ℕ)
    → PlaysEach first scripts roles start old ticks was
    → IsTurn (is_of_consoles first.session) old (role_numbers roles) was.going (turn.Call place)
    → EndsCalls roles old new place
    → PlaysLast roles old new was now place
    → PlaysEach first scripts roles start new ticks now
last_each first scripts roles start old new ticks was now place h is ends plays =
    last_in_each first scripts roles start old new ticks was now place h
    (by_rank (is_of_consoles first.session) old (role_numbers roles) was.going (turn.Call place) is) ends
    (λ s like playing none. plays.in_order (record {
      scene = s;
      scripts = scripts s;
      plays = playing;
      is_turn = turn_in first s roles old was (turn.Call place) like is;
    }) none)

pub end_each : (first : Scene) (scripts : Scene → List Script) (roles : List Role) (start old new : PortValue)
    (putter now : PutterState Flagged) (ticks : ℕ) (stand : Stand) (run : ℕ)
    → PlaysEach first scripts roles start old ticks stand
    → IsTurn (is_of_consoles first.session) old (role_numbers roles) stand.going turn.End
    → PlaysEnd roles old new putter now stand run
    → AddsEntry old new
    → EndsEach first start new putter now run
end_each first scripts roles start old new putter now ticks stand run h is plays adds =
    end_in_each first scripts roles start old new putter now ticks stand run h
    (λ s like playing asked. plays.in_order start (record {
      scene = s;
      scripts = scripts s;
      ticks = ticks;
      playing = playing;
      is_turn = turn_in first s roles old stand turn.End like is;
      ticks_are = asked;
    })) adds

-- ---- in whatever order

pub any_turn_each : (first : Scene) (scripts : Scene → List Script) (roles : List Role) (start old new : PortValue)
    (ticks : ℕ) (was now : Stand) (next : Turn)
    → PlaysEachIn HasAnyOrder first scripts roles start old ticks was
    → IsPossible old (role_numbers roles) was.going next
    → PlaysTurn roles old new was now next
    → AddsEntry old new
    → PlaysEachIn HasAnyOrder first scripts roles start new ticks now
any_turn_each first scripts roles start old new ticks was now next h possible plays adds =
    turn_in_each first scripts roles start old new ticks was now h
    (λ s like playing.
    (plays.each (record { scene = s; scripts = scripts s; plays = playing; possible = possible })).on) adds

pub any_call_each : (first : Scene) (scripts : Scene → List Script) (roles : List Role) (start old new : PortValue)
    (ticks : ℕ) (was now : Stand) (place : ℕ) (call : PlainCall) (tried : PlainTried)
    → PlaysEachIn HasAnyOrder first scripts roles start old ticks was
    → IsPossible old (role_numbers roles) was.going (turn.Call place)
    → TriesCall roles old new place call tried
    → PlaysCall roles old new was now place call
    → PlaysEachIn HasAnyOrder first scripts roles start new ticks now
any_call_each first scripts roles start old new ticks was now place call tried h possible tries plays =
    call_in_each first scripts roles start old new ticks was now place call tried h possible tries
    (λ s like playing next. (plays.each (record {
      in_turn = record { scene = s; scripts = scripts s; plays = playing; possible = possible };
      next = next;
    })).on)

pub any_last_each : (first : Scene) (scripts : Scene → List Script) (roles : List Role) (start old new : PortValue)
    (ticks : ℕ) (was now : Stand) (place : ℕ)
    → PlaysEachIn HasAnyOrder first scripts roles start old ticks was
    → IsPossible old (role_numbers roles) was.going (turn.Call place)
    → EndsCalls roles old new place
    → PlaysLast roles old new was now place
    → PlaysEachIn HasAnyOrder first scripts roles start new ticks now
any_last_each first scripts roles start old new ticks was now place h possible ends plays =
    last_in_each first scripts roles start old new ticks was now place h possible ends
    (λ s like playing none. (plays.each (record {
      in_turn = record { scene = s; scripts = scripts s; plays = playing; possible = possible };
      none = none;
    })).on)

pub any_end_each : (first : Scene) (scripts : Scene → List Script) (roles : List Role) (start old new : PortValue)
    (putter now : PutterState Flagged) (ticks : ℕ) (stand : Stand) (run : ℕ)
    → PlaysEachIn HasAnyOrder first scripts roles start old ticks stand
    → IsPossible old (role_numbers roles) stand.going turn.End
    → PlaysEnd roles old new putter now stand run
    → AddsEntry old new
    → EndsEachIn HasAnyOrder first start new putter now run
any_end_each first scripts roles start old new putter now ticks stand run h possible plays adds =
    end_in_each first scripts roles start old new putter now ticks stand run h
    (λ s like playing asked. plays.each start (record {
      scene = s;
      scripts = scripts s;
      ticks = ticks;
      playing = playing;
      possible = possible;
      ticks_are = asked;
    })) adds

-- ---- from phase to phase

within_in : (first s : Scene) (k : ℕ) → IsLike first s → k < length first.session.phases → k < length s.session.phases
within_in first s k like lt =
    subst (λ (n : ℕ). k < n) (sym (phases_same first.port first.session s.session like.shape)) lt

line_in : (first s : Scene) (k : ℕ) (steps : List LineStep)
    → IsLike first s
    → steps ≡ line_on first.port (phase_at first.session k)
    → steps ≡ line_on s.port (phase_at s.session k)
line_in first s k steps like is =
    is
    ∙ sym (ap (λ (p : ℕ). line_on p (phase_at s.session k)) like.port
    ∙ at_phase (line_on first.port) first.session s.session k like.shape.lines)

-- what the line of the phase came to, in each
record PlaysLineOfEach (HasOrder : Scene → List PlainEntry → Type 0) (first : Scene) (old mid : PortValue)
    (putter now : PutterState Flagged) (line played : LineState) (run later : ℕ) : Type 0 where
  part : List PlainEntry
  added : mid.journal ≡ old.journal ++ part
  kept : mid.kept ≡ old.kept
  phase : mid.terminal.phase ≡ old.terminal.phase
  each : (s : Scene)
      → IsLike first s
      → IsAtPhaseIn HasOrder s old.terminal.phase old putter line run
      → PlaysLineIn HasOrder s old.terminal.phase old mid now line played later

line_of_each : (first : Scene) (steps : List LineStep) (old mid : PortValue) (putter now : PutterState Flagged)
    (line played : LineState) (run later : ℕ)
    → BeginsLine steps old putter line run
    → PlaysItsLine steps old mid putter now line played run later
    → old.terminal.phase < length first.session.phases
    → steps ≡ line_on first.port (phase_at first.session old.terminal.phase)
    → PlaysLineOfEach HasOneOrder first old mid putter now line played run later
line_of_each first steps old mid putter now line played run later b plays within is =
    let some = plays.each b in
    record {
      part = some.flushes ++ some.last ∷ [];
      added = some.added;
      kept = some.kept;
      phase = some.phase;
      each = λ s like at. plays.in_order (record {
        scene = s;
        begins = at;
        within = within_in first s old.terminal.phase like within;
        steps_are = line_in first s old.terminal.phase steps like is;
      });
    }

any_line_of_each : (first : Scene) (steps : List LineStep) (old mid : PortValue) (putter now : PutterState Flagged)
    (line played : LineState) (run later : ℕ)
    → BeginsLine steps old putter line run
    → PlaysItsLine steps old mid putter now line played run later
    → old.terminal.phase < length first.session.phases
    → steps ≡ line_on first.port (phase_at first.session old.terminal.phase)
    → PlaysLineOfEach HasAnyOrder first old mid putter now line played run later
any_line_of_each first steps old mid putter now line played run later b plays within is =
    let some = plays.each b in
    record {
      part = some.flushes ++ some.last ∷ [];
      added = some.added;
      kept = some.kept;
      phase = some.phase;
      each = λ s like at. plays.each (record {
        scene = s;
        begins = at;
        within = within_in first s old.terminal.phase like within;
        steps_are = line_in first s old.terminal.phase steps like is;
      });
    }

line_in_each : {HasOrder : Scene → List PlainEntry → Type 0} (first : Scene) (scripts : Scene → List Script)
    (roles : List Role) (old mid : PortValue) (putter now : PutterState Flagged) (line played : LineState)
    (run later ticks : ℕ)
    → IsBeforeEachIn HasOrder first old putter line run
    → PlaysLineOfEach HasOrder first old mid putter now line played run later
    → ticks ≡ ticks_on first.port (phase_at first.session old.terminal.phase)
    → IsPort mid
    → AreRolesOfEach first scripts roles old.terminal.phase mid
    → PlaysEachIn HasOrder first scripts roles mid mid ticks
    (record { run = later; part = 0; ticks = ticks; going = None })
line_in_each first scripts roles old mid putter now line played run later ticks h on ticks_is port are =
    record {
      ticks_are = ticks_is ∙ ap (λ (k : ℕ). ticks_on first.port (phase_at first.session k)) (sym on.phase);
      grows = λ c step call is_call. is_call;
      each = λ s like agrees.
          let here = on.each s like
          (h.each s like (before_all s old mid on.part on.added (same_calls old mid on.kept) agrees)).0 in
          begins s (scripts s) roles mid ticks later here.after_line
          (subst (λ (k : ℕ). AreRolesOf s k (map (role_in (scripts s)) roles)) (sym here.phase)
          (are.each s like agrees)) port;
    }

-- the line of the phase was played
pub line_each : (first : Scene) (scripts : Scene → List Script) (roles : List Role) (steps : List LineStep)
    (old mid : PortValue) (putter now : PutterState Flagged) (line played : LineState) (run later ticks : ℕ)
    → IsBeforeEach first old putter line run
    → BeginsLine steps old putter line run
    → PlaysItsLine steps old mid putter now line played run later
    → old.terminal.phase < length first.session.phases
    → steps ≡ line_on first.port (phase_at first.session old.terminal.phase)
    → ticks ≡ ticks_on first.port (phase_at first.session old.terminal.phase)
    → IsPort mid
    → AreRolesOfEach first scripts roles old.terminal.phase mid
    → PlaysEach first scripts roles mid mid ticks (record { run = later; part = 0; ticks = ticks; going = None })
line_each first scripts roles steps old mid putter now line
    played run later ticks h b plays within is ticks_is port are =
    line_in_each first scripts roles old mid putter now line played run later ticks h
    (line_of_each first steps old mid putter now line played run later b plays within is) ticks_is port are

pub any_line_each : (first : Scene) (scripts : Scene → List Script) (roles : List Role) (steps : List LineStep)
    (old mid : PortValue) (putter now : PutterState Flagged) (line played : LineState) (run later ticks : ℕ)
    → IsBeforeEachIn HasAnyOrder first old putter line run
    → BeginsLine steps old putter line run
    → PlaysItsLine steps old mid putter now line played run later
    → old.terminal.phase < length first.session.phases
    → steps ≡ line_on first.port (phase_at first.session old.terminal.phase)
    → ticks ≡ ticks_on first.port (phase_at first.session old.terminal.phase)
    → IsPort mid
    → AreRolesOfEach first scripts roles old.terminal.phase mid
    → PlaysEachIn HasAnyOrder first scripts roles mid mid ticks
    (record { run = later; part = 0; ticks = ticks; going = None })
any_line_each first scripts roles steps old mid putter now line
    played run later ticks h b plays within is ticks_is port are =
    line_in_each first scripts roles old mid putter now line played run later ticks h
    (any_line_of_each first steps old mid putter now line played run later b plays within is) ticks_is port are

-- the phase was played
phase_in_each : {HasOrder : Scene → List PlainEntry → Type 0} (first : Scene) (old mid new : PortValue)
    (putter now left : PutterState Flagged) (line played : LineState) (run later next : ℕ)
    → IsBeforeEachIn HasOrder first old putter line run
    → PlaysLineOfEach HasOrder first old mid putter now line played run later
    → old.terminal.phase < length first.session.phases
    → EndsEachIn HasOrder first mid new now left next
    → IsBeforeEachIn HasOrder first new left played next
phase_in_each first old mid new putter now left line played run later next h on within ended =
    let k = old.terminal.phase in
    record {
      each = λ s like agrees.
          let ends = ended.each s like agrees in
          let between = before_all s mid new (ends.part ++ ends.last ∷ []) ends.added ended.grows agrees in
          let was = h.each s like (before_all s old mid on.part on.added (same_calls old mid on.kept) between) in
          let inside = within_in first s k like within in
          let here = on.each s like was.0 in
          let at = at_next_phase s k old mid new putter now left line played run later next was.0 here ends in
          let order : HavePlayedInOrder s (k + 1) new.journal played.report.overruns.items =
          played_phase s k old mid new putter now left line played run later next inside was.0 was.1 here ends in (
            to_phase s (k + 1) new left played next (sym at.phase) at,
            subst (λ (j : ℕ). HavePlayedInOrder s j new.journal played.report.overruns.items) (sym at.phase) order,
          );
    }
  where
    to_phase : {Order : Scene → List PlainEntry → Type 0} (s : Scene) (j : ℕ) (v : PortValue) (p : PutterState Flagged)
        (l : LineState) (n : ℕ) {i : ℕ}
        → j ≡ i
        → IsAtPhaseIn Order s j v p l n
        → IsAtPhaseIn Order s i v p l n
    to_phase {Order} s j v p l n same at = subst (λ (m : ℕ). IsAtPhaseIn Order s m v p l n) same at

pub phase_each : (first : Scene) (steps : List LineStep) (old mid new : PortValue)
    (putter now left : PutterState Flagged) (line played : LineState) (run later next : ℕ)
    → IsBeforeEach first old putter line run
    → BeginsLine steps old putter line run
    → PlaysItsLine steps old mid putter now line played run later
    → old.terminal.phase < length first.session.phases
    → steps ≡ line_on first.port (phase_at first.session old.terminal.phase)
    → EndsEach first mid new now left next
    → IsBeforeEach first new left played next
phase_each first steps old mid new putter now left line played run later next h b plays within is ended =
    phase_in_each first old mid new putter now left line played run later next h
    (line_of_each first steps old mid putter now line played run later b plays within is) within ended

pub any_phase_each : (first : Scene) (steps : List LineStep) (old mid new : PortValue)
    (putter now left : PutterState Flagged) (line played : LineState) (run later next : ℕ)
    → IsBeforeEachIn HasAnyOrder first old putter line run
    → BeginsLine steps old putter line run
    → PlaysItsLine steps old mid putter now line played run later
    → old.terminal.phase < length first.session.phases
    → steps ≡ line_on first.port (phase_at first.session old.terminal.phase)
    → EndsEachIn HasAnyOrder first mid new now left next
    → IsBeforeEachIn HasAnyOrder first new left played next
any_phase_each first steps old mid new putter now left line played run later next h b plays within is ended =
    phase_in_each first old mid new putter now left line played run later next h
    (any_line_of_each first steps old mid putter now line played run later b plays within is) within ended

-- what is before a phase of each in the order of one thread is so in whatever order
pub any_before_each : (first : Scene) (v : PortValue) (putter : PutterState Flagged) (line : LineState) (run : ℕ)
    → IsBeforeEach first v putter line run
    → IsBeforeEachIn HasAnyOrder first v putter line run
any_before_each first v putter line run h =
    record {
      each = λ s like agrees.
          let at = h.each s like agrees in (at_phase_in HasAnyOrder s v.terminal.phase v putter line run at.0 tt, at.1);
    }
