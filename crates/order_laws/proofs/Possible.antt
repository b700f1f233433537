-- The acts of a player whose session is only known as its callers pass calls down, in whatever order.
use Rattle.std.proofs.Common.{◌≡◌, ◌≤◌, ◌<◌, ℕ, false, true, List, [], ◌∷◌, None, Some, length, ap}
use Rattle.std.specs.Prelude.{slice_get}
use Rattle.tty_base.specs.declared.lines.LineStep.{LineStep}
use Rattle.tty_base.specs.declared.characters.Flagged.{Flagged}
use Rattle.uart_line.specs.LineState.{LineState}
use Rattle.word_ring.specs.Ends.{PutterState}
use Rattle.tty_calls.specs.declared.sessions.Script.{Script}
use Rattle.tty_calls.specs.Plain.{PlainCall, is_caller}
use Rattle.tty_calls.specs.Sessions.{line_on, ticks_on}
use Rattle.tty_calls.specs.Limits.{IsCallWithin}
use Rattle.passed_calls.specs.Derived.{Passing, BlockPhase, calls_at}
use Rattle.passed_calls.specs.Within.{AreBlocksWithin}
use Rattle.legal_runs.specs.Legal.{phase_at}
use Rattle.port_core.specs.Attempts.{PlainTried}
use Rattle.port_core.specs.Ports.{PortValue, IsPort, call_in, end_entry}
use Rattle.play_base.specs.Roles.{Scene}
use Rattle.play_base.specs.Scenes.{HasAnyOrder}
use Rattle.one_thread.specs.Turns.{role_numbers, who_of, standing_at, IsPossible, PlaysIn, TakesTurn}
use Rattle.one_thread.specs.Acts.{BeginsLine, PlaysItsLine, AddsEntry, InTurn, PlaysTurn}
use Rattle.one_thread.specs.Acts.{InCall, TriesCall, PlaysCall, EndsCalls, InLast, PlaysLast, PlaysEnd}
use Rattle.play_base.specs.declared.roles.Role.{Role}
use Rattle.one_thread.specs.declared.after_line.Stand.{Stand}
use Rattle.one_thread.specs.declared.after_line.Turn.{Turn}
use Rattle.one_thread.specs.declared.after_line.Turn.TheVariants as turn
use Rattle.order_laws.specs.Agreed.{Agrees, IsLike, IsBeforeEachIn, AreRolesOfEach, PlaysEachIn, EndsEachIn}
use Rattle.order_laws.proofs.Agreeing.{before, next_made, none_left}
use Rattle.order_laws.proofs.InEach.{same_calls, any_turn_each, any_call_each, any_last_each, any_end_each}
use Rattle.order_laws.proofs.InEach.{any_line_each}
use Rattle.order_laws.specs.Passed.{begin_of, IsOfBlocks, AreBefore, AreUpTo, PassesMore}
use Rattle.order_laws.specs.Witness.{HasPassed, IsPlayingIn, IsCallingIn}
use Rattle.order_laws.proofs.InOrders.{turn_of, turn_goes_on, begun_is_next, passed_is_next, call_of, call_goes_on}
use Rattle.order_laws.proofs.InOrders.{last_of, last_goes_on, passed_at_end, line_of, playing_begins}

-- ---- a flush, a tick, or the end of the clock

abbrev pub any_in_turn : (first : Scene) (phases : List BlockPhase) (scripts : Scene → List Script) (roles : List Role)
    (start : PortValue) (mine : ℕ → List Passing) (v : PortValue) (ticks : ℕ) (stand : Stand) (next : Turn)
    → IsPlayingIn HasAnyOrder first phases scripts roles start mine v ticks stand
    → IsPossible v (role_numbers roles) stand.going next
    → InTurn roles v stand next
any_in_turn first phases scripts roles start mine v ticks stand next h possible =
    turn_of first phases scripts roles start mine v ticks stand next h possible

pub any_turn_on : (first : Scene) (phases : List BlockPhase) (scripts : Scene → List Script) (roles : List Role)
    (start : PortValue) (mine : ℕ → List Passing) (old new : PortValue) (ticks : ℕ) (was now : Stand) (next : Turn)
    → IsPlayingIn HasAnyOrder first phases scripts roles start mine old ticks was
    → IsPossible old (role_numbers roles) was.going next
    → ((c : ℕ) → is_caller (who_of (role_numbers roles) next) c ≡ false)
    → PlaysTurn roles old new was now next
    → AddsEntry old new
    → IsPlayingIn HasAnyOrder first phases scripts roles start mine new ticks now
any_turn_on first phases scripts roles start mine old new ticks was now next h possible none plays adds =
    turn_goes_on first phases scripts roles start mine old new ticks was now next h possible none plays
    (any_turn_each first scripts roles start old new ticks was now next h.each possible plays adds)

-- ---- a call

pub any_begun : (first : Scene) (phases : List BlockPhase) (scripts : Scene → List Script) (roles : List Role)
    (start : PortValue) (mine : ℕ → List Passing) (v : PortValue) (ticks : ℕ) (stand : Stand) (place : ℕ) (r : Role)
    (call : PlainCall)
    → IsPlayingIn HasAnyOrder first phases scripts roles start mine v ticks stand
    → slice_get roles place ≡ Some r
    → (standing_at v r.number).begun ≡ true
    → call_in v.kept r.number (standing_at v r.number).next ≡ Some call
    → IsCallingIn HasAnyOrder first phases scripts roles start mine v ticks stand place call
any_begun first phases scripts roles start mine v ticks stand place r call h is begun kept =
    begun_is_next first phases scripts roles start mine v ticks stand place r call h is begun kept

pub any_next : (first : Scene) (phases : List BlockPhase) (scripts : Scene → List Script) (roles : List Role)
    (start : PortValue) (mine more : ℕ → List Passing) (m : Passing) (v : PortValue) (ticks : ℕ) (stand : Stand)
    (place : ℕ) (r : Role) (call : PlainCall)
    → IsPlayingIn HasAnyOrder first phases scripts roles start mine v ticks stand
    → IsPossible v (role_numbers roles) stand.going (turn.Call place)
    → slice_get roles place ≡ Some r
    → (standing_at v r.number).begun ≡ false
    → IsOfBlocks first.port phases first.session
    → AreBlocksWithin first.session.ports first.session.flips phases
    → PassesMore r.number m mine more
    → m.caller ≡ r.number
    → m.calls ≡ call ∷ []
    → IsCallWithin call
    → calls_at (mine r.number) m.step ≡ []
    → begin_of first.port phases v.terminal.phase r.number ≤ m.step
    → AreUpTo first.port phases v.terminal.phase more
    → IsCallingIn HasAnyOrder first phases scripts roles start more v ticks stand place call
any_next first phases scripts roles start mine more m v ticks stand place r call h possible
    is rest blocks limits passes caller one good none from up_to =
    passed_is_next first phases scripts roles start mine more m v ticks stand place r call h possible
    is rest blocks limits passes caller one good none from up_to

abbrev pub any_in_call : (first : Scene) (phases : List BlockPhase) (scripts : Scene → List Script) (roles : List Role)
    (start : PortValue) (more : ℕ → List Passing) (v : PortValue) (ticks : ℕ) (stand : Stand) (place : ℕ)
    (call : PlainCall)
    → IsCallingIn HasAnyOrder first phases scripts roles start more v ticks stand place call
    → IsPossible v (role_numbers roles) stand.going (turn.Call place)
    → InCall roles v stand place call
any_in_call first phases scripts roles start more v ticks stand place call h possible =
    call_of first phases scripts roles start more v ticks stand place call h possible

pub any_call_on : (first : Scene) (phases : List BlockPhase) (scripts : Scene → List Script) (roles : List Role)
    (start : PortValue) (more : ℕ → List Passing) (old new : PortValue) (ticks : ℕ) (was now : Stand) (place : ℕ)
    (call : PlainCall) (tried : PlainTried)
    → IsCallingIn HasAnyOrder first phases scripts roles start more old ticks was place call
    → IsPossible old (role_numbers roles) was.going (turn.Call place)
    → TriesCall roles old new place call tried
    → PlaysCall roles old new was now place call
    → IsPlayingIn HasAnyOrder first phases scripts roles start more new ticks now
any_call_on first phases scripts roles start more old new ticks was now place call tried h possible tries plays =
    call_goes_on first phases scripts roles start more old new ticks was now place call tried h possible tries plays
    (any_call_each first scripts roles start old new ticks was now place call tried h.each possible tries plays)

-- ---- the end of a caller's calls

abbrev pub any_in_last : (first : Scene) (phases : List BlockPhase) (scripts : Scene → List Script) (roles : List Role)
    (start : PortValue) (mine : ℕ → List Passing) (v : PortValue) (ticks : ℕ) (stand : Stand) (place : ℕ) (r : Role)
    → IsPlayingIn HasAnyOrder first phases scripts roles start mine v ticks stand
    → IsPossible v (role_numbers roles) stand.going (turn.Call place)
    → slice_get roles place ≡ Some r
    → (standing_at v r.number).begun ≡ false
    → InLast roles v stand place
any_in_last first phases scripts roles start mine v ticks stand place r h possible is rest =
    last_of first phases scripts roles start mine v ticks stand place r h possible is rest

pub any_last_on : (first : Scene) (phases : List BlockPhase) (scripts : Scene → List Script) (roles : List Role)
    (start : PortValue) (mine : ℕ → List Passing) (old new : PortValue) (ticks : ℕ) (was now : Stand) (place : ℕ)
    (r : Role)
    → IsPlayingIn HasAnyOrder first phases scripts roles start mine old ticks was
    → IsPossible old (role_numbers roles) was.going (turn.Call place)
    → slice_get roles place ≡ Some r
    → (standing_at old r.number).begun ≡ false
    → EndsCalls roles old new place
    → PlaysLast roles old new was now place
    → IsPlayingIn HasAnyOrder first phases scripts roles start mine new ticks now
any_last_on first phases scripts roles start mine old new ticks was now place r h possible is rest ends plays =
    last_goes_on first phases scripts roles start mine old new ticks was now place r h possible is rest ends plays
    (any_last_each first scripts roles start old new ticks was now place h.each possible ends plays)

-- ---- the end of the phase

pub any_end_on : (first : Scene) (phases : List BlockPhase) (scripts : Scene → List Script) (roles : List Role)
    (start : PortValue) (mine : ℕ → List Passing) (old new : PortValue) (putter now : PutterState Flagged) (ticks : ℕ)
    (stand : Stand) (run : ℕ)
    → IsPlayingIn HasAnyOrder first phases scripts roles start mine old ticks stand
    → IsPossible old (role_numbers roles) stand.going turn.End
    → PlaysEnd roles old new putter now stand run
    → AddsEntry old new
    → EndsEachIn HasAnyOrder first start new putter now run × HasPassed first phases mine new
any_end_on first phases scripts roles start mine old new putter now ticks stand run h possible plays adds = (
  any_end_each first scripts roles start old new putter now ticks stand run h.each possible plays adds,
  passed_at_end first phases scripts roles start mine old new putter now ticks stand run h possible plays,
)

-- ---- the beginning of a phase

abbrev pub any_begins_line : (first : Scene) (phases : List BlockPhase) (mine : ℕ → List Passing)
    (lines : List LineStep)
    (v : PortValue) (putter : PutterState Flagged) (line : LineState) (run : ℕ)
    → IsBeforeEachIn HasAnyOrder first v putter line run
    → HasPassed first phases mine v
    → v.terminal.phase < length first.session.phases
    → lines ≡ line_on first.port (phase_at first.session v.terminal.phase)
    → BeginsLine lines v putter line run
any_begins_line first phases mine lines v putter line run h has within is =
    line_of first phases mine lines v putter line run h has within is

pub any_begins_playing : (first : Scene) (phases : List BlockPhase) (scripts : Scene → List Script) (roles : List Role)
    (mine : ℕ → List Passing) (lines : List LineStep) (old mid : PortValue) (putter now : PutterState Flagged)
    (line played : LineState) (run later ticks : ℕ)
    → IsBeforeEachIn HasAnyOrder first old putter line run
    → HasPassed first phases mine old
    → AreBefore first.port phases old.terminal.phase mine
    → PlaysItsLine lines old mid putter now line played run later
    → old.terminal.phase < length first.session.phases
    → lines ≡ line_on first.port (phase_at first.session old.terminal.phase)
    → ticks ≡ ticks_on first.port (phase_at first.session old.terminal.phase)
    → IsPort mid
    → AreRolesOfEach first scripts roles old.terminal.phase mid
    → IsPlayingIn HasAnyOrder first phases scripts roles mid mine mid ticks
    (record { run = later; part = 0; ticks = ticks; going = None })
any_begins_playing first phases scripts roles mine lines old mid putter now line played run
    later ticks h has before plays within is ticks_is port are =
    playing_begins first phases scripts roles mine lines old mid putter now line played run later ticks h has before
    plays within is
    (any_line_each first scripts roles lines old mid putter now line played run later ticks h
    (line_of first phases mine lines old putter line run h has within is) plays within is ticks_is port are)

-- ---- each session that agrees with the port took the turn

abbrev turn_in : (s : Scene) (scripts : List Script) (roles : List Role) (v : PortValue) (stand : Stand) (next : Turn)
    → PlaysIn HasAnyOrder s scripts roles v stand
    → IsPossible v (role_numbers roles) stand.going next
    → InTurn roles v stand next
turn_in s scripts roles v stand next plays possible =
    record { scene = s; scripts = scripts; plays = plays; possible = possible }

pub turn_taken : (first : Scene) (scripts : Scene → List Script) (roles : List Role) (start old new : PortValue)
    (ticks : ℕ) (was now : Stand) (next : Turn)
    → PlaysEachIn HasAnyOrder first scripts roles start old ticks was
    → IsPossible old (role_numbers roles) was.going next
    → PlaysTurn roles old new was now next
    → AddsEntry old new
    → (s : Scene)
    → IsLike first s
    → Agrees s new
    → TakesTurn s (scripts s) roles old new was now next
turn_taken first scripts roles start old new ticks was now next h possible plays adds s like agrees =
    let was_agreed = before s old new adds.entry adds.added (same_calls old new adds.kept) agrees in
    plays.each (turn_in s (scripts s) roles old was next (h.each s like was_agreed).plays possible)

pub call_taken : (first : Scene) (scripts : Scene → List Script) (roles : List Role) (start old new : PortValue)
    (ticks : ℕ) (was now : Stand) (place : ℕ) (call : PlainCall) (tried : PlainTried)
    → PlaysEachIn HasAnyOrder first scripts roles start old ticks was
    → IsPossible old (role_numbers roles) was.going (turn.Call place)
    → TriesCall roles old new place call tried
    → PlaysCall roles old new was now place call
    → (s : Scene)
    → IsLike first s
    → Agrees s new
    → TakesTurn s (scripts s) roles old new was now (turn.Call place)
call_taken first scripts roles start old new ticks was now place call tried h possible tries plays s like agrees =
    let makes = tries.makes in
    let was_agreed = before s old new makes.entry makes.added makes.grows agrees in
    let in_turn : InTurn roles old was (turn.Call place) =
    turn_in s (scripts s) roles old was (turn.Call place) (h.each s like was_agreed).plays possible in
    plays.each (record {
      in_turn = turn_in s (scripts s) roles old was (turn.Call place) (h.each s like was_agreed).plays possible;
      next = next_made roles old new was place tries.role call in_turn tries.at_place makes agrees;
    })

pub last_taken : (first : Scene) (scripts : Scene → List Script) (roles : List Role) (start old new : PortValue)
    (ticks : ℕ) (was now : Stand) (place : ℕ)
    → PlaysEachIn HasAnyOrder first scripts roles start old ticks was
    → IsPossible old (role_numbers roles) was.going (turn.Call place)
    → EndsCalls roles old new place
    → PlaysLast roles old new was now place
    → (s : Scene)
    → IsLike first s
    → Agrees s new
    → TakesTurn s (scripts s) roles old new was now (turn.Call place)
last_taken first scripts roles start old new ticks was now place h possible ends plays s like agrees =
    let appended = ends.appends.appended in
    let was_agreed = before s old new (end_entry old ends.role.number) (ap (λ (v : PortValue). v.journal) appended)
    (same_calls old new (ap (λ (v : PortValue). v.kept) appended)) agrees in
    let in_turn : InTurn roles old was (turn.Call place) =
    turn_in s (scripts s) roles old was (turn.Call place) (h.each s like was_agreed).plays possible in
    plays.each (record {
      in_turn = turn_in s (scripts s) roles old was (turn.Call place) (h.each s like was_agreed).plays possible;
      none = none_left roles old new was place in_turn ends agrees;
    })
