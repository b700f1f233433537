-- The acts of a player whose session is only known as its callers pass calls down, in the order of one thread.
use Rattle.std.proofs.Common.{◌≡◌, ◌≤◌, ◌<◌, ℕ, Bool, false, true, List, [], ◌∷◌, None, Some, length, sym, subst}
use Rattle.std.specs.Prelude.{slice_get}
use Rattle.tty_base.specs.declared.lines.LineStep.{LineStep}
use Rattle.tty_base.specs.declared.characters.Flagged.{Flagged}
use Rattle.uart_line.specs.LineState.{LineState}
use Rattle.word_ring.specs.Ends.{PutterState}
use Rattle.tty_calls.specs.declared.sessions.Script.{Script}
use Rattle.tty_calls.specs.Plain.{PlainCall, is_caller}
use Rattle.tty_calls.specs.Sessions.{line_on, ticks_on}
use Rattle.tty_calls.specs.Limits.{IsCallWithin}
use Rattle.passed_calls.specs.Derived.{Passing, BlockPhase, calls_at}
use Rattle.passed_calls.specs.Within.{AreBlocksWithin}
use Rattle.legal_runs.specs.Legal.{phase_at}
use Rattle.port_core.specs.Attempts.{PlainTried}
use Rattle.port_core.specs.Ports.{PortValue, IsPort, call_in}
use Rattle.legal_runs.specs.Order.{is_of_consoles}
use Rattle.play_base.specs.Roles.{Scene}
use Rattle.one_thread.specs.Turns.{role_numbers, who_of, standing_at, IsTurn, IsPossible}
use Rattle.one_thread.specs.Acts.{BeginsLine, PlaysItsLine, AddsEntry, InTurn, PlaysTurn}
use Rattle.one_thread.specs.Acts.{InCall, TriesCall, PlaysCall, EndsCalls, InLast, PlaysLast, PlaysEnd}
use Rattle.play_base.specs.declared.roles.Role.{Role}
use Rattle.one_thread.specs.declared.after_line.Stand.{Stand}
use Rattle.one_thread.specs.declared.after_line.Turn.{Turn}
use Rattle.one_thread.specs.declared.after_line.Turn.TheVariants as turn
use Rattle.one_thread.proofs.Possible.{by_rank}
use Rattle.order_laws.specs.Agreed.{IsLike, IsBeforeEach, AreRolesOfEach, EndsEach}
use Rattle.order_laws.proofs.InEach.{turn_each, call_each, last_each, end_each, line_each}
use Rattle.order_laws.specs.Passed.{begin_of, IsOfBlocks, AreBefore, AreUpTo, PassesMore}
use Rattle.order_laws.specs.Witness.{HasPassed, IsPlaying, IsCalling}
use Rattle.order_laws.proofs.InOrders.{turn_of, turn_goes_on, begun_is_next, passed_is_next, call_of, call_goes_on}
use Rattle.order_laws.proofs.InOrders.{last_of, last_goes_on, passed_at_end, line_of, playing_begins}

pub consoles_in : (first s : Scene) (roles : List Role) (v : PortValue) (stand : Stand) (next : Turn)
    → IsLike first s
    → IsTurn (is_of_consoles first.session) v (role_numbers roles) stand.going next
    → IsTurn (is_of_consoles s.session) v (role_numbers roles) stand.going next
consoles_in first s roles v stand next like is =
    subst (λ (b : Bool). IsTurn b v (role_numbers roles) stand.going next) (sym like.shape.consoles) is

-- who is next by rank can take the turn
pub can_take : (first : Scene) (roles : List Role) (v : PortValue) (stand : Stand) (next : Turn)
    → IsTurn (is_of_consoles first.session) v (role_numbers roles) stand.going next
    → IsPossible v (role_numbers roles) stand.going next
can_take first roles v stand next is =
    by_rank (is_of_consoles first.session) v (role_numbers roles) stand.going next is

abbrev pub in_turn : (first : Scene) (phases : List BlockPhase) (scripts : Scene → List Script) (roles : List Role)
    (start : PortValue) (mine : ℕ → List Passing) (v : PortValue) (ticks : ℕ) (stand : Stand) (next : Turn)
    → IsPlaying first phases scripts roles start mine v ticks stand
    → IsTurn (is_of_consoles first.session) v (role_numbers roles) stand.going next
    → InTurn roles v stand next
in_turn first phases scripts roles start mine v ticks stand next h is =
    turn_of first phases scripts roles start mine v ticks stand next h (can_take first roles v stand next is)

-- ---- a flush, a tick, or the end of the clock

pub turn_on : (first : Scene) (phases : List BlockPhase) (scripts : Scene → List Script) (roles : List Role)
    (start : PortValue) (mine : ℕ → List Passing) (old new : PortValue) (ticks : ℕ) (was now : Stand) (next : Turn)
    → IsPlaying first phases scripts roles start mine old ticks was
    → IsTurn (is_of_consoles first.session) old (role_numbers roles) was.going next
    → ((c : ℕ) → is_caller (who_of (role_numbers roles) next) c ≡ false)
    → PlaysTurn roles old new was now next
    → AddsEntry old new
    → IsPlaying first phases scripts roles start mine new ticks now
turn_on first phases scripts roles start mine old new ticks was now next h is none plays adds =
    turn_goes_on first phases scripts roles start mine old new ticks was now next h
    (can_take first roles old was next is) none plays
    (turn_each first scripts roles start old new ticks was now next h.each is plays adds)

-- ---- a call

pub calls_begun : (first : Scene) (phases : List BlockPhase) (scripts : Scene → List Script) (roles : List Role)
    (start : PortValue) (mine : ℕ → List Passing) (v : PortValue) (ticks : ℕ) (stand : Stand) (place : ℕ) (r : Role)
    (call : PlainCall)
    → IsPlaying first phases scripts roles start mine v ticks stand
    → slice_get roles place ≡ Some r
    → (standing_at v r.number).begun ≡ true
    → call_in v.kept r.number (standing_at v r.number).next ≡ Some call
    → IsCalling first phases scripts roles start mine v ticks stand place call
calls_begun first phases scripts roles start mine v ticks stand place r call h is begun kept =
    begun_is_next first phases scripts roles start mine v ticks stand place r call h is begun kept

pub calls_next : (first : Scene) (phases : List BlockPhase) (scripts : Scene → List Script) (roles : List Role)
    (start : PortValue) (mine more : ℕ → List Passing) (m : Passing) (v : PortValue) (ticks : ℕ) (stand : Stand)
    (place : ℕ) (r : Role) (call : PlainCall)
    → IsPlaying first phases scripts roles start mine v ticks stand
    → IsTurn (is_of_consoles first.session) v (role_numbers roles) stand.going (turn.Call place)
    → slice_get roles place ≡ Some r
    → (standing_at v r.number).begun ≡ false
    → IsOfBlocks first.port phases first.session
    → AreBlocksWithin first.session.ports first.session.flips phases
    → PassesMore r.number m mine more
    → m.caller ≡ r.number
    → m.calls ≡ call ∷ []
    → IsCallWithin call
    → calls_at (mine r.number) m.step ≡ []
    → begin_of first.port phases v.terminal.phase r.number ≤ m.step
    → AreUpTo first.port phases v.terminal.phase more
    → IsCalling first phases scripts roles start more v ticks stand place call
calls_next first phases scripts roles start mine more m v ticks stand place r call h whose
    is rest blocks limits passes caller one good none from up_to =
    passed_is_next first phases scripts roles start mine more m v ticks stand place r call h
    (can_take first roles v stand (turn.Call place) whose) is rest blocks limits passes caller one good none from up_to

abbrev pub in_call : (first : Scene) (phases : List BlockPhase) (scripts : Scene → List Script) (roles : List Role)
    (start : PortValue) (more : ℕ → List Passing) (v : PortValue) (ticks : ℕ) (stand : Stand) (place : ℕ)
    (call : PlainCall)
    → IsCalling first phases scripts roles start more v ticks stand place call
    → IsTurn (is_of_consoles first.session) v (role_numbers roles) stand.going (turn.Call place)
    → InCall roles v stand place call
in_call first phases scripts roles start more v ticks stand place call h is =
    call_of first phases scripts roles start more v ticks stand place call h
    (can_take first roles v stand (turn.Call place) is)

pub call_on : (first : Scene) (phases : List BlockPhase) (scripts : Scene → List Script) (roles : List Role)
    (start : PortValue) (more : ℕ → List Passing) (old new : PortValue) (ticks : ℕ) (was now : Stand) (place : ℕ)
    (call : PlainCall) (tried : PlainTried)
    → IsCalling first phases scripts roles start more old ticks was place call
    → IsTurn (is_of_consoles first.session) old (role_numbers roles) was.going (turn.Call place)
    → TriesCall roles old new place call tried
    → PlaysCall roles old new was now place call
    → IsPlaying first phases scripts roles start more new ticks now
call_on first phases scripts roles start more old new ticks was now place call tried h is tries plays =
    call_goes_on first phases scripts roles start more old new ticks was now place call tried h
    (can_take first roles old was (turn.Call place) is) tries plays
    (call_each first scripts roles start old new ticks was now place call tried h.each is tries plays)

-- ---- the end of a caller's calls

abbrev pub in_last : (first : Scene) (phases : List BlockPhase) (scripts : Scene → List Script) (roles : List Role)
    (start : PortValue) (mine : ℕ → List Passing) (v : PortValue) (ticks : ℕ) (stand : Stand) (place : ℕ) (r : Role)
    → IsPlaying first phases scripts roles start mine v ticks stand
    → IsTurn (is_of_consoles first.session) v (role_numbers roles) stand.going (turn.Call place)
    → slice_get roles place ≡ Some r
    → (standing_at v r.number).begun ≡ false
    → InLast roles v stand place
in_last first phases scripts roles start mine v ticks stand place r h whose is rest =
    last_of first phases scripts roles start mine v ticks stand place r h
    (can_take first roles v stand (turn.Call place) whose) is rest

pub last_on : (first : Scene) (phases : List BlockPhase) (scripts : Scene → List Script) (roles : List Role)
    (start : PortValue) (mine : ℕ → List Passing) (old new : PortValue) (ticks : ℕ) (was now : Stand) (place : ℕ)
    (r : Role)
    → IsPlaying first phases scripts roles start mine old ticks was
    → IsTurn (is_of_consoles first.session) old (role_numbers roles) was.going (turn.Call place)
    → slice_get roles place ≡ Some r
    → (standing_at old r.number).begun ≡ false
    → EndsCalls roles old new place
    → PlaysLast roles old new was now place
    → IsPlaying first phases scripts roles start mine new ticks now
last_on first phases scripts roles start mine old new ticks was now place r h whose is rest ends plays =
    last_goes_on first phases scripts roles start mine old new ticks was now place r h
    (can_take first roles old was (turn.Call place) whose) is rest ends plays
    (last_each first scripts roles start old new ticks was now place h.each whose ends plays)

-- ---- the end of the phase

pub end_on : (first : Scene) (phases : List BlockPhase) (scripts : Scene → List Script) (roles : List Role)
    (start : PortValue) (mine : ℕ → List Passing) (old new : PortValue) (putter now : PutterState Flagged) (ticks : ℕ)
    (stand : Stand) (run : ℕ)
    → IsPlaying first phases scripts roles start mine old ticks stand
    → IsTurn (is_of_consoles first.session) old (role_numbers roles) stand.going turn.End
    → PlaysEnd roles old new putter now stand run
    → AddsEntry old new
    → EndsEach first start new putter now run × HasPassed first phases mine new
end_on first phases scripts roles start mine old new putter now ticks stand run h is plays adds = (
  end_each first scripts roles start old new putter now ticks stand run h.each is plays adds,
  passed_at_end first phases scripts roles start mine old new putter now ticks stand run h
      (can_take first roles old stand turn.End is) plays,
)

-- ---- the beginning of a phase

abbrev pub begins_line : (first : Scene) (phases : List BlockPhase) (mine : ℕ → List Passing) (lines : List LineStep)
    (v : PortValue) (putter : PutterState Flagged) (line : LineState) (run : ℕ)
    → IsBeforeEach first v putter line run
    → HasPassed first phases mine v
    → v.terminal.phase < length first.session.phases
    → lines ≡ line_on first.port (phase_at first.session v.terminal.phase)
    → BeginsLine lines v putter line run
begins_line first phases mine lines v putter line run h has within is =
    line_of first phases mine lines v putter line run h has within is

pub begins_playing : (first : Scene) (phases : List BlockPhase) (scripts : Scene → List Script) (roles : List Role)
    (mine : ℕ → List Passing) (lines : List LineStep) (old mid : PortValue) (putter now : PutterState Flagged)
    (line played : LineState) (run later ticks : ℕ)
    → IsBeforeEach first old putter line run
    → HasPassed first phases mine old
    → AreBefore first.port phases old.terminal.phase mine
    → PlaysItsLine lines old mid putter now line played run later
    → old.terminal.phase < length first.session.phases
    → lines ≡ line_on first.port (phase_at first.session old.terminal.phase)
    → ticks ≡ ticks_on first.port (phase_at first.session old.terminal.phase)
    → IsPort mid
    → AreRolesOfEach first scripts roles old.terminal.phase mid
    → IsPlaying first phases scripts roles mid mine mid ticks
    (record { run = later; part = 0; ticks = ticks; going = None })
begins_playing first phases scripts roles mine lines old mid putter now line played run
    later ticks h has before plays within is ticks_is port are =
    playing_begins first phases scripts roles mine lines old mid putter now line played run later ticks h has before
    plays within is
    (line_each first scripts roles lines old mid putter now line played run later ticks h
    (line_of first phases mine lines old putter line run h has within is) plays within is ticks_is port are)
