-- What each act of the player needs, and what it comes to, whatever scene is played: so it serves also where the
-- session is known only at its end.
use Rattle.std.specs.Prelude.{◌≡◌, ◌<◌, ◌≤◌, ◌+◌, ◌-◌, ℕ, List, [], ◌∷◌, ◌++◌}
use Rattle.std.specs.Prelude.{IsTrue, All, None, Some, length, slice_get}
use Rattle.tty_base.specs.declared.lines.LineStep.{LineStep}
use Rattle.word_ring.specs.Ends.{PutterState}
use Rattle.tty_base.specs.declared.characters.Flagged.{Flagged}
use Rattle.uart_line.specs.LineState.{LineState}
use Rattle.tty_calls.specs.declared.answers.Denied.{Denied}
use Rattle.tty_calls.specs.declared.journals.Who.TheVariants.{Caller}
use Rattle.tty_calls.specs.declared.sessions.Script.{Script}
use Rattle.tty_calls.specs.Plain.{PlainCall, PlainEntry}
use Rattle.tty_calls.specs.Sessions.{line_on, ticks_on, call_at, counts_on}
use Rattle.tty_terminal.specs.Terminals.{caller_at}
use Rattle.tty_terminal.specs.Runs.{Leads, KnowsMore, is_flush, is_of_call}
use Rattle.legal_runs.specs.Legal.{phase_at, session_events_in}
use Rattle.port_core.specs.Attempts.{PlainTried, Attempts}
use Rattle.port_core.specs.Ports.{PortValue, call_in, Appends, end_entry}
use Rattle.legal_runs.specs.Order.{is_of_consoles}
use Rattle.play_base.specs.Roles.{Scene, calls_in}
use Rattle.play_base.specs.Scenes.{HasAnyOrder, HasOneOrder}
use Rattle.one_thread.specs.Stages.{EndsAfterLineIn, EndsAfterLine}
use Rattle.play_base.specs.Beginning.{IsAtPhaseIn}
use Rattle.one_thread.specs.Lines.{PlaysLineIn, PlaysLine, StopsLineIn, StopsLine}
use Rattle.one_thread.specs.Turns.{role_numbers, standing_at, IsTurn, IsPossible}
use Rattle.one_thread.specs.Turns.{IsNextCall, PlaysIn, Plays, PlaysOn, TakesTurn}
use Rattle.play_base.specs.declared.roles.Role.{Role}
use Rattle.one_thread.specs.declared.after_line.Stand.{Stand}
use Rattle.one_thread.specs.declared.after_line.Turn.{Turn}
use Rattle.one_thread.specs.declared.after_line.Turn.TheVariants as turn

-- ---- the line of a phase

-- a scene in whose phase this line begins, in an order
pub record BeginsLineIn (HasOrder : Scene → List PlainEntry → Type 0) (steps : List LineStep) (v : PortValue)
    (putter : PutterState Flagged) (line : LineState) (run : ℕ) : Type 0 where
  pub scene : Scene
  pub begins : IsAtPhaseIn HasOrder scene v.terminal.phase v putter line run
  pub within : v.terminal.phase < length scene.session.phases
  pub steps_are : steps ≡ line_on scene.port (phase_at scene.session v.terminal.phase)

-- .. in whatever order; and in the order of one thread
abbrev pub BeginsLine : List LineStep → PortValue → PutterState Flagged → LineState → (run : ℕ) → Type 0
BeginsLine steps v putter line run = BeginsLineIn HasAnyOrder steps v putter line run

abbrev pub BeginsInOrder : List LineStep → PortValue → PutterState Flagged → LineState → (run : ℕ) → Type 0
BeginsInOrder steps v putter line run = BeginsLineIn HasOneOrder steps v putter line run

-- the line is played in whatever order the phases before were, and in the order of one thread where they were
pub record PlaysItsLine (steps : List LineStep) (old new : PortValue) (putter now : PutterState Flagged)
    (line played : LineState) (run next : ℕ) : Type 0 where
  pub each : (h : BeginsLine steps old putter line run)
      → PlaysLineIn HasAnyOrder h.scene old.terminal.phase old new now line played next
  pub in_order : (h : BeginsInOrder steps old putter line run)
      → PlaysLine h.scene old.terminal.phase old new now line played next

pub record StopsItsLine (d : Denied) (steps : List LineStep) (old new : PortValue) (putter now : PutterState Flagged)
    (line played : LineState) (run : ℕ) : Type 0 where
  pub each : (h : BeginsLine steps old putter line run)
      → StopsLineIn HasAnyOrder d h.scene old.terminal.phase old new now played
  pub in_order : (h : BeginsInOrder steps old putter line run)
      → StopsLine d h.scene old.terminal.phase old new now played

-- by steps of it: one flush more at most, and no call
pub record FlushesOnce (old new : PortValue) : Type 0 where
  pub part : List PlainEntry
  pub added : new.journal ≡ old.journal ++ part
  pub few : length part ≤ 1
  pub flushes : All (λ e. IsTrue (is_flush e.event)) part
  -- where nothing was flushed, the terminal is as before
  pub stays : part ≡ [] → new.terminal ≡ old.terminal
  pub kept : new.kept ≡ old.kept
  pub counts : new.counts ≡ old.counts
  pub capacity : new.flip.capacity ≡ old.flip.capacity

-- ---- a turn after it

-- one entry more, and no call
pub record AddsEntry (old new : PortValue) : Type 0 where
  pub entry : PlainEntry
  pub added : new.journal ≡ old.journal ++ entry ∷ []
  pub kept : new.kept ≡ old.kept

-- a scene that is played in whatever order, with the scripts of the phase, in which this turn can be taken
pub record InTurn (roles : List Role) (v : PortValue) (stand : Stand) (next : Turn) : Type 0 where
  pub scene : Scene
  pub scripts : List Script
  pub plays : PlaysIn HasAnyOrder scene scripts roles v stand
  pub possible : IsPossible v (role_numbers roles) stand.going next

-- a scene that is played in the order of one thread, with the scripts of the phase, in which it is this turn
pub record InOrder (roles : List Role) (v : PortValue) (stand : Stand) (next : Turn) : Type 0 where
  pub scene : Scene
  pub scripts : List Script
  pub plays : Plays scene scripts roles v stand
  pub is_turn : IsTurn (is_of_consoles scene.session) v (role_numbers roles) stand.going next

-- the turn is taken; and the order of one thread is kept where it is this turn
pub record PlaysTurn (roles : List Role) (old new : PortValue) (before now : Stand) (next : Turn) : Type 0 where
  pub each : (h : InTurn roles old before next) → TakesTurn h.scene h.scripts roles old new before now next
  pub in_order : (h : InOrder roles old before next) → PlaysOn h.scene h.scripts roles old new before now

-- .. where this is the next call of the caller at a place, whose turn can be taken
pub record InCall (roles : List Role) (v : PortValue) (stand : Stand) (place : ℕ) (call : PlainCall) : Type 0 where
  pub in_turn : InTurn roles v stand (turn.Call place)
  pub next : IsNextCall in_turn.scripts roles v place call

-- a call of a caller's next step makes an entry of it, and is kept
pub record MakesCall (old new : PortValue) (c : ℕ) (call : PlainCall) : Type 0 where
  pub entry : PlainEntry
  pub added : new.journal ≡ old.journal ++ entry ∷ []
  pub who : entry.who ≡ Caller c
  pub step : entry.step ≡ (caller_at old.terminal c).next
  pub of_call : IsTrue (is_of_call entry.event)
  pub kept : call_in new.kept c (caller_at old.terminal c).next ≡ Some call
  pub grows : KnowsMore (call_in old.kept) (call_in new.kept)

-- what its attempt came to
pub record TriesCall (roles : List Role) (old new : PortValue) (place : ℕ) (call : PlainCall)
    (tried : PlainTried) : Type 0 where
  pub role : Role
  pub at_place : slice_get roles place ≡ Some role
  pub attempts : Attempts old new role.number (caller_at old.terminal role.number).next call tried
  pub makes : MakesCall old new role.number call

pub record PlaysCall (roles : List Role) (old new : PortValue) (before now : Stand) (place : ℕ)
    (call : PlainCall) : Type 0 where
  pub each : (h : InCall roles old before place call)
      → TakesTurn h.in_turn.scene h.in_turn.scripts roles old new before now (turn.Call place)
  pub in_order : (h : InOrder roles old before (turn.Call place))
      → IsNextCall h.scripts roles old place call
      → PlaysOn h.scene h.scripts roles old new before now

-- .. where the caller at a place, whose turn can be taken, has no call left
pub record HasNoCall (scripts : List Script) (roles : List Role) (v : PortValue) (place : ℕ) : Type 0 where
  pub role : Role
  pub at_place : slice_get roles place ≡ Some role
  pub none : slice_get (calls_in (slice_get scripts role.place)) ((standing_at v role.number).next - role.first) ≡ None

-- its calls of the phase are over
pub record EndsCalls (roles : List Role) (old new : PortValue) (place : ℕ) : Type 0 where
  pub role : Role
  pub at_place : slice_get roles place ≡ Some role
  pub appends : Appends old new old.flip (end_entry old role.number)

pub record InLast (roles : List Role) (v : PortValue) (stand : Stand) (place : ℕ) : Type 0 where
  pub in_turn : InTurn roles v stand (turn.Call place)
  pub none : HasNoCall in_turn.scripts roles v place

pub record PlaysLast (roles : List Role) (old new : PortValue) (before now : Stand) (place : ℕ) : Type 0 where
  pub each : (h : InLast roles old before place)
      → TakesTurn h.in_turn.scene h.in_turn.scripts roles old new before now (turn.Call place)
  pub in_order : (h : InOrder roles old before (turn.Call place))
      → HasNoCall h.scripts roles old place
      → PlaysOn h.scene h.scripts roles old new before now

-- ---- the end of the phase

-- the player, since the line's end, in an order
pub record PlayingIn (HasOrder : Scene → List PlainEntry → Type 0) (s : Scene) (scripts : List Script)
    (roles : List Role) (start v : PortValue) (ticks : ℕ) (stand : Stand) : Type 0 where
  pub plays : PlaysIn HasOrder s scripts roles v stand
  pub part : List PlainEntry
  pub added : v.journal ≡ start.journal ++ part
  pub leads : Leads (call_at s.port s.session) (counts_on s.port s.session) start.terminal part v.terminal
  pub inside : session_events_in part ≡ []
  pub phase : v.terminal.phase ≡ start.terminal.phase
  pub sent : v.terminal.sent ≡ start.terminal.sent
  pub tick : v.terminal.tick + stand.ticks ≡ start.terminal.tick + ticks
  pub ring : v.flip.ring ≡ start.flip.ring

abbrev pub Playing : Scene → List Script → List Role → (start v : PortValue) → (ticks : ℕ) → Stand → Type 0
Playing s scripts roles start v ticks stand = PlayingIn HasOneOrder s scripts roles start v ticks stand

-- a scene that was played since the line's end in whatever order, and has nothing left
pub record InEnd (roles : List Role) (start v : PortValue) (stand : Stand) : Type 0 where
  pub scene : Scene
  pub scripts : List Script
  pub ticks : ℕ
  pub playing : PlayingIn HasAnyOrder scene scripts roles start v ticks stand
  pub possible : IsPossible v (role_numbers roles) stand.going turn.End
  pub ticks_are : ticks ≡ ticks_on scene.port (phase_at scene.session start.terminal.phase)

-- .. in the order of one thread, in which it is over
pub record InOrderedEnd (roles : List Role) (start v : PortValue) (stand : Stand) : Type 0 where
  pub scene : Scene
  pub scripts : List Script
  pub ticks : ℕ
  pub playing : Playing scene scripts roles start v ticks stand
  pub is_turn : IsTurn (is_of_consoles scene.session) v (role_numbers roles) stand.going turn.End
  pub ticks_are : ticks ≡ ticks_on scene.port (phase_at scene.session start.terminal.phase)

pub record PlaysEnd (roles : List Role) (old new : PortValue) (putter now : PutterState Flagged) (stand : Stand)
    (run : ℕ) : Type 0 where
  pub each : (start : PortValue) (h : InEnd roles start old stand)
      → EndsAfterLineIn HasAnyOrder h.scene start new putter now run
  pub in_order : (start : PortValue) (h : InOrderedEnd roles start old stand)
      → EndsAfterLine h.scene start new putter now run
