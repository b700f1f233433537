-- What the player keeps between two entries after the line of a phase, and whose turn it is.
use Rattle.std.specs.Prelude.{◌≡◌, ◌⊎◌, ◌≤◌, ◌<◌, ◌+◌, ◌-◌, ◌==◌, ℕ, List, [], ◌∷◌, ◌++◌}
use Rattle.std.specs.Prelude.{Bool, true, false, not, IsTrue, MatchOption, Option, None}
use Rattle.std.specs.Prelude.{Some, if◌then◌else◌, length, map, slice_get, slice_index}
use Rattle.tty_calls.specs.declared.journals.Who.{Who}
use Rattle.tty_calls.specs.declared.journals.Who.TheVariants.{Caller, Flusher, Clock, Session}
use Rattle.tty_calls.specs.declared.sessions.Script.{Script}
use Rattle.tty_calls.specs.Plain.{PlainCall, PlainEntry}
use Rattle.tty_calls.specs.Sessions.{call_at, counts_on}
use Rattle.tty_terminal.specs.Terminals.{caller_at}
use Rattle.tty_terminal.specs.Steps.{Allowed, after, follows, nothing_to_flush}
use Rattle.tty_terminal.specs.Runs.{IsRun, RunHas}
use Rattle.tty_terminal.specs.Standing.{Standing, standing_of}
use Rattle.legal_runs.specs.Legal.{first_step, session_events, flip_on}
use Rattle.port_core.specs.Attempts.{PlainTried, done_by, took_part, must_wait}
use Rattle.port_core.specs.Ports.{PlainKept, PortValue, call_in}
use Rattle.legal_runs.specs.Order.{first_of, can_go_on, is_waiting, turn_by_rank, turn_after, is_after_flush, IsPieceOf}
use Rattle.play_base.specs.Roles.{Scene, calls_in, role_in, AreRolesOf}
use Rattle.play_base.specs.Scenes.{place_of, HasAnyOrder, HasOneOrder, IsOfSceneIn, RunsBelow}
use Rattle.play_base.specs.declared.roles.Role.{Role}
use Rattle.one_thread.specs.declared.after_line.Stand.{Stand}
use Rattle.one_thread.specs.declared.after_line.Turn.{Turn}
use Rattle.one_thread.specs.declared.after_line.Turn.TheVariants as turn

-- ---- whose turn it is

abbrev pub role_numbers : List Role → List ℕ
role_numbers roles = map (λ r. r.number) roles

-- the caller at this place, or else another's turn
abbrev pub turn_with : List ℕ → Option ℕ → Who → Who
turn_with numbers None other = other
turn_with numbers (Some i) other = Caller (slice_index numbers i)

abbrev pub who_of : List ℕ → Turn → Who
who_of numbers turn.Flush = Flusher
who_of numbers (turn.Call i) = Caller (slice_index numbers i)
who_of numbers turn.Pass = Clock
who_of numbers turn.End = Session

abbrev pub IsPlaceIn : Option ℕ → ℕ → Type 0
IsPlaceIn None n = Unit {0}
IsPlaceIn (Some i) n = i < n

-- the place of the first caller that is such a one
pub record IsFirst (is_such : ℕ → Bool) (numbers : List ℕ) (place : Option ℕ) : Type 0 where
  pub first : (other : Who) → first_of is_such numbers other ≡ turn_with numbers place other
  pub within : IsPlaceIn place (length numbers)

abbrev pub IsTurnWithin : Turn → ℕ → Type 0
IsTurnWithin turn.Flush n = Unit {0}
IsTurnWithin (turn.Call i) n = i < n
IsTurnWithin turn.Pass n = Unit {0}
IsTurnWithin turn.End n = Unit {0}

-- a turn by the calls that the port keeps, where the call of the caller at a place may go on
pub record IsTurn (clock_first : Bool) (v : PortValue) (numbers : List ℕ) (going : Option ℕ)
    (next : Turn) : Type 0 where
  pub who : who_of numbers next ≡ turn_with numbers going (turn_by_rank clock_first (call_in v.kept) numbers v.terminal)
  pub within : IsTurnWithin next (length numbers)

-- ---- whose turn can be taken, in whatever order

-- none of these is such a one
abbrev pub NoneIs : (ℕ → Bool) → List ℕ → Type 0
NoneIs is_such numbers = (i : ℕ) → i < length numbers → is_such (slice_index numbers i) ≡ false

-- nothing can be flushed, the clock is over, and no caller can go on
pub record NothingGoesOn (v : PortValue) (numbers : List ℕ) : Type 0 where
  pub idle : nothing_to_flush v.terminal ≡ true
  pub clock : v.terminal.clock_over ≡ true
  pub none : NoneIs (can_go_on (call_in v.kept) v.terminal) numbers

-- Where no write goes on: a flush, where there is something to flush; a call of a caller that can go on, or that waits
-- in vain; a tick or the end of the clock, until that is over; and the end of the phase, where nothing is left.
abbrev pub IsFree : PortValue → List ℕ → Turn → Type 0
IsFree v numbers turn.Flush = nothing_to_flush v.terminal ≡ false
IsFree v numbers (turn.Call i) =
    (can_go_on (call_in v.kept) v.terminal (slice_index numbers i) ≡ true)
    ⊎ (NothingGoesOn v numbers × (is_waiting v.terminal (slice_index numbers i) ≡ true))
IsFree v numbers turn.Pass = v.terminal.clock_over ≡ false
IsFree v numbers turn.End = NothingGoesOn v numbers × NoneIs (is_waiting v.terminal) numbers

-- a turn that can be taken: that of the caller whose write goes on, or where none does, one that is free
pub record IsPossible (v : PortValue) (numbers : List ℕ) (going : Option ℕ) (next : Turn) : Type 0 where
  pub whose : MatchOption going (IsFree v numbers next) (λ i. who_of numbers next ≡ Caller (slice_index numbers i))
  pub within : IsTurnWithin next (length numbers)

-- ---- where callers stand

abbrev pub standing_at : PortValue → ℕ → Standing
standing_at v c = standing_of (caller_at v.terminal c)

-- between two calls
pub record IsAtRest (q : Standing) : Type 0 where
  pub waits : q.waits ≡ false
  pub parts : q.parts ≡ 0
  pub taken : q.taken ≡ 0
  pub generation : q.generation ≡ 0

-- a caller that makes so many calls from its first step of the phase on
pub record IsInRole (first count : ℕ) (q : Standing) : Type 0 where
  pub low : first ≤ q.next
  pub high : q.next ≤ first + count
  pub calling : q.begun ≡ true → q.next < first + count
  pub over : q.over ≡ true → q.next ≡ first + count
  pub over_rest : q.over ≡ true → q.begun ≡ false
  pub rest : q.begun ≡ false → IsAtRest q

-- the call is kept
pub record IsKeptCall (kept : List PlainKept) (c step : ℕ) : Type 0 where
  pub call : PlainCall
  pub found : call_in kept c step ≡ Some call

-- parts of the caller's write were taken in the generation of now, and it does not wait
pub record IsInParts (v : PortValue) (c : ℕ) : Type 0 where
  pub waits : (standing_at v c).waits ≡ false
  pub parts : 0 < (standing_at v c).parts
  pub generation : (standing_at v c).generation ≡ v.terminal.generation

-- this caller is the one whose write goes on
pub record IsGoing (numbers : List ℕ) (going : Option ℕ) (c : ℕ) : Type 0 where
  pub place : ℕ
  pub at_place : going ≡ Some place
  pub is : slice_index numbers place ≡ c

abbrev pub IsAbsent : List Role → ℕ → Type 0
IsAbsent roles c = (i : ℕ) (r : Role) → slice_get roles i ≡ Some r → r.number ≡ c → ⊥

abbrev pub standing_at_rest : ℕ → Standing
standing_at_rest next =
    record { next = next; over = false; waits = false; parts = 0; taken = 0; generation = 0; begun = false }

pub record HasCallers (s : Scene) (scripts : List Script) (roles : List Role) (v : PortValue)
    (going : Option ℕ) : Type 0 where
  pub are_roles : AreRolesOf s v.terminal.phase (map (role_in scripts) roles)
  pub in_roles : (i : ℕ) (r : Role)
      → slice_get roles i ≡ Some r
      → IsInRole r.first (length (calls_in (slice_get scripts r.place))) (standing_at v r.number)
  pub kept : (c : ℕ) → (standing_at v c).begun ≡ true → IsKeptCall v.kept c (standing_at v c).next
  pub others : (c : ℕ)
      → IsAbsent roles c
      → standing_at v c ≡ standing_at_rest (first_step s.port s.session v.terminal.phase c)
  pub goes_on : (i : ℕ) → going ≡ Some i → (i < length roles) × IsInParts v (slice_index (role_numbers roles) i)
  pub parts : (c : ℕ)
      → (standing_at v c).waits ≡ false
      → 0 < (standing_at v c).parts
      → IsGoing (role_numbers roles) going c

-- ---- flush runs

abbrev pub next_run : ℕ → ℕ → ℕ
next_run run part = if part == 0 then run else run + 1

-- the next piece is of this run and part
pub record HasRuns (v : PortValue) (before : Option PlainEntry) (run part : ℕ) : Type 0 where
  pub follows : IsTrue (follows v.terminal.flushed run part)
  pub one : 0 < part → RunHas run v.terminal.generation v.journal
  pub below : RunsBelow (next_run run part) v.journal
  pub few : run + part ≤ length v.journal
  pub after_flush : is_after_flush before ≡ not (part == 0)

-- ---- the player

-- since the line's end, in an order
pub record PlaysIn (HasOrder : Scene → List PlainEntry → Type 0) (s : Scene) (scripts : List Script) (roles : List Role)
    (v : PortValue) (stand : Stand) : Type 0 where
  pub of_scene : IsOfSceneIn HasOrder s v
  pub run : IsRun (call_at s.port s.session) (counts_on s.port s.session) (flip_on s.port s.session)
      v.journal v.terminal
  pub within : v.terminal.phase < length s.session.phases
  pub line : v.terminal.line_over ≡ true
  pub clock : v.terminal.clock_over ≡ true → stand.ticks ≡ 0
  pub runs : HasRuns v (place_of s v.journal).before stand.run stand.part
  pub callers : HasCallers s scripts roles v stand.going
  pub settled : (other : Who)
      → turn_after (place_of s v.journal).before other ≡ turn_with (role_numbers roles) stand.going other

abbrev pub Plays : Scene → List Script → List Role → PortValue → Stand → Type 0
Plays s scripts roles v stand = PlaysIn HasOneOrder s scripts roles v stand

-- one entry more, of the session's calls; a flush takes as much as it can
pub record Adds (s : Scene) (old new : PortValue) : Type 0 where
  pub entry : PlainEntry
  pub added : new.journal ≡ old.journal ++ entry ∷ []
  pub allowed : Allowed (call_at s.port s.session) (counts_on s.port s.session) old.terminal entry
  pub leads : new.terminal ≡ after (call_at s.port s.session) old.terminal entry
  pub inside : session_events entry.event ≡ []
  pub piece : IsPieceOf s.port s.session (place_of s old.journal) entry.part entry.event
  pub phase : new.terminal.phase ≡ old.terminal.phase
  pub sent : new.terminal.sent ≡ old.terminal.sent
  pub ring : new.flip.ring ≡ old.flip.ring

-- What a turn came to: an entry more, and each tick is one that was left.
pub record PlaysOnIn (HasOrder : Scene → List PlainEntry → Type 0) (s : Scene) (scripts : List Script)
    (roles : List Role) (old new : PortValue) (before now : Stand) : Type 0 where
  pub plays : PlaysIn HasOrder s scripts roles new now
  pub adds : Adds s old new
  pub ticks : new.terminal.tick + now.ticks ≡ old.terminal.tick + before.ticks

abbrev pub PlaysOn : Scene → List Script → List Role → (old new : PortValue) → (before now : Stand) → Type 0
PlaysOn s scripts roles old new before now = PlaysOnIn HasOneOrder s scripts roles old new before now

-- .. in whatever order, by whose turn it was
pub record TakesTurn (s : Scene) (scripts : List Script) (roles : List Role) (old new : PortValue) (before now : Stand)
    (next : Turn) : Type 0 where
  pub on : PlaysOnIn HasAnyOrder s scripts roles old new before now
  pub who : on.adds.entry.who ≡ who_of (role_numbers roles) next

-- the call of the next step of the caller at a place
pub record IsNextCall (scripts : List Script) (roles : List Role) (v : PortValue) (place : ℕ)
    (call : PlainCall) : Type 0 where
  pub role : Role
  pub at_place : slice_get roles place ≡ Some role
  pub next : slice_get (calls_in (slice_get scripts role.place))
      ((standing_at v role.number).next - role.first) ≡ Some call

-- the place of the caller whose write goes on after an attempt
abbrev pub going_after : ℕ → PlainTried → Option ℕ
going_after place (done_by answer) = None
going_after place took_part = Some place
going_after place must_wait = None
