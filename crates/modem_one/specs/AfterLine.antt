-- What comes after the line of a phase of a port with modem lines: what it needs, and what it comes to.
use Rattle.std.specs.Prelude.{◌≡◌, ◌≤◌, ◌<◌, ◌+◌, ◌-◌, ◌^◌, ℕ, Bool, true, false, List, [], ◌∷◌, ◌++◌, Some, length}
use Rattle.std.specs.Prelude.{slice_get, slice_index, if◌then◌else◌, slice_set, All, None, is_some, IsTrue, sum}
use Rattle.handle_table.specs.Handles.{is_live}
use Rattle.tty_base.specs.declared.characters.Flagged.{Flagged}
use Rattle.word_ring.specs.Ends.{PutterState}
use Rattle.tty_calls.specs.declared.answers.Denied.{Denied}
use Rattle.tty_calls.specs.declared.answers.Denied.TheVariants.{NoMemory, Full}
use Rattle.tty_calls.specs.Plain.{hangs_up}
use Rattle.tty_terminal.specs.Terminals.{caller_at, handle_at}
use Rattle.port_core.specs.Ports.{PortValue, IsPort}
use Rattle.one_thread.specs.Acts.{AddsEntry, PlaysEnd}
use Rattle.play_base.specs.Scenes.{HasAnyOrder}
use Rattle.one_thread.specs.Turns.{role_numbers, IsPossible}
use Rattle.one_thread.specs.declared.after_line.Turn.TheVariants as turn
use Rattle.play_base.specs.declared.roles.Role.{Role}
use Rattle.one_thread.specs.declared.after_line.Stand.{Stand}
use Rattle.passed_calls.specs.Blocks.{names_on}
use Rattle.passed_calls.specs.Within.{AreBlocksWithin}
use Rattle.order_laws.specs.Passed.{begin_of, IsOfBlocks}
use Rattle.order_laws.specs.Begun.{WereOver}
use Rattle.order_laws.specs.Left.{HasGone}
use Rattle.calls_left.specs.Remaining.{left_at}
use Rattle.order_laws.specs.Witness.{IsCallingIn}
use Rattle.modem_text.specs.Sessions.{ModemCall, PinStep, blocks_in}
use Rattle.modem_text.specs.Within.{IsModemSessionWithin}
use Rattle.modem_steps.specs.Derived.{block_phases, carrier_on, call_in_phase}
use Rattle.modem_steps.specs.Steps.{callers_in, next_call, items_from}
use Rattle.modem_steps.specs.Order.{has_item}
use Rattle.modem_one.specs.declared.turns.Next.{Next}
use Rattle.modem_one.specs.declared.turns.Next.TheVariants as next
use Rattle.modem_one.specs.declared.acts.Taken.{Taken}
use Rattle.modem_one.specs.Desk.{DeskState, step_of, state_at}
use Rattle.modem_one.specs.Playing.{Frame, hangup_with, call_after, IsPlayingModems}
use Rattle.modem_one.specs.Turns.{port_now, IsNextTurn}
use Rattle.modem_one.specs.Left.{AreCallsLeft, AreItemsLeft}

-- the session keeps the limits, and what is played is of its blocks, on one of its ports
pub record IsFrameWithin (f : Frame) : Type 0 where
  pub within : IsModemSessionWithin f.session
  pub of_blocks : IsOfBlocks f.first.port (block_phases f.session) f.first.session
  pub blocks : AreBlocksWithin f.first.session.ports f.first.session.flips (block_phases f.session)
  pub port : f.first.port < f.session.ports

-- the roles of a phase: its callers in the text's order, and `carrier` last
abbrev pub AreRolesIn : Frame → (k : ℕ) → List Role → PortValue → Type 0
AreRolesIn f k roles v =
    role_numbers roles
    ≡ callers_in (port_now f.first.port f.session v) k ++ carrier_on f.first.port f.session ∷ []

-- between two turns: nothing is due
pub record IsAtTurn (f : Frame) (roles : List Role) (v : PortValue) (d : DeskState) (stand : Stand) : Type 0 where
  pub playing : IsPlayingModems f roles v d stand []
  pub roles_are : AreRolesIn f f.start.terminal.phase roles v
  pub next_of_all : length d.next ≡ length (names_on f.first.port (blocks_in f.session))

abbrev pub IsTurnOf : Frame → List Role → PortValue → DeskState → Stand → Next → Type 0
IsTurnOf f roles v d stand next = IsNextTurn f.first.port f.session v d roles stand.going next

-- .. with what is left of the phase
pub record IsBetween (f : Frame) (roles : List Role) (v : PortValue) (d : DeskState) (stand : Stand)
    (left : List (List ModemCall)) (items : List PinStep) : Type 0 where
  pub at : IsAtTurn f roles v d stand
  pub frame : IsFrameWithin f
  pub calls : AreCallsLeft f.first.port f.start.terminal.phase f.session roles d.next left
  pub items_are : AreItemsLeft f.first.port f.start.terminal.phase f.session d.items items
  -- whose calls are over has none left, and no item is left where `carrier` is over
  pub over : (i : ℕ) (r : Role)
      → slice_get roles i ≡ Some r
      → (caller_at v.terminal r.number).over ≡ true
      → left_at left i ≡ []
  pub carrier_over : (caller_at v.terminal (carrier_on f.first.port f.session)).over ≡ true → items ≡ []

-- what is known where it is asked whose turn it is: the callers of the roles, and their next calls
pub record AreAsked (f : Frame) (roles : List Role) (v : PortValue) (d : DeskState)
    (left : List (List ModemCall)) : Type 0 where
  pub many : length left + 1 ≡ length roles
  pub known : All (λ r. r.number < sum v.counts) roles
  pub callers : role_numbers roles
      ≡ callers_in (port_now f.first.port f.session v) v.terminal.phase ++ carrier_on f.first.port f.session ∷ []
  pub next_calls : (i : ℕ)
      → i < length left
      → next_call (port_now f.first.port f.session v) (state_at d 0 []) v.terminal (slice_index (role_numbers roles) i)
      ≡ slice_get (left_at left i) 0

-- .. and whether an item is left
abbrev pub AreItems : Frame → PortValue → DeskState → List PinStep → Type 0
AreItems f v d items =
    has_item (port_now f.first.port f.session v) (state_at d 0 []) v.terminal ≡ is_some (slice_get items 0)

-- behind the line
pub record BeginsTurns (f : Frame) (roles : List Role) (v : PortValue) (d : DeskState) (stand : Stand)
    (left : List (List ModemCall)) (items : List PinStep) : Type 0 where
  pub at : IsAtTurn f roles v d stand
  pub frame : IsFrameWithin f
  pub none_over : (c : ℕ) → (caller_at v.terminal c).over ≡ false
  pub calls : AreCallsLeft f.first.port f.start.terminal.phase f.session roles d.next left
  pub items_are : AreItemsLeft f.first.port f.start.terminal.phase f.session d.items items

-- up to the end of the phase: the last entry ends it, and each caller is at its first step of the next phase
pub record EndsTurns (f : Frame) (roles : List Role) (new : PortValue) (putter now : PutterState Flagged)
    (d : DeskState) (run : ℕ) : Type 0 where
  pub last : PortValue
  pub stand : Stand
  pub at : IsAtTurn f roles last d stand
  pub is_end : IsTurnOf f roles last d stand next.End
  pub ends : PlaysEnd roles last new putter now stand run
  pub adds : AddsEntry last new
  pub was_port : IsPort last
  pub is_port : IsPort new
  pub steps : (c : ℕ)
      → (c ≡ carrier_on f.first.port f.session → ⊥)
      → step_of d c ≡ begin_of f.first.port (block_phases f.session) (f.start.terminal.phase + 1) c
  pub items : d.items
      ≡ begin_of f.first.port (block_phases f.session) (f.start.terminal.phase + 1)
      (carrier_on f.first.port f.session)

-- as far as it went, where the journal is full; then the hangup of a lost carrier may still be due
pub record FillsTurns (f : Frame) (roles : List Role) (v : PortValue) (d : DeskState) : Type 0 where
  pub stand : Stand
  pub due : List ℕ
  pub playing : IsPlayingModems f roles v d stand due
  pub full : length v.journal ≡ v.limit

abbrev pub StopsTurns : Denied → Frame → List Role → PortValue → DeskState → Type 0
StopsTurns NoMemory f roles v d = Unit {0}
StopsTurns Full f roles v d = FillsTurns f roles v d

-- ---- what a turn needs and leaves

-- the next call of the caller at a place, in its phase
pub record IsNextOf (f : Frame) (roles : List Role) (d : DeskState) (place : ℕ) (call : ModemCall) : Type 0 where
  pub role : Role
  pub at_place : slice_get roles place ≡ Some role
  pub known : role.number < length d.next
  pub few : step_of d role.number < 2 ^ 32 - 1
  pub has : call_after f.session f.first.port d role.number ≡ Some call
  pub in_phase : call_in_phase f.first.port f.session f.start.terminal.phase role.number (step_of d role.number)
      ≡ Some call
  pub is_caller : role.number ≡ carrier_on f.first.port f.session → ⊥
  pub from : begin_of f.first.port (block_phases f.session) f.start.terminal.phase role.number
      ≤ step_of d role.number
  pub to : step_of d role.number
      < begin_of f.first.port (block_phases f.session) (f.start.terminal.phase + 1) role.number

-- where the call of a caller was answered its next step rises, and nothing else of the steps changes
pub record Advances (answered : Bool) (c : ℕ) (d x : DeskState) : Type 0 where
  pub next : x.next ≡ (if answered then slice_set d.next c (step_of d c + 1) else d.next)
  pub items : x.items ≡ d.items

-- what a turn of the caller at a place comes to
pub record TakesCall (f : Frame) (roles : List Role) (place : ℕ) (old new : PortValue) (d x : DeskState)
    (taken : Taken) : Type 0 where
  pub at : IsAtTurn f roles new x taken.stand
  pub desk : (r : Role) → slice_get roles place ≡ Some r → Advances taken.answered r.number d x
  pub over : (c : ℕ) → WereOver old new c
  pub gone : HasGone taken.answered old new

-- what a flush and a turn of the clock come to
pub record TakesNoCall (f : Frame) (roles : List Role) (old new : PortValue) (d : DeskState) (now : Stand) : Type 0
  where
    pub at : IsAtTurn f roles new d now
    pub over : (c : ℕ) → WereOver old new c
    pub gone : HasGone false old new

-- the next item of the modem block of the phase, which is not over
pub record IsItemOf (f : Frame) (v : PortValue) (d : DeskState) (step : PinStep) : Type 0 where
  pub runs : (caller_at v.terminal (carrier_on f.first.port f.session)).over ≡ false
  pub few : d.items < 2 ^ 32 - 1
  pub from : begin_of f.first.port (block_phases f.session) f.start.terminal.phase (carrier_on f.first.port f.session)
      ≤ d.items
  pub to : d.items
      < begin_of f.first.port (block_phases f.session) (f.start.terminal.phase + 1)
      (carrier_on f.first.port f.session)
  pub has : slice_get (items_from f.first.port 0 f.session.phases) d.items
      ≡ Some (record { phase = f.start.terminal.phase; step = step })

-- what an item of the modem block comes to, with the hangup of a carrier that it may lose
pub record TakesItem (f : Frame) (roles : List Role) (old new : PortValue) (d x : DeskState) (now : Stand) : Type 0
  where
    pub at : IsAtTurn f roles new x now
    pub next : x.next ≡ d.next
    pub items : x.items ≡ d.items + 1
    pub over : (c : ℕ) → WereOver old new c
    pub gone : length old.journal ≤ length new.journal

-- the hangup that is due, of `carrier`, who has the last role
pub record IsHangingUp (f : Frame) (roles : List Role) (v : PortValue) (d : DeskState) (stand : Stand)
    (h : ℕ) : Type 0 where
  pub playing : IsPlayingModems f roles v d stand (h ∷ [])
  pub roles_are : AreRolesIn f f.start.terminal.phase roles v
  pub next_of_all : length d.next ≡ length (names_on f.first.port (blocks_in f.session))
  pub none_goes_on : stand.going ≡ None
  pub possible : IsPossible v (role_numbers roles) stand.going (turn.Call (length roles - 1))
  pub role : Role
  pub at_place : slice_get roles (length roles - 1) ≡ Some role
  pub is_carrier : role.number ≡ carrier_on f.first.port f.session
  pub live : IsTrue (is_live (handle_at v.terminal h))
  pub some : 0 < d.items
  pub calling : IsCallingIn HasAnyOrder f.first (block_phases f.session) f.scripts roles f.start
      (hangup_with f.session f.first.port d v h) v f.ticks stand (length roles - 1) (hangs_up h)

-- what it comes to
pub record TakesHangup (f : Frame) (roles : List Role) (old new : PortValue) (d x : DeskState)
    (now : Stand) : Type 0 where
  pub at : IsAtTurn f roles new x now
  pub next : x.next ≡ d.next
  pub items : x.items ≡ d.items
  pub over : (c : ℕ) → WereOver old new c
  pub gone : length old.journal ≤ length new.journal
