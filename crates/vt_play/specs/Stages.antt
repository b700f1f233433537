-- What the threads of a phase need, and what comes of them: the consoles' own, the operators' and the keyboard's.
use Rattle.std.specs.Prelude.{◌≡◌, ℕ, ◌+◌, ◌<◌, ◌≤◌, ◌^◌, ◌==◌, List, [], ◌∷◌, ◌++◌, Option, None, Some}
use Rattle.std.specs.Prelude.{Result, Ok, Err, IfErr, OnErr, OnOk, flat_map, if◌then◌else◌, length, slice_get}
use Rattle.tty_base.specs.Sizes.{MOST_SEATS}
use Rattle.tty_calls.specs.declared.answers.Denied.{Denied}
use Rattle.tty_calls.specs.declared.sessions.Script.{Script}
use Rattle.tty_port.specs.Shared as ports
use Rattle.tty_port.specs.declared.shared.SharedPort.{SharedPort}
use Rattle.play_base.specs.declared.roles.Role.{Role}
use Rattle.many_threads.specs.declared.caller_threads.CallersBack.{CallersBack}
use Rattle.many_threads.specs.declared.thread_bodies.FlusherBack.{FlusherBack}
use Rattle.many_threads.specs.Callers.{CanPlayAll, plain_cast}
use Rattle.many_threads.specs.Needs.{CanPlayFlusher}
use Rattle.port_cell.specs.Knowledge.{list_seen, number_of}
use Rattle.vt_consoles.specs.declared.entries.VtEvent.{VtEvent}
use Rattle.vt_consoles.specs.declared.shared.SharedBoard.{SharedBoard}
use Rattle.vt_consoles.specs.Boards.{IsDenied}
use Rattle.vt_consoles.specs.Histories.{board_with, history_of}
use Rattle.vt_consoles.specs.Seats.{BoardSeat}
use Rattle.vt_consoles.specs.Shared.{IsHere, name_of_board, opening_board}
use Rattle.vt_text.specs.Sessions.{PlainVtPhase, vt_phase_of}
use Rattle.vt_account.specs.Account.{granted, calls_at}
use Rattle.vt_threads.specs.Closing.{MadeSince, OperatorPlayed}
use Rattle.vt_keyboard.specs.Consoles.{CanKeyAll, PlaysFirst, PlaysKeyboard}
use Rattle.vt_threads.specs.Parting.{OwnCame}
use Rattle.vt_threads.specs.declared.parting.OwnSeats.{OwnSeats}
use Rattle.vt_threads.specs.declared.parting.Casting.{Casting}
use Rattle.vt_play.specs.declared.stage.Stage.{Stage}
use Rattle.vt_play.specs.declared.board_threads.BoardBack.{BoardBack}
use Rattle.vt_play.specs.declared.board_threads.BoardHand.{BoardHand}
use Rattle.vt_play.specs.declared.board_threads.KeyBack.{KeyBack}
use Rattle.vt_play.specs.declared.board_threads.KeyHand.{KeyHand}
use Rattle.vt_play.specs.declared.board_threads.OperatorBack.{OperatorBack}
use Rattle.vt_play.specs.declared.console_threads.ThreadsBack.{ThreadsBack}

-- ---- how many entries a phase asks of a seat

abbrev pub asked_of : (names : List (List ℕ)) → (consoles : ℕ) → PlainVtPhase → (seat : ℕ) → ℕ
asked_of names consoles phase seat =
    length (flat_map (granted consoles) (calls_at names seat phase))
    + (if length names == seat then length phase.keys else 0)

-- ---- an operator

-- a seat with this number that has seen the entries with which the board was shared
pub record IsFresh (b : SharedBoard) (n : ℕ) (s : BoardSeat) : Type 0 where
  pub here : IsHere b n s
  pub seen : list_seen s ≡ history_of (opening_board b)

-- the seat was denied an entry, at a board that it saw
abbrev pub IsDeniedAt : SharedBoard → BoardSeat → Denied → Type 0
IsDeniedAt b s denied = IsDenied (board_with (name_of_board b) (list_seen s)) denied

-- .. and since the board was shared it made fewer entries than the phase asks of it
pub record IsStoppedAt (b : SharedBoard) (names : List (List ℕ)) (phase : PlainVtPhase) (s : BoardSeat)
    (denied : Denied) : Type 0 where
  pub is : IsDeniedAt b s denied
  pub events : List VtEvent
  pub made : MadeSince (history_of (opening_board b)) s events
  pub fewer : length events < asked_of names (opening_board b).consoles phase (number_of s)

-- since the board was shared the seat answered no more calls than an operator's in the phase
pub record OperatorBegan (b : SharedBoard) (names : List (List ℕ)) (phase : PlainVtPhase) (s : BoardSeat) : Type 0 where
  pub events : List VtEvent
  pub made : MadeSince (history_of (opening_board b)) s events
  pub few : length events ≤ length (flat_map (granted (opening_board b).consoles) (calls_at names (number_of s) phase))

pub record OperatorComes (b : SharedBoard) (names : List (List ℕ)) (phase : PlainVtPhase) (n : ℕ)
    (back : OperatorBack) : Type 0 where
  pub here : IsHere b n back.seat
  pub began : OperatorBegan b names phase back.seat
  pub ok : OnOk back.result
      (OperatorPlayed (opening_board b).consoles names phase (history_of (opening_board b)) back.seat)
  pub denied : IfErr back.result (IsStoppedAt b names phase back.seat)

-- ---- the keyboard

-- the lines of all consoles can take the phase's keys, and end
pub record CanKey (stage : Stage) (hand : KeyHand) : Type 0 where
  pub fresh : IsFresh stage.board.now (length stage.names.now) hand.seat
  pub few : length stage.names.now < MOST_SEATS
  pub indexes : stage.first + length (vt_phase_of stage.phase.now).keys < 2 ^ 32
  pub can : CanKeyAll (name_of_board stage.board.now).consoles (length (vt_phase_of stage.phase.now).keys)
      stage.ports.now hand.keyboard.seats.items hand.keyboard.keyed.lines.items hand.keyboard.keyed.ends.items

abbrev pub PlaysKeys : Stage → KeyHand → KeyHand → Type 0
PlaysKeys stage old new =
    PlaysKeyboard (length stage.names.now) stage.first (vt_phase_of stage.phase.now).keys
    old.seat new.seat stage.ports.now
    old.keyboard.seats.items new.keyboard.seats.items old.keyboard.keyed.lines.items new.keyboard.keyed.lines.items
    old.keyboard.keyed.ends.items new.keyboard.keyed.ends.items

abbrev pub PlaysFirstKeys : Stage → KeyHand → KeyHand → Type 0
PlaysFirstKeys stage old new =
    PlaysFirst (length stage.names.now) stage.first (vt_phase_of stage.phase.now).keys old.seat new.seat stage.ports.now
    old.keyboard.seats.items new.keyboard.seats.items old.keyboard.keyed.lines.items new.keyboard.keyed.lines.items
    old.keyboard.keyed.ends.items new.keyboard.keyed.ends.items

pub record KeyboardComes (stage : Stage) (old : KeyHand) (back : KeyBack) : Type 0 where
  pub here : IsHere stage.board.now (length stage.names.now) back.hand.seat
  pub ok : OnOk back.result (PlaysKeys stage old back.hand)
  pub err : OnErr back.result (PlaysFirstKeys stage old back.hand)
  pub denied : IfErr back.result (IsDeniedAt stage.board.now back.hand.seat)

-- ---- all that work at the board

-- each element of a list, by its place
abbrev pub Places : {X : Type 0} → (ℕ → X → Type 0) → List X → Type 0
Places {X} P xs = (i : ℕ) (x : X) → slice_get xs i ≡ Some x → P i x

pub record CanPlayBoard (stage : Stage) (hand : BoardHand) : Type 0 where
  pub count : length hand.seats.items ≤ length stage.names.now
  pub seats : Places (IsFresh stage.board.now) hand.seats.items
  pub keys : CanKey stage hand.keys

-- an operator's seat, whatever it was denied
pub record IsOperatorBack (stage : Stage) (n : ℕ) (s : BoardSeat) : Type 0 where
  pub here : IsHere stage.board.now n s
  pub began : OperatorBegan stage.board.now stage.names.now (vt_phase_of stage.phase.now) s

abbrev pub HasOperated : Stage → ℕ → BoardSeat → Type 0
HasOperated stage n s = OperatorPlayed (opening_board stage.board.now).consoles stage.names.now
    (vt_phase_of stage.phase.now) (history_of (opening_board stage.board.now)) s

-- one of these seats, an operator's or the keyboard's, was denied an entry
pub record SomeDenied (b : SharedBoard) (names : List (List ℕ)) (phase : PlainVtPhase) (seats : List BoardSeat)
    (denied : Denied) : Type 0 where
  pub place : ℕ
  pub seat : BoardSeat
  pub at : slice_get seats place ≡ Some seat
  pub known : number_of seat ≤ length names
  pub stopped : IsStoppedAt b names phase seat denied

pub record BoardComes (stage : Stage) (hand : BoardHand) (back : BoardBack) : Type 0 where
  pub count : length back.seats.items ≡ length hand.seats.items
  pub seats : Places (IsOperatorBack stage) back.seats.items
  pub operated : OnOk back.operated (Places (HasOperated stage) back.seats.items)
  pub denied : IfErr back.operated
      (SomeDenied stage.board.now stage.names.now (vt_phase_of stage.phase.now) back.seats.items)
  pub keys : KeyboardComes stage hand.keys back.keys

-- the first of two refusals, if there is one
abbrev pub first_denied : Result (Unit {0}) Denied → Result (Unit {0}) Denied → Result (Unit {0}) Denied
first_denied (Ok v) second = second
first_denied (Err denied) second = Err denied

pub record IsWithOperator (back : BoardBack) (one : OperatorBack) (now : BoardBack) : Type 0 where
  pub seats : now.seats.items ≡ back.seats.items ++ one.seat ∷ []
  pub operated : now.operated ≡ first_denied back.operated one.result
  pub keys : now.keys ≡ back.keys

-- ---- the consoles' own threads

-- the flusher and the callers can play from these seats
pub record CanPlayOwn (p : SharedPort) (own : OwnSeats) (scripts : List Script)
    (cast : List (Option Role)) : Type 0 where
  pub flusher : CanPlayFlusher p own.run own.flusher
  pub seats : ports.AreHere p (ports.opening_history p) 0 own.callers.items
  pub count : length own.callers.items ≡ length cast
  pub roles : CanPlayAll p 0 (plain_cast scripts cast)

abbrev pub CanOwn : Option SharedPort → Option OwnSeats → List Script → List (Option Role) → Type 0
CanOwn None own scripts cast = Unit {0}
CanOwn (Some p) None scripts cast = Unit {0}
CanOwn (Some p) (Some own) scripts cast = CanPlayOwn p own scripts cast

-- .. those of the console with this number
pub record CanOwnAt (stage : Stage) (p : ℕ) (own : Option OwnSeats) : Type 0 where
  pub port : p < length stage.ports.now
  pub casting : p < length stage.castings.now
  pub can : (port : Option SharedPort) (casting : Casting)
      → slice_get stage.ports.now p ≡ Some port
      → slice_get stage.castings.now p ≡ Some casting
      → CanOwn port own stage.scripts.now casting.cast.items

abbrev pub OwnCameAt : Stage → (p : ℕ) → Option OwnSeats → Option (FlusherBack × CallersBack) → Type 0
OwnCameAt stage p own back =
    (port : Option SharedPort) (casting : Casting)
    → slice_get stage.ports.now p ≡ Some port
    → slice_get stage.castings.now p ≡ Some casting
    → OwnCame port own (plain_cast stage.scripts.now casting.cast.items) back

-- ---- all threads

abbrev pub CanPlayOwns : Stage → List (Option OwnSeats) → Type 0
CanPlayOwns stage owns = Places (CanOwnAt stage) owns

pub record OwnsCame (stage : Stage) (owns : List (Option OwnSeats))
    (backs : List (Option (FlusherBack × CallersBack))) : Type 0 where
  pub count : length backs ≡ length owns
  pub each : (p : ℕ) (own : Option OwnSeats) (back : Option (FlusherBack × CallersBack))
      → slice_get owns p ≡ Some own
      → slice_get backs p ≡ Some back
      → OwnCameAt stage p own back

pub record ThreadsCome (stage : Stage) (dealt : List (Option OwnSeats)) (hand : BoardHand)
    (back : ThreadsBack) : Type 0 where
  pub owns : OwnsCame stage dealt back.owns.items
  pub board : BoardComes stage hand back.board
