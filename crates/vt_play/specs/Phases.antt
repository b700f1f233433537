-- A phase of all consoles and of their board, from its beginning to the beginning of the next.
use Rattle.std.specs.Prelude.{◌≡◌, ℕ, ◌+◌, ◌<◌, ◌≤◌, zero, suc, List, [], ◌∷◌, Option, Some}
use Rattle.std.specs.Prelude.{Ok, IfErr, OnOk, length, slice_get, take}
use Rattle.tty_base.specs.Sizes.{MOST_ENTRIES}
use Rattle.play_base.specs.Casting.{scripts_at}
use Rattle.tty_port.specs.declared.shared.SharedPort.{SharedPort}
use Rattle.many_threads.specs.Callers.{plain_cast}
use Rattle.port_cell.specs.Knowledge.{number_of}
use Rattle.port_cell.specs.Seats.{EachSeat, HasAll}
use Rattle.vt_consoles.specs.declared.entries.VtEvent.{VtEvent}
use Rattle.vt_consoles.specs.declared.shared.SharedBoard.{SharedBoard}
use Rattle.vt_consoles.specs.Boards.{BoardState, IsBoard}
use Rattle.vt_consoles.specs.Histories.{history_of, name_of}
use Rattle.vt_consoles.specs.Seats.{BoardSeat}
use Rattle.vt_consoles.specs.Shared.{AreHere, IsHere, name_of_board, opening_board, seats_of}
use Rattle.vt_text.specs.declared.sessions.VtSession.{VtSession}
use Rattle.vt_text.specs.Sessions.{PlainVtPhase, PlainVtSession, vt_phase_of, vt_session_of}
use Rattle.vt_account.specs.Keyed.{IsWithinKeys, all_keys, consoles_in, keys_to}
use Rattle.vt_account.specs.Seats.{operator_names}
use Rattle.vt_threads.specs.Closing.{MadeSince, SeatsPlayed}
use Rattle.vt_keyboard.specs.Consoles.{ConsoleComesIf}
use Rattle.vt_threads.specs.Parting.{OwnCame}
use Rattle.vt_keyboard.specs.Phases.{HasPartsUpTo, PhaseMade}
use Rattle.vt_threads.specs.declared.consoles.Console.{Console}
use Rattle.vt_threads.specs.declared.parting.Parted.{Parted}
use Rattle.vt_threads.specs.declared.parting.PartedBack.{PartedBack}
use Rattle.vt_threads.specs.declared.parting.Casting.{Casting}
use Rattle.vt_play.specs.declared.parts.AllBack.{AllBack}
use Rattle.vt_play.specs.declared.parts.AllParts.{AllParts}
use Rattle.vt_play.specs.declared.phases.PhaseBack.{PhaseBack}
use Rattle.vt_play.specs.declared.phases.VtInPlay.{VtInPlay}
use Rattle.vt_play.specs.declared.stage.PhaseOf.{PhaseOf}
use Rattle.vt_play.specs.declared.stage.Stage.{Stage}
use Rattle.vt_play.specs.Parts.{AreBackOf, AreConsolesBefore, ArePartedAll, ArePartsOf}
use Rattle.vt_play.specs.Stages.{SomeDenied, asked_of}

-- ---- how many entries are asked for

-- those that a phase asks of the seats below this number
abbrev pub asked_below : (names : List (List ℕ)) → (consoles : ℕ) → PlainVtPhase → (seats : ℕ) → ℕ
asked_below names consoles phase zero = 0
asked_below names consoles phase (suc n) = asked_below names consoles phase n + asked_of names consoles phase n

-- those that phases of a session ask for
abbrev pub asked_in : PlainVtSession → List PlainVtPhase → ℕ
asked_in session [] = 0
asked_in session (phase ∷ phases) =
    asked_below (operator_names session.phases) session.calls.ports phase (length (operator_names session.phases) + 1)
    + asked_in session phases

-- ---- between two phases

pub record IsBoardBefore (session : PlainVtSession) (k first : ℕ) (b : BoardState) : Type 0 where
  pub board : IsBoard b
  pub consoles : b.consoles ≡ session.calls.ports
  pub limit : b.limit ≡ MOST_ENTRIES
  pub first_is : first ≡ length (all_keys (take k session.phases))
  pub keys : length (consoles_in b.entries) ≡ length (all_keys (take k session.phases))
  pub parts : HasPartsUpTo session k first b.entries
  pub counted : length b.entries ≤ asked_in session (take k session.phases)

pub record IsVtBefore (session : PlainVtSession) (k : ℕ) (v : VtInPlay) : Type 0 where
  pub board : IsBoardBefore session k v.first v.board
  pub count : length v.consoles.items ≡ session.calls.ports
  pub consoles : AreConsolesBefore session k v.board.entries v.consoles.items

-- all phases were played
abbrev pub IsVtOver : PlainVtSession → VtInPlay → Type 0
IsVtOver session v = IsWithinKeys session × IsVtBefore session (length session.phases) v

-- ---- the beginning of a phase

-- the session has this phase
pub record IsPhaseOf (of : PhaseOf) : Type 0 where
  pub within : IsWithinKeys (vt_session_of of.session.now)
  pub below : of.k < length (vt_session_of of.session.now).calls.phases
  pub names_are : of.names.now ≡ operator_names (vt_session_of of.session.now).phases

-- the board is shared, and the consoles are in their parts
pub record IsStaged (of : PhaseOf) (board : SharedBoard) (seats : List BoardSeat) (consoles : List Console)
    (parts : AllParts) : Type 0 where
  pub phase_of : IsPhaseOf of
  pub opening : IsBoardBefore (vt_session_of of.session.now) of.k of.first (opening_board board)
  pub seats_are : seats_of board ≡ length of.names.now + 1
  pub count : length seats ≡ length of.names.now + 1
  pub here : AreHere board (history_of (opening_board board)) 0 seats
  pub of_all : length consoles ≡ (vt_session_of of.session.now).calls.ports
  pub before : AreConsolesBefore (vt_session_of of.session.now) of.k (opening_board board).entries consoles
  pub parted : ArePartedAll of.session.now.calls of.k consoles parts

abbrev pub CanPlayParts : PhaseOf → SharedBoard → List BoardSeat → AllParts → Type 0
CanPlayParts of board seats parts = (consoles : List Console) × IsStaged of board seats consoles parts

pub record IsStageOf (of : PhaseOf) (board : SharedBoard) (ports : List (Option SharedPort)) (castings : List Casting)
    (stage : Stage) : Type 0 where
  pub board_is : stage.board.now ≡ board
  pub ports_are : stage.ports.now ≡ ports
  pub castings_are : stage.castings.now ≡ castings
  pub scripts_are : stage.scripts.now ≡ scripts_at of.session.now.calls of.k
  pub names_are : stage.names.now ≡ of.names.now
  pub phase_is : slice_get (vt_session_of of.session.now).phases of.k ≡ Some (vt_phase_of stage.phase.now)
  pub first_is : stage.first ≡ of.first

-- ---- what the threads leave

-- a console came back from a phase whose keys went to these consoles one by one
pub record CameBack (session : VtSession) (k p : ℕ) (keys went : List ℕ) (q : Parted) (b : PartedBack) : Type 0 where
  pub port_is : b.port ≡ q.port
  pub rest_is : b.rest ≡ q.rest
  pub keyed : ConsoleComesIf q.port (keys_to p keys went) q.seats b.seats q.line b.line q.end b.end
  pub own : OwnCame q.port q.own (plain_cast (scripts_at session.calls k) q.rest.casting.cast.items) b.own

pub record AllCame (session : VtSession) (k : ℕ) (keys went : List ℕ) (qs : List Parted) (all : AllBack) : Type 0 where
  pub bs : List PartedBack
  pub back : AreBackOf bs all
  pub count : length bs ≡ length qs
  pub each : (p : ℕ) (q : Parted) (b : PartedBack)
      → slice_get qs p ≡ Some q
      → slice_get bs p ≡ Some b
      → CameBack session k p keys went q b

-- the phase was played, on the board and on each console
pub record PhasePlayed (of : PhaseOf) (board : SharedBoard) (qs : List Parted) (back : PhaseBack) : Type 0 where
  pub phase : PlainVtPhase
  pub at : slice_get (vt_session_of of.session.now).phases of.k ≡ Some phase
  pub went : List ℕ
  pub seats : SeatsPlayed of.names.now phase of.first went board back.seats.items
  pub came : AllCame of.session.now of.k phase.keys went qs back.all

-- since the board was shared the seat made no more entries than the phase asks of it
pub record HasBegun (names : List (List ℕ)) (phase : PlainVtPhase) (b : SharedBoard) (s : BoardSeat) : Type 0 where
  pub events : List VtEvent
  pub made : MadeSince (history_of (opening_board b)) s events
  pub few : length events ≤ asked_of names (opening_board b).consoles phase (number_of s)

pub record PhaseLeaves (of : PhaseOf) (board : SharedBoard) (parts : AllParts) (back : PhaseBack) : Type 0 where
  pub here : EachSeat (λ s. IsHere board (number_of s) s) back.seats.items
  pub all : HasAll (seats_of board) back.seats.items
  pub played : OnOk back.made ((qs : List Parted) → ArePartsOf qs parts → PhasePlayed of board qs back)
  pub begun : (phase : PlainVtPhase)
      → slice_get (vt_session_of of.session.now).phases of.k ≡ Some phase
      → EachSeat (HasBegun of.names.now phase board) back.seats.items
  pub denied : (phase : PlainVtPhase)
      → slice_get (vt_session_of of.session.now).phases of.k ≡ Some phase
      → IfErr back.made (SomeDenied board of.names.now phase back.seats.items)

-- ---- the end of a phase

-- the sharing of the board ended, and the consoles are still in their parts
pub record IsClosed (shared : SharedBoard) (back : PhaseBack) (board : BoardState) (all : AllBack) : Type 0 where
  pub board_of : IsBoard board
  pub name : name_of board ≡ name_of_board shared
  pub all_are : all ≡ back.all
  pub made : back.made ≡ Ok tt
  pub phase : (names : List (List ℕ)) (phase : PlainVtPhase) (first : ℕ) (went : List ℕ)
      → SeatsPlayed names phase first went shared back.seats.items
      → PhaseMade names phase first went (opening_board shared) board
