-- A phase of all consoles and of their board, put together.
use Rattle.std.proofs.Common.{◌≡◌, ℕ, ◌+◌, ◌<◌, ◌≤◌, List, ◌++◌, Some, Result}
use Rattle.std.proofs.Common.{length, take, sym, subst, ap, ◌∙◌, arith}
use Rattle.std.specs.Prelude.{OnOk, slice_get}
use Rattle.std.proofs.lemmas.List.{length-map}
use Rattle.tty_calls.specs.declared.answers.Denied.{Denied}
use Rattle.vt_consoles.specs.declared.entries.VtEntry.{VtEntry}
use Rattle.vt_consoles.specs.declared.shared.SharedBoard.{SharedBoard}
use Rattle.vt_consoles.specs.Boards.{BoardState}
use Rattle.vt_consoles.specs.Histories.{history_of}
use Rattle.vt_consoles.specs.Seats.{BoardSeat}
use Rattle.vt_consoles.specs.Shared.{AreHere, opening_board, seats_of}
use Rattle.vt_text.specs.declared.sessions.VtSession.{VtSession}
use Rattle.vt_text.specs.Sessions.{PlainVtSession, vt_phase_of, vt_session_of}
use Rattle.vt_account.specs.Keyed.{IsWithinKeys, all_keys}
use Rattle.vt_keyboard.specs.Phases.{PhaseMade}
use Rattle.vt_threads.specs.Parting.{IsSomeConsoleBefore}
use Rattle.vt_threads.specs.declared.consoles.Console.{Console}
use Rattle.vt_threads.specs.declared.parting.Parted.{Parted}
use Rattle.vt_play.specs.declared.parts.AllBack.{AllBack}
use Rattle.vt_play.specs.declared.parts.AllParts.{AllParts}
use Rattle.vt_play.specs.declared.phases.PhaseBack.{PhaseBack}
use Rattle.vt_play.specs.declared.phases.VtInPlay.{VtInPlay}
use Rattle.vt_play.specs.declared.stage.PhaseOf.{PhaseOf}
use Rattle.vt_play.specs.Parts.{AreConsolesBefore, ArePartedAll, ArePartsOf, ConsolesArePlayed, ArePlayedIn}
use Rattle.vt_play.specs.Phases.{IsBoardBefore, IsClosed, IsPhaseOf, IsStaged, IsVtBefore, PhaseLeaves, PhasePlayed}
use Rattle.vt_play.proofs.Onward.{adds, all_known, board_next, played_in, played_so}

-- ---- the beginning

pub some_before : (session : PlainVtSession) (k : ℕ) (entries : List VtEntry) (consoles : List Console)
    → AreConsolesBefore session k entries consoles
    → (p : ℕ) (c : Console)
    → slice_get consoles p ≡ Some c
    → IsSomeConsoleBefore session p k c
some_before session k entries consoles h p c at = (entries, h p c at)

-- the phases of the keyboard and the operators are as many as those of the callers
pub phase_below : (session : VtSession) (k : ℕ)
    → IsWithinKeys (vt_session_of session)
    → k < length (vt_session_of session).calls.phases
    → k < length session.phases.items
phase_below session k within below =
    let whole : length (vt_session_of session).calls.phases ≡ length (vt_session_of session).phases = within.whole in
    let size = length-map session.phases.items vt_phase_of in
    omega (arith, below, whole, size)

pub staged_so : (of : PhaseOf) (board kept : BoardState) (consoles : List Console) (shared : SharedBoard)
    (seats : List BoardSeat) (parts : AllParts) (n : ℕ)
    → IsPhaseOf of
    → IsBoardBefore (vt_session_of of.session.now) of.k of.first board
    → length consoles ≡ (vt_session_of of.session.now).calls.ports
    → AreConsolesBefore (vt_session_of of.session.now) of.k board.entries consoles
    → kept ≡ board
    → opening_board shared ≡ kept
    → n ≡ length of.names.now + 1
    → seats_of shared ≡ n
    → length seats ≡ n
    → AreHere shared (history_of kept) 0 seats
    → ArePartedAll of.session.now.calls of.k consoles parts
    → IsStaged of shared seats consoles parts
staged_so of board kept consoles shared seats parts n phase_of before all
    consoles_before is opening count seats_are size here parted = record {
      phase_of = phase_of;
      opening = subst (IsBoardBefore (vt_session_of of.session.now) of.k of.first) (sym (opening ∙ is)) before;
      seats_are = seats_are ∙ count;
      count = size ∙ count;
      here = subst (λ (b : BoardState). AreHere shared (history_of b) 0 seats) (sym opening) here;
      of_all = all;
      before = subst (λ (b : BoardState). AreConsolesBefore (vt_session_of of.session.now) of.k b.entries consoles)
          (sym (opening ∙ is)) consoles_before;
      parted = parted;
    }

-- ---- the end

module _ (of : PhaseOf) (shared : SharedBoard) (seats : List BoardSeat) (consoles : List Console) (parts : AllParts)
    (h : IsStaged of shared seats consoles parts) (back : PhaseBack) (leaves : PhaseLeaves of shared parts back)
    (board : BoardState) (all : AllBack) (closed : IsClosed shared back board all) where
  abbrev vt : PlainVtSession
  vt = vt_session_of of.session.now

  pp : PhasePlayed of shared h.parted.qs back
  pp =
      let played : (qs : List Parted) → ArePartsOf qs parts → PhasePlayed of shared qs back =
      subst (λ (r : Result (Unit {0}) Denied).
      OnOk r ((qs : List Parted) → ArePartsOf qs parts → PhasePlayed of shared qs back)) closed.made leaves.played in
      played h.parted.qs h.parted.parts

  made : PhaseMade of.names.now pp.phase of.first pp.went (opening_board shared) board
  made = closed.phase of.names.now pp.phase of.first pp.went pp.seats

  pub whole_so : ConsolesArePlayed of.session.now of.k all
  whole_so = subst (ConsolesArePlayed of.session.now of.k) (sym closed.all_are)
      (played_so of shared seats consoles parts h back pp board made)

  pub whole_known : length all.kept.items ≤ vt.calls.ports
  whole_known =
      let is = ap (λ (a : AllBack). length a.kept.items) closed.all_are in
      let count = all_known of shared seats consoles parts h back pp board made in
      omega (arith, is, count)

  pub next_so : (v : VtInPlay)
      → v.board ≡ board
      → v.first ≡ length (all_keys (take (of.k + 1) vt.phases))
      → length v.consoles.items ≡ length all.kept.items
      → ((entries part : List VtEntry)
      → ArePlayedIn of.session.now of.k entries part all
      → AreConsolesBefore vt (of.k + 1) (entries ++ part) v.consoles.items)
      → IsVtBefore vt (of.k + 1) v
  next_so v is first count before =
      let a = adds of shared seats consoles parts h back pp board made in
      let known = all_known of shared seats consoles parts h back pp board made in
      record {
        board = subst (IsBoardBefore vt (of.k + 1) v.first) (sym is)
            (board_next of shared seats consoles parts h back pp board made v.first first closed.board_of closed.name);
        count = count ∙ (ap (λ (x : AllBack). length x.kept.items) closed.all_are ∙ known);
        consoles = subst (λ (b : BoardState). AreConsolesBefore vt (of.k + 1) b.entries v.consoles.items) (sym is)
            (subst (λ (es : List VtEntry). AreConsolesBefore vt (of.k + 1) es v.consoles.items) (sym a.added)
            (before (opening_board shared).entries a.part
            (subst (ArePlayedIn of.session.now of.k (opening_board shared).entries a.part) (sym closed.all_are)
            (played_in of shared seats consoles parts h back pp board made))));
      }
