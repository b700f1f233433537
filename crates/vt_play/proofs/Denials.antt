-- Why a session is not played: its board was full.
use Rattle.std.proofs.Common.{◌≡◌, ℕ, ◌+◌, ◌<◌, ◌≤◌, List, Some, length, map}
use Rattle.std.proofs.Common.{ap, ◌∙◌, arith, length-append}
use Rattle.std.specs.Prelude.{slice_get}
use Rattle.std.proofs.lemmas.List.{length-map}
use Rattle.tty_base.specs.Sizes.{MOST_ENTRIES}
use Rattle.port_cell.specs.declared.kept.Stamped.{Stamped}
use Rattle.port_cell.specs.Entries.{GoesOn}
use Rattle.port_cell.specs.Knowledge.{list_seen}
use Rattle.port_cell.specs.Seats.{EachSeat, HasAll}
use Rattle.tty_calls.specs.declared.answers.Denied.{Denied}
use Rattle.tty_calls.specs.declared.answers.Denied.TheVariants.{Full, NoMemory}
use Rattle.vt_consoles.specs.declared.entries.VtEntry.{VtEntry}
use Rattle.vt_consoles.specs.declared.entries.VtEvent.{VtEvent}
use Rattle.vt_consoles.specs.declared.shared.SharedBoard.{SharedBoard}
use Rattle.vt_consoles.specs.Boards.{BoardState}
use Rattle.vt_consoles.specs.Histories.{history_of}
use Rattle.vt_consoles.specs.Seats.{BoardSeat, HasAllOf}
use Rattle.vt_consoles.specs.Shared.{opening_board, seats_of}
use Rattle.vt_text.specs.Sessions.{PlainVtPhase, PlainVtSession, vt_session_of}
use Rattle.vt_account.specs.InOrder.{IsBoardDenied, entries_in_order}
use Rattle.vt_account.specs.Seats.{operator_names}
use Rattle.vt_account.proofs.Accounting.{in_order_is_account}
use Rattle.vt_play.specs.declared.stage.PhaseOf.{PhaseOf}
use Rattle.vt_play.specs.Phases.{HasBegun, IsBoardBefore, IsPhaseOf, asked_below}
use Rattle.vt_play.specs.Stages.{SomeDenied}
use Rattle.vt_play.proofs.Counts.{account_asked, asked_front, asked_more, at_seat, begun_less, board_length}
use Rattle.vt_play.proofs.Listing.{there}

abbrev entry_of : Stamped VtEvent → VtEntry
entry_of x = record { seat = x.seat; event = x.what }

module _ (of : PhaseOf) (shared : SharedBoard) (seats : List BoardSeat) (w : BoardState)
    (all : HasAll (seats_of shared) seats)
    (goes : GoesOn (λ k. k < seats_of shared) (history_of (opening_board shared)) (history_of w))
    (each : EachSeat (HasAllOf (history_of w)) seats)
    (opening : IsBoardBefore (vt_session_of of.session.now) of.k of.first (opening_board shared))
    (phase_of : IsPhaseOf of) (number : seats_of shared ≡ length of.names.now + 1)
    (begun : (phase : PlainVtPhase)
    → slice_get (vt_session_of of.session.now).phases of.k ≡ Some phase
    → EachSeat (HasBegun of.names.now phase shared) seats) where
  abbrev vt : PlainVtSession
  vt = vt_session_of of.session.now

  phase_there : (phase : PlainVtPhase) × (slice_get vt.phases of.k ≡ Some phase)
  phase_there =
      let whole = phase_of.within.whole in
      let below = phase_of.below in
      there vt.phases of.k (omega (arith, whole, below))

  abbrev phase : PlainVtPhase
  phase = phase_there.0

  -- a board whose phases ask for more
  below_asked : (d : Denied)
      → SomeDenied shared of.names.now phase seats d
      → length w.entries < length (entries_in_order vt)
  below_asked d some =
      let less = begun_less of.names.now phase shared seats w d all goes each (begun phase phase_there.1) number some in
      let named = ap (λ (n : List (List ℕ)). asked_below n (opening_board shared).consoles phase (seats_of shared))
      phase_of.names_are in
      let ports = ap (λ (n : ℕ). asked_below (operator_names vt.phases) n phase (seats_of shared)) opening.consoles in
      let count = ap (λ (n : ℕ). asked_below (operator_names vt.phases) vt.calls.ports phase n)
      (number ∙ ap (λ (n : List (List ℕ)). length n + 1) phase_of.names_are) in
      let was = opening.counted in
      let more = asked_more vt vt.phases of.k phase phase_there.1 in
      let front = asked_front vt vt.phases (of.k + 1) in
      let account = account_asked vt 0 vt.phases (entries_in_order vt) (in_order_is_account vt).parts in
      omega (arith, less, named, ports, count, was, more, front, account)

  -- a seat that was denied an entry found the board full
  found_full : SomeDenied shared of.names.now phase seats Full → MOST_ENTRIES ≤ length w.entries
  found_full some =
      let has = at_seat (HasAllOf (history_of w)) seats some.place some.seat each some.at in
      let seen = length-map (list_seen some.seat) entry_of in
      let is : length (map entry_of (list_seen some.seat)) ≡ (opening_board shared).limit = some.stopped.is in
      let limit = opening.limit in
      let size = ap (λ (l : List (Stamped VtEvent)). length l) has.begins.1 in
      let s = length-append (list_seen some.seat) has.begins.0 in
      let mine = board_length w in
      omega (arith, seen, is, limit, size, s, mine)

  pub denied_so : (d : Denied)
      → ((x : PlainVtPhase) → slice_get vt.phases of.k ≡ Some x → SomeDenied shared of.names.now x seats d)
      → IsBoardDenied vt d
  denied_so NoMemory some = tt
  denied_so Full some =
      let here = some phase phase_there.1 in
      let less = below_asked Full here in
      let full = found_full here in
      omega (arith, less, full)
