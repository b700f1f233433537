-- The board after a phase, from what its seats bring back.
use Rattle.std.proofs.Common.{◌≡◌, ℕ, zero, suc, ◌<◌, List, [], ◌∷◌, Some, flat_map, length, subst, ap, ◌∙◌, arith}
use Rattle.std.specs.Prelude.{slice_get}
use Rattle.port_cell.specs.declared.kept.Stamped.{Stamped}
use Rattle.port_cell.specs.Entries.{GoesOn}
use Rattle.port_cell.specs.Knowledge.{number_of}
use Rattle.port_cell.specs.Seats.{EachSeat, HasAll}
use Rattle.vt_consoles.specs.declared.entries.VtEvent.{VtEvent}
use Rattle.vt_consoles.specs.declared.shared.SharedBoard.{SharedBoard}
use Rattle.vt_consoles.specs.Boards.{BoardState}
use Rattle.vt_consoles.specs.Histories.{history_of}
use Rattle.vt_consoles.specs.Seats.{BoardSeat, HasAllOf}
use Rattle.vt_consoles.specs.Shared.{opening_board, seats_of}
use Rattle.vt_text.specs.Sessions.{PlainVtPhase}
use Rattle.vt_account.specs.Account.{granted, calls_at}
use Rattle.vt_keyboard.specs.Phases.{MadeBy, key_events, PhaseMade}
use Rattle.vt_threads.specs.Closing.{MadeSince, SeatsPlayed}

some_same : (x y : BoardSeat) → Some x ≡ Some y → x ≡ y
some_same x y h = cc

at_seat : (P : BoardSeat → Type 0) (ss : List BoardSeat) (i : ℕ) (s : BoardSeat)
    → EachSeat P ss
    → slice_get ss i ≡ Some s
    → P s
at_seat P [] i s h at = absurd (cc)
at_seat P (x ∷ xs) zero s h at = subst P (some_same x s at) h.0
at_seat P (x ∷ xs) (suc i) s h at = at_seat P xs i s h.1 at

made_by : (n : ℕ) (s : BoardSeat) (xs ys : List (Stamped VtEvent)) (events : List VtEvent)
    → number_of s ≡ n
    → HasAllOf ys s
    → MadeSince xs s events
    → MadeBy n xs ys events
made_by n s xs ys events number has made = subst (λ (k : ℕ). MadeBy k xs ys events) number (has.own ∙ made)

pub phase_made : (names : List (List ℕ)) (phase : PlainVtPhase) (first : ℕ) (went : List ℕ) (b : SharedBoard)
    (seats : List BoardSeat) (w : BoardState)
    → HasAll (seats_of b) seats
    → GoesOn (λ k. k < seats_of b) (history_of (opening_board b)) (history_of w)
    → EachSeat (HasAllOf (history_of w)) seats
    → SeatsPlayed names phase first went b seats
    → PhaseMade names phase first went (opening_board b) w
phase_made names phase first went b seats w all goes each h = record {
  goes_on = subst (λ (m : ℕ). GoesOn (λ k. k < m) (history_of (opening_board b)) (history_of w)) h.count goes;
  operators = λ n lt.
      let found = all n (omega (arith, h.count, lt)) in
      let s : BoardSeat = found.1 in
      let at = found.2 in
      let number = found.3 in
      let o = h.operators found.0 s at (omega (arith, number, lt)) in
      record {
        events = o.events;
        made = made_by n s (history_of (opening_board b)) (history_of w) o.events number
            (at_seat (HasAllOf (history_of w)) seats found.0 s each at) o.made;
        answers =
            o.answers ∙ ap (λ (k : ℕ). flat_map (granted (opening_board b).consoles) (calls_at names k phase)) number;
        no_keys = o.no_keys;
      };
  keyboard =
      let found = all (length names) (omega (arith, h.count)) in
      let s : BoardSeat = found.1 in
      made_by (length names) s (history_of (opening_board b)) (history_of w) (key_events first went) found.3
      (at_seat (HasAllOf (history_of w)) seats found.0 s each found.2)
      (h.keyboard found.0 s found.2 found.3);
  each_key = h.each_key;
}
