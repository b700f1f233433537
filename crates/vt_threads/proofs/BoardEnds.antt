-- What the seats of a board played, from what came of their threads.
use Rattle.std.proofs.Common.{◌≡◌, ℕ, List, [], ◌++◌, map, refl, sym, ap, ◌∙◌, append-nil}
use Rattle.std.specs.Prelude.{flat_map}
use Rattle.port_cell.specs.declared.kept.Stamped.{Stamped}
use Rattle.port_cell.specs.Entries.{entries_by}
use Rattle.port_cell.specs.Knowledge.{list_seen, number_of, own_entries}
use Rattle.vt_consoles.specs.declared.entries.VtEvent.{VtEvent}
use Rattle.vt_consoles.specs.declared.shared.SharedBoard.{SharedBoard}
use Rattle.vt_consoles.specs.Histories.{history_of, stamped}
use Rattle.vt_consoles.specs.Seats.{BoardSeat}
use Rattle.vt_consoles.specs.Shared.{opening_board}
use Rattle.vt_text.specs.Sessions.{PlainVtPhase}
use Rattle.vt_account.specs.Account.{granted, calls_at}
use Rattle.vt_keyboard.specs.Operating.{AnswersCalls, MakesAll, calls_of_seat}
use Rattle.vt_threads.specs.Closing.{MadeSince, OperatorPlayed}

-- what a seat had made when the board was shared
made_before : (xs : List (Stamped VtEvent)) (n : ℕ) (old : BoardSeat)
    → number_of old ≡ n
    → list_seen old ≡ xs
    → own_entries old ≡ entries_by n xs
made_before xs n old number seen =
    ap (λ (k : ℕ). entries_by k (list_seen old)) number ∙ ap (λ (l : List (Stamped VtEvent)). entries_by n l) seen

pub made_since : (xs : List (Stamped VtEvent)) (n : ℕ) (events : List VtEvent) (old new : BoardSeat)
    → number_of old ≡ n
    → number_of new ≡ n
    → list_seen old ≡ xs
    → MakesAll n events old new
    → MadeSince xs new events
made_since xs n events old new was is seen h =
    h
    ∙ (ap (λ (l : List (Stamped VtEvent)). l ++ map (stamped n) events) (made_before xs n old was seen)
    ∙ ap (λ (k : ℕ). entries_by k xs ++ map (stamped k) events) (sym is))

pub operator_played : (b : SharedBoard) (names : List (List ℕ)) (phase : PlainVtPhase) (n : ℕ) (old new : BoardSeat)
    → number_of old ≡ n
    → number_of new ≡ n
    → list_seen old ≡ history_of (opening_board b)
    → AnswersCalls (opening_board b).consoles n (calls_of_seat names n phase.operators) old new
    → OperatorPlayed (opening_board b).consoles names phase (history_of (opening_board b)) new
operator_played b names phase n old new was is seen h = record {
  events = h.events;
  made = made_since (history_of (opening_board b)) n h.events old new was is seen h.makes;
  answers =
      h.answers ∙ ap (λ (k : ℕ). flat_map (granted (opening_board b).consoles) (calls_at names k phase)) (sym is);
  no_keys = h.no_keys;
}

-- a seat that has no calls in a phase need do nothing
pub none_to_answer : (consoles n : ℕ) (s : BoardSeat) → AnswersCalls consoles n [] s s
none_to_answer consoles n s =
    record { events = []; makes = sym (append-nil (own_entries s)); answers = refl; no_keys = refl }
