-- What the operators and the keyboard come to, one after the other.
use Rattle.std.proofs.Common.{◌≡◌, ℕ, ◌<◌, ◌≤◌, List, [], ◌∷◌, ◌++◌, Result}
use Rattle.std.proofs.Common.{Ok, Err, flat_map, length, sym, subst, ap, ◌∙◌, arith, length-append}
use Rattle.std.specs.Prelude.{IfErr, IfOk, OnErr, OnOk, slice_get}
use Rattle.legal_runs.proofs.NameLemmas.{get_append, get_past}
use Rattle.tty_calls.specs.declared.answers.Denied.{Denied}
use Rattle.many_threads.proofs.Onward.{each_front, each_last, each_one_more}
use Rattle.port_cell.specs.Knowledge.{list_seen, number_of}
use Rattle.vt_consoles.specs.Boards.{IsDenied}
use Rattle.vt_consoles.specs.Histories.{board_with, history_of}
use Rattle.vt_consoles.specs.Seats.{BoardSeat}
use Rattle.vt_consoles.specs.Shared.{IsHere, name_of_board, opening_board}
use Rattle.vt_consoles.specs.declared.shared.SharedBoard.{SharedBoard}
use Rattle.vt_text.specs.declared.sessions.OpScript.{OpScript}
use Rattle.vt_text.specs.declared.sessions.VtPhase.{VtPhase}
use Rattle.vt_text.specs.Sessions.{PlainVtPhase, operators_of, vt_phase_of}
use Rattle.vt_account.specs.Account.{granted, calls_at}
use Rattle.vt_keyboard.specs.Operating.{AnswersCalls, AnswersFirst, calls_of_seat}
use Rattle.vt_threads.proofs.BoardEnds.{made_since, operator_played}
use Rattle.vt_play.specs.declared.board_threads.BoardBack.{BoardBack}
use Rattle.vt_play.specs.declared.board_threads.BoardHand.{BoardHand}
use Rattle.vt_play.specs.declared.board_threads.KeyBack.{KeyBack}
use Rattle.vt_play.specs.declared.board_threads.KeyHand.{KeyHand}
use Rattle.vt_play.specs.declared.board_threads.OperatorBack.{OperatorBack}
use Rattle.vt_play.specs.declared.stage.Stage.{Stage}
use Rattle.vt_play.specs.Stages.{BoardComes, CanKey, CanPlayBoard, HasOperated, IsDeniedAt}
use Rattle.vt_play.specs.Stages.{IsFresh, IsOperatorBack, IsStoppedAt, IsWithOperator, KeyboardComes}
use Rattle.vt_play.specs.Stages.{OperatorBegan, OperatorComes, Places, SomeDenied, asked_of}
use Rattle.vt_play.proofs.BoardBacks.{err_first, ok_both}
use Rattle.vt_play.proofs.Events.{answers_few, first_few}

-- ---- an operator

began_all : (b : SharedBoard) (names : List (List ℕ)) (phase : VtPhase) (n : ℕ) (old new : BoardSeat)
    → IsFresh b n old
    → number_of new ≡ n
    → AnswersCalls (opening_board b).consoles n (calls_of_seat names n (vt_phase_of phase).operators) old new
    → OperatorBegan b names (vt_phase_of phase) new
began_all b names phase n old new fresh is h = record {
  events = h.events;
  made = made_since (history_of (opening_board b)) n h.events old new fresh.here.number is fresh.seen h.makes;
  few = subst (λ (k : ℕ).
      length h.events
      ≤ length (flat_map (granted (opening_board b).consoles) (calls_at names k (vt_phase_of phase))))
      (sym is)
      (let few = answers_few (opening_board b).consoles n
      (calls_of_seat names n (vt_phase_of phase).operators) old new h in
      omega (arith, few));
}

began_first : (b : SharedBoard) (names : List (List ℕ)) (phase : VtPhase) (n : ℕ) (old new : BoardSeat)
    → IsFresh b n old
    → number_of new ≡ n
    → AnswersFirst (opening_board b).consoles n (calls_of_seat names n (vt_phase_of phase).operators) old new
    → OperatorBegan b names (vt_phase_of phase) new
began_first b names phase n old new fresh is h = record {
  events = h.2.answered.events;
  made = made_since (history_of (opening_board b)) n h.2.answered.events
      old new fresh.here.number is fresh.seen h.2.answered.makes;
  few = subst (λ (k : ℕ).
      length h.2.answered.events
      ≤ length (flat_map (granted (opening_board b).consoles) (calls_at names k (vt_phase_of phase))))
      (sym is)
      (let few = first_few (opening_board b).consoles n
      (calls_of_seat names n (vt_phase_of phase).operators) old new h in
      omega (arith, few));
}

stopped : (b : SharedBoard) (names : List (List ℕ)) (phase : VtPhase) (n : ℕ) (old new : BoardSeat) (denied : Denied)
    → IsFresh b n old
    → number_of new ≡ n
    → AnswersFirst (opening_board b).consoles n (calls_of_seat names n (vt_phase_of phase).operators) old new
    → IsDeniedAt b new denied
    → IsStoppedAt b names (vt_phase_of phase) new denied
stopped b names phase n old new denied fresh is h found = record {
  is = found;
  events = h.2.answered.events;
  made = made_since (history_of (opening_board b)) n h.2.answered.events
      old new fresh.here.number is fresh.seen h.2.answered.makes;
  fewer = subst (λ (k : ℕ).
      length h.2.answered.events < asked_of names (opening_board b).consoles (vt_phase_of phase) k)
      (sym is)
      (let few = first_few (opening_board b).consoles n
      (calls_of_seat names n (vt_phase_of phase).operators) old new h in
      omega (arith, few));
}

pub operator_comes : (b : SharedBoard) (names : List (List ℕ)) (phase : VtPhase) (n : ℕ) (operators : List OpScript)
    (old new : BoardSeat) (r : Result (Unit {0}) Denied)
    → operators ≡ phase.operators.items
    → IsFresh b n old
    → IsHere b n new
    → OnOk r (AnswersCalls (name_of_board b).consoles n (calls_of_seat names n (operators_of operators)) old new)
    → OnErr r (AnswersFirst (name_of_board b).consoles n (calls_of_seat names n (operators_of operators)) old new)
    → IfErr r (λ denied. IsDenied (board_with (name_of_board b) (list_seen new)) denied)
    → OperatorComes b names (vt_phase_of phase) n (record { seat = new; result = r })
operator_comes b names phase n operators old new (Ok v) are fresh here ok err denied =
    let all = subst (λ (l : List OpScript).
    AnswersCalls (opening_board b).consoles n (calls_of_seat names n (operators_of l)) old new)
    are ok in
    record {
      here = here;
      began = began_all b names phase n old new fresh here.number all;
      ok = operator_played b names (vt_phase_of phase) n old new fresh.here.number here.number fresh.seen all;
      denied = tt;
    }
operator_comes b names phase n operators old new (Err d) are fresh here ok err denied =
    let first = subst (λ (l : List OpScript).
    AnswersFirst (opening_board b).consoles n (calls_of_seat names n (operators_of l)) old new)
    are err in
    record {
      here = here;
      began = began_first b names phase n old new fresh here.number first;
      ok = tt;
      denied = stopped b names phase n old new d fresh here.number first denied;
    }

-- ---- operators one after the other

module _ (stage : Stage) (hand fewer : BoardHand) (others : List BoardSeat) (seat : BoardSeat)
    (split : hand.seats.items ≡ others ++ seat ∷ []) (fewer_are : fewer.seats.items ≡ others)
    (fewer_keys : fewer.keys ≡ hand.keys) where
  abbrev b : SharedBoard
  b = stage.board.now

  abbrev names : List (List ℕ)
  names = stage.names.now

  abbrev phase : PlainVtPhase
  phase = vt_phase_of stage.phase.now

  pub can_first : CanPlayBoard stage hand → IsFresh stage.board.now (length others) seat
  can_first can = each_last (IsFresh stage.board.now) hand.seats.items others seat split can.seats

  pub can_fewer : CanPlayBoard stage hand → CanPlayBoard stage fewer
  can_fewer can = record {
    count =
        let whole = ap (λ (l : List BoardSeat). length l) split in
        let size = length-append others (seat ∷ []) in
        let few = ap (λ (l : List BoardSeat). length l) fewer_are in
        let count = can.count in
        omega (arith, whole, size, few, count);
    seats = λ i s at. each_front (IsFresh stage.board.now) hand.seats.items others seat split can.seats i s
        (ap (λ (l : List BoardSeat). slice_get l i) (sym fewer_are) ∙ at);
    keys = subst (λ (k : KeyHand). CanKey stage k) (sym fewer_keys) can.keys;
  }

  pub board_more : (back : BoardBack) (one : OperatorBack) (now : BoardBack)
      → length hand.seats.items ≤ length names
      → BoardComes stage fewer back
      → OperatorComes b names phase (length others) one
      → IsWithOperator back one now
      → BoardComes stage hand now
  board_more back one now few h o w =
      let number : length back.seats.items ≡ length others =
      h.count ∙ ap (λ (l : List BoardSeat). length l) fewer_are in
      let here : IsOperatorBack stage (length back.seats.items) one.seat =
      subst (λ (n : ℕ). IsOperatorBack stage n one.seat) (sym number) (record { here = o.here; began = o.began }) in
      record {
        count =
            let now_size = ap (λ (l : List BoardSeat). length l) w.seats in
            let more = length-append back.seats.items (one.seat ∷ []) in
            let whole = ap (λ (l : List BoardSeat). length l) split in
            let size = length-append others (seat ∷ []) in
            omega (arith, now_size, more, whole, size, number);
        seats = each_one_more (IsOperatorBack stage) now.seats.items back.seats.items one.seat w.seats h.seats here;
        operated = subst (λ (r : Result (Unit {0}) Denied). OnOk r (Places (HasOperated stage) now.seats.items))
            (sym w.operated)
            (ok_both back.operated one.result (Places (HasOperated stage) back.seats.items)
            (HasOperated stage (length others) one.seat) (Places (HasOperated stage) now.seats.items) h.operated o.ok
            (λ all last. each_one_more (HasOperated stage) now.seats.items back.seats.items one.seat w.seats all
            (subst (λ (n : ℕ). HasOperated stage n one.seat) (sym number) last)));
        denied = subst (λ (r : Result (Unit {0}) Denied). IfErr r (SomeDenied b names phase now.seats.items))
            (sym w.operated)
            (err_first back.operated one.result (SomeDenied b names phase back.seats.items)
            (IsStoppedAt b names phase one.seat) (SomeDenied b names phase now.seats.items) h.denied o.denied
            (λ d x. record {
              place = x.place;
              seat = x.seat;
              at =
                  ap (λ (l : List BoardSeat). slice_get l x.place) w.seats
                  ∙ get_append back.seats.items (one.seat ∷ []) x.place x.seat x.at;
              known = x.known;
              stopped = x.stopped;
            })
            (λ d x. record {
              place = length back.seats.items;
              seat = one.seat;
              at =
                  ap (λ (l : List BoardSeat). slice_get l (length back.seats.items)) w.seats
                  ∙ get_past back.seats.items (one.seat ∷ []) (length back.seats.items) 0 (omega arith);
              known =
                  let whole = ap (λ (l : List BoardSeat). length l) split in
                  let size = length-append others (seat ∷ []) in
                  let is = o.here.number in
                  omega (arith, whole, size, is, few);
              stopped = x;
            }));
        keys = subst (λ (k : KeyHand). KeyboardComes stage k now.keys) fewer_keys
            (subst (λ (k : KeyBack). KeyboardComes stage fewer.keys k) (sym w.keys) h.keys);
      }

  pub board_ok : {E : Type 0} (r : Result BoardBack E) (back : BoardBack) (one : OperatorBack)
      → length hand.seats.items ≤ length names
      → BoardComes stage fewer back
      → OperatorComes b names phase (length others) one
      → IfOk r (IsWithOperator back one)
      → IfOk r (BoardComes stage hand)
  board_ok (Ok now) back one few h o w = board_more back one now few h o w
  board_ok (Err e) back one few h o w = tt
