-- The seats of a board after the threads of a phase.
use Rattle.std.proofs.Common.{◌≡◌, ◌⊎◌, inl, inr, ℕ, suc, ◌+◌, ◌<◌, ◌≤◌, ◌==◌, Bool, List, [], ◌∷◌}
use Rattle.std.proofs.Common.{◌++◌, Some, Result, Ok, Err, eq-eqb, if◌then◌else◌}
use Rattle.std.proofs.Common.{length, refl, sym, subst, ap, ◌∙◌, arith, length-append}
use Rattle.std.specs.Prelude.{IfErr, OnErr, OnOk, slice_get}
use Rattle.std.proofs.lemmas.List.{length-take-le}
use Rattle.std.proofs.lemmas.Option.{slice_get_within}
use Rattle.legal_runs.proofs.NameLemmas.{get_append, get_past}
use Rattle.tty_calls.specs.declared.answers.Denied.{Denied}
use Rattle.play_base.proofs.PortLemmas.{last_or}
use Rattle.port_cell.specs.Knowledge.{number_of}
use Rattle.port_cell.specs.Seats.{EachSeat, HasAll}
use Rattle.vt_consoles.specs.declared.entries.VtEvent.{VtEvent}
use Rattle.vt_consoles.specs.declared.shared.SharedBoard.{SharedBoard}
use Rattle.vt_consoles.specs.Histories.{history_of}
use Rattle.vt_consoles.specs.Seats.{BoardSeat}
use Rattle.vt_consoles.specs.Shared.{IsHere, opening_board, seats_of}
use Rattle.vt_text.specs.Sessions.{PlainVtPhase, vt_phase_of}
use Rattle.vt_threads.specs.Closing.{MadeSince, OperatorPlayed, SeatsPlayed}
use Rattle.vt_keyboard.specs.Operating.{MakesAll}
use Rattle.vt_keyboard.specs.Phases.{key_events}
use Rattle.vt_threads.proofs.BoardEnds.{made_since}
use Rattle.vt_play.specs.declared.board_threads.BoardBack.{BoardBack}
use Rattle.vt_play.specs.declared.board_threads.BoardHand.{BoardHand}
use Rattle.vt_play.specs.declared.stage.Stage.{Stage}
use Rattle.vt_play.specs.Stages.{BoardComes, IsDeniedAt, IsFresh, IsStoppedAt}
use Rattle.vt_play.specs.Stages.{PlaysFirstKeys, PlaysKeys, SomeDenied, asked_of, first_denied}
use Rattle.vt_play.specs.Phases.{HasBegun}
use Rattle.vt_play.proofs.Events.{key_count}
use Rattle.vt_play.proofs.Listing.{some_is, there}

-- ---- two results

pub ok_both : (a b : Result (Unit {0}) Denied) (P Q R : Type 0)
    → OnOk a P
    → OnOk b Q
    → (P → Q → R)
    → OnOk (first_denied a b) R
ok_both (Ok v) (Ok w) P Q R p q f = f p q
ok_both (Ok v) (Err d) P Q R p q f = tt
ok_both (Err d) b P Q R p q f = tt

pub err_first : (a b : Result (Unit {0}) Denied) (P Q R : Denied → Type 0)
    → IfErr a P
    → IfErr b Q
    → ((d : Denied) → P d → R d)
    → ((d : Denied) → Q d → R d)
    → IfErr (first_denied a b) R
err_first (Ok v) (Ok w) P Q R p q f g = tt
err_first (Ok v) (Err d) P Q R p q f g = g d q
err_first (Err d) b P Q R p q f g = f d p

err_so : (a : Result (Unit {0}) Denied) (P : Type 0) (Q R : Denied → Type 0)
    → OnErr a P
    → IfErr a Q
    → (P → (d : Denied) → Q d → R d)
    → IfErr a R
err_so (Ok v) P Q R p q f = tt
err_so (Err d) P Q R p q f = f p d q

either_way : (a : Result (Unit {0}) Denied) (P Q R : Type 0) → OnOk a P → OnErr a Q → (P → R) → (Q → R) → R
either_way (Ok v) P Q R p q f g = f p
either_way (Err d) P Q R p q f g = g q

-- ---- seats one by one

pub each_seat : (P : BoardSeat → Type 0) (xs : List BoardSeat)
    → ((i : ℕ) (s : BoardSeat) → slice_get xs i ≡ Some s → P s)
    → EachSeat P xs
each_seat P [] h = tt
each_seat P (x ∷ xs) h = (h 0 x refl, each_seat P xs (λ i s at. h (suc i) s at))

module _ (stage : Stage) (hand : BoardHand) (back : BoardBack) (comes : BoardComes stage hand back)
    (number : length hand.seats.items ≡ length stage.names.now)
    (fresh : IsFresh stage.board.now (length stage.names.now) hand.keys.seat) (seats : List BoardSeat)
    (are : seats ≡ back.seats.items ++ back.keys.hand.seat ∷ []) where
  abbrev b : SharedBoard
  b = stage.board.now

  abbrev names : List (List ℕ)
  names = stage.names.now

  abbrev phase : PlainVtPhase
  phase = vt_phase_of stage.phase.now

  abbrev key : BoardSeat
  key = back.keys.hand.seat

  -- an operator's seat, or the keyboard's
  abbrev IsOne : ℕ → BoardSeat → Type 0
  IsOne i s = ((slice_get back.seats.items i ≡ Some s) × (i < length names)) ⊎ ((i ≡ length names) × (key ≡ s))

  operators_count : length back.seats.items ≡ length names
  operators_count = comes.count ∙ number

  one_of : (i : ℕ) (s : BoardSeat)
      → (slice_get back.seats.items i ≡ Some s) ⊎ ((i ≡ length back.seats.items) × (Some key ≡ Some s))
      → IsOne i s
  one_of i s (inl a) =
      let below = slice_get_within back.seats.items i s a in
      let count = operators_count in inl (a, omega (arith, below, count))
  one_of i s (inr a) = inr (a.0 ∙ operators_count, some_is key s a.1)

  which : (i : ℕ) (s : BoardSeat) → slice_get seats i ≡ Some s → IsOne i s
  which i s at =
      one_of i s (last_or back.seats.items key i s (ap (λ (l : List BoardSeat). slice_get l i) (sym are) ∙ at))

  here_of : (i : ℕ) (s : BoardSeat) → IsOne i s → IsHere b i s
  here_of i s (inl a) = (comes.seats i s a.0).here
  here_of i s (inr a) = subst (λ (n : ℕ). IsHere b n s) (sym a.0)
      (subst (λ (x : BoardSeat). IsHere b (length names) x) a.1 comes.keys.here)

  pub here_at : (i : ℕ) (s : BoardSeat) → slice_get seats i ≡ Some s → IsHere b i s
  here_at i s at = here_of i s (which i s at)

  pub all_here : EachSeat (λ s. IsHere b (number_of s) s) seats
  all_here = each_seat (λ s. IsHere b (number_of s) s) seats
      (λ i s at. subst (λ (n : ℕ). IsHere b n s) (sym (here_at i s at).number) (here_at i s at))

  seat_count : length seats ≡ length names + 1
  seat_count =
      let size = ap (λ (l : List BoardSeat). length l) are in
      let more = length-append back.seats.items (key ∷ []) in
      let count = operators_count in omega (arith, size, more, count)

  pub has_all : seats_of b ≡ length names + 1 → HasAll (seats_of b) seats
  has_all of_all = λ k lt.
      let size = seat_count in
      let s = there seats k (omega (arith, size, of_all, lt)) in
      (k, s.0, s.1, (here_at k s.0 s.1).number)

  -- ---- what the seats played

  since : (events : List VtEvent)
      → MakesAll (length names) events hand.keys.seat key
      → MadeSince (history_of (opening_board b)) key events
  since events own = made_since (history_of (opening_board b)) (length names) events hand.keys.seat
      key fresh.here.number comes.keys.here.number fresh.seen own

  played_operator : ((i : ℕ) (s : BoardSeat)
      → slice_get back.seats.items i ≡ Some s
      → OperatorPlayed (opening_board b).consoles names phase (history_of (opening_board b)) s)
      → (i : ℕ) (s : BoardSeat)
      → number_of s < length names
      → IsHere b i s
      → IsOne i s
      → OperatorPlayed (opening_board b).consoles names phase (history_of (opening_board b)) s
  played_operator operated i s below here (inl a) = operated i s a.0
  played_operator operated i s below here (inr a) =
      let is = here.number in let n = a.0 in absurd (omega (arith, below, is, n))

  played_keys : (keys : PlaysKeys stage hand.keys back.keys.hand) → (i : ℕ) (s : BoardSeat)
      → number_of s ≡ length names
      → IsHere b i s
      → IsOne i s
      → MadeSince (history_of (opening_board b)) s (key_events stage.first keys.went)
  played_keys keys i s at here (inl a) =
      let is = here.number in let below = a.1 in absurd (omega (arith, at, is, below))
  played_keys keys i s at here (inr a) = subst
      (λ (x : BoardSeat). MadeSince (history_of (opening_board b)) x (key_events stage.first keys.went)) a.1
      (since (key_events stage.first keys.went) keys.makes)

  pub seats_played : seats_of b ≡ length names + 1
      → ((i : ℕ) (s : BoardSeat)
      → slice_get back.seats.items i ≡ Some s
      → OperatorPlayed (opening_board b).consoles names phase (history_of (opening_board b)) s)
      → (keys : PlaysKeys stage hand.keys back.keys.hand)
      → SeatsPlayed names phase stage.first keys.went b seats
  seats_played of_all operated keys = record {
    count = of_all;
    operators = λ i s at below. played_operator operated i s below (here_at i s at) (which i s at);
    keyboard = λ i s at is. played_keys keys i s is (here_at i s at) (which i s at);
    each_key = keys.each_key;
  }

  -- ---- how many entries they made

  keys_asked : length phase.keys ≤ asked_of names (opening_board b).consoles phase (number_of key)
  keys_asked =
      let number = comes.keys.here.number in
      let e : (if length names == number_of key then length phase.keys else 0) ≡ length phase.keys =
      ap (λ (c : Bool). if c then length phase.keys else 0) (eq-eqb (length names) (number_of key) (sym number)) in
      omega (arith, e)

  -- not all keys were pressed
  stopped_keys : PlaysFirstKeys stage hand.keys back.keys.hand → (d : Denied)
      → IsDeniedAt b key d
      → IsStoppedAt b names phase key d
  stopped_keys first d found =
      let keys = first.2 in
      record {
        is = found;
        events = key_events stage.first keys.went;
        made = since (key_events stage.first keys.went) keys.makes;
        fewer =
            let n = key_count stage.first keys.went in
            let each = keys.each_key in
            let less = first.1 in
            let some = length-take-le first.0 phase.keys (omega (arith, less)) in
            let asked = keys_asked in
            omega (arith, n, each, less, some, asked);
      }

  begun_keys : HasBegun names phase b key
  begun_keys =
      either_way back.keys.result (PlaysKeys stage hand.keys back.keys.hand)
      (PlaysFirstKeys stage hand.keys back.keys.hand) (HasBegun names phase b key) comes.keys.ok comes.keys.err
      (λ keys. record {
        events = key_events stage.first keys.went;
        made = since (key_events stage.first keys.went) keys.makes;
        few =
            let n = key_count stage.first keys.went in
            let each = keys.each_key in
            let asked = keys_asked in
            omega (arith, n, each, asked);
      })
      (λ first.
      let keys = first.2 in
      record {
        events = key_events stage.first keys.went;
        made = since (key_events stage.first keys.went) keys.makes;
        few =
            let n = key_count stage.first keys.went in
            let each = keys.each_key in
            let less = first.1 in
            let some = length-take-le first.0 phase.keys (omega (arith, less)) in
            let asked = keys_asked in
            omega (arith, n, each, less, some, asked);
      })

  begun_of : (i : ℕ) (s : BoardSeat) → IsOne i s → HasBegun names phase b s
  begun_of i s (inl a) =
      let began = (comes.seats i s a.0).began in
      let few = began.few in
      record { events = began.events; made = began.made; few = omega (arith, few) }
  begun_of i s (inr a) = subst (λ (x : BoardSeat). HasBegun names phase b x) a.1 begun_keys

  pub all_begun : EachSeat (HasBegun names phase b) seats
  all_begun = each_seat (HasBegun names phase b) seats (λ i s at. begun_of i s (which i s at))

  -- ---- what was denied

  some_operator : (d : Denied) → SomeDenied b names phase back.seats.items d → SomeDenied b names phase seats d
  some_operator d h = record {
    place = h.place;
    seat = h.seat;
    at =
        ap (λ (l : List BoardSeat). slice_get l h.place) are
        ∙ get_append back.seats.items (key ∷ []) h.place h.seat h.at;
    known = h.known;
    stopped = h.stopped;
  }

  the_keyboard : (d : Denied) → IsStoppedAt b names phase key d → SomeDenied b names phase seats d
  the_keyboard d h = record {
    place = length back.seats.items;
    seat = key;
    at =
        ap (λ (l : List BoardSeat). slice_get l (length back.seats.items)) are
        ∙ get_past back.seats.items (key ∷ []) (length back.seats.items) 0 (omega arith);
    known = let is = comes.keys.here.number in omega (arith, is);
    stopped = h;
  }

  pub some_denied : IfErr (first_denied back.operated back.keys.result) (SomeDenied b names phase seats)
  some_denied = err_first back.operated back.keys.result (SomeDenied b names phase back.seats.items)
      (IsStoppedAt b names phase key) (SomeDenied b names phase seats) comes.denied
      (err_so back.keys.result (PlaysFirstKeys stage hand.keys back.keys.hand) (IsDeniedAt b key)
      (IsStoppedAt b names phase key) comes.keys.err comes.keys.denied stopped_keys) some_operator the_keyboard
