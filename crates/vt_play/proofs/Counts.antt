-- How many entries a board has after phases, and how many an account has.
use Rattle.std.proofs.Common.{◌≡◌, ◌≢◌, ◌⊎◌, inl, inr, cond, eq-eqb, ne_eqb, ℕ, zero, suc, ◌+◌, ◌<◌, ◌≤◌, ◌==◌}
use Rattle.std.proofs.Common.{Bool, true, false, List, [], ◌∷◌, ◌++◌, Some, add-one, flat_map}
use Rattle.std.proofs.Common.{if◌then◌else◌, length, map, take, refl, sym, subst, ap, ◌∙◌, arith, length-append}
use Rattle.std.specs.Prelude.{slice_get}
use Rattle.std.specs.List.{range_with_len}
use Rattle.std.proofs.lemmas.Bool.{cases_order}
use Rattle.std.proofs.lemmas.List.{length-map}
use Rattle.std.proofs.lemmas.List.Elements.{filter-append}
use Rattle.std.proofs.lemmas.List.FromFn.{length-range_with_len}
use Rattle.tty_calls.specs.declared.answers.Denied.{Denied}
use Rattle.port_cell.specs.declared.kept.Stamped.{Stamped}
use Rattle.port_cell.specs.Entries.{GoesOn, entries_by}
use Rattle.port_cell.specs.Knowledge.{number_of}
use Rattle.port_cell.specs.Seats.{EachSeat, HasAll}
use Rattle.vt_consoles.specs.declared.entries.VtEntry.{VtEntry}
use Rattle.vt_consoles.specs.declared.entries.VtEvent.{VtEvent}
use Rattle.vt_consoles.specs.declared.entries.VtEvent.TheVariants.{Activate, State, Key}
use Rattle.vt_consoles.specs.declared.shared.SharedBoard.{SharedBoard}
use Rattle.vt_consoles.specs.Boards.{BoardState}
use Rattle.vt_consoles.specs.Histories.{history_of, stamped}
use Rattle.vt_consoles.specs.Seats.{BoardSeat, HasAllOf}
use Rattle.vt_consoles.specs.Shared.{opening_board, seats_of}
use Rattle.vt_text.specs.declared.sessions.OpCall.{OpCall}
use Rattle.vt_text.specs.Sessions.{PlainVtPhase, PlainVtSession}
use Rattle.vt_account.specs.Account.{HasParts, IsPhasePart, granted, call_in, calls_at, calls_by, index_in, indexes_by}
use Rattle.vt_account.specs.Seats.{operator_names}
use Rattle.vt_threads.specs.Counting.{count_below}
use Rattle.vt_keyboard.specs.Phases.{MadeBy, PhaseMade, key_events}
use Rattle.vt_threads.proofs.Counting.{all_counted}
use Rattle.vt_play.specs.Stages.{SomeDenied, asked_of}
use Rattle.vt_play.specs.Phases.{HasBegun, asked_below, asked_in}
use Rattle.vt_play.proofs.Events.{events_few, key_count}
use Rattle.vt_play.proofs.Listing.{some_is}

-- ---- a history that has gone on

count_more : (n : ℕ) (xs ys : List (Stamped VtEvent)) → count_below n (xs ++ ys) ≡ count_below n xs + count_below n ys
count_more zero xs ys = refl
count_more (suc n) xs ys =
    let r = count_more n xs ys in
    let e =
    ap (λ (l : List (Stamped VtEvent)). length l) (filter-append (λ (x : Stamped VtEvent). x.seat == n) xs ys) in
    let s = length-append (entries_by n xs) (entries_by n ys) in
    omega (arith, r, e, s)

-- a seat made no more than was asked of it
pub record MadeFew (asked n : ℕ) (xs ys : List (Stamped VtEvent)) : Type 0 where
  pub events : List VtEvent
  pub made : MadeBy n xs ys events
  pub few : length events ≤ asked

made_length : (most n : ℕ) (xs ys : List (Stamped VtEvent))
    → MadeFew most n xs ys
    → length (entries_by n ys) ≤ length (entries_by n xs) + most
made_length most n xs ys one =
    let e = ap (λ (l : List (Stamped VtEvent)). length l) one.made in
    let s = length-append (entries_by n xs) (map (stamped n) one.events) in
    let k = length-map one.events (stamped n) in
    let few = one.few in
    omega (arith, e, s, k, few)

module _ (names : List (List ℕ)) (consoles : ℕ) (phase : PlainVtPhase) (xs ys : List (Stamped VtEvent)) where
  count_few : (n : ℕ)
      → ((m : ℕ) → m < n → MadeFew (asked_of names consoles phase m) m xs ys)
      → count_below n ys ≤ count_below n xs + asked_below names consoles phase n
  count_few zero h = omega arith
  count_few (suc n) h =
      let r = count_few n (λ m lt. h m (omega (arith, lt))) in
      let one = made_length (asked_of names consoles phase n) n xs ys (h n (omega arith)) in
      omega (arith, r, one)

  -- .. and where one of the seats made less than that, so did all together
  count_less : (n : ℕ)
      → ((m : ℕ) → m < n → MadeFew (asked_of names consoles phase m) m xs ys)
      → (k most : ℕ)
      → k < n
      → MadeFew most k xs ys
      → most < asked_of names consoles phase k
      → count_below n ys < count_below n xs + asked_below names consoles phase n
  count_less zero h k most lt made less = absurd (omega (arith, lt))
  count_less (suc n) h k most lt made less = by_case (cases_order k n)
      (λ below. count_less n (λ m lt. h m (omega (arith, lt))) k most below made less)
    where
      last : k ≡ n → count_below (suc n) ys < count_below (suc n) xs + asked_below names consoles phase (suc n)
      last same =
          let r = count_few n (λ m lt. h m (omega (arith, lt))) in
          let one = made_length most n xs ys (subst (λ (m : ℕ). MadeFew most m xs ys) same made) in
          let fewer = subst (λ (m : ℕ). most < asked_of names consoles phase m) same less in
          omega (arith, r, one, fewer)

      by_case : (k ≡ n) ⊎ ((k < n) ⊎ (n < k))
          → (k < n → count_below n ys < count_below n xs + asked_below names consoles phase n)
          → count_below (suc n) ys < count_below (suc n) xs + asked_below names consoles phase (suc n)
      by_case (inl same) below_less = last same
      by_case (inr (inl below)) below_less =
          let r = below_less below in
          let one = made_length (asked_of names consoles phase n) n xs ys (h n (omega arith)) in
          omega (arith, r, one)
      by_case (inr (inr above)) below_less = absurd (omega (arith, lt, above))

-- a history goes on by what these seats make
history_length : (n : ℕ) (xs ys : List (Stamped VtEvent))
    → GoesOn (λ k. k < n) xs ys
    → length ys + count_below n xs ≡ length xs + count_below n ys
history_length n xs ys goes =
    let more = count_more n xs goes.0 in
    let same = ap (count_below n) goes.1 in
    let rest = all_counted n goes.0 goes.2 in
    let size = ap (λ (l : List (Stamped VtEvent)). length l) goes.1 in
    let s = length-append xs goes.0 in
    omega (arith, more, same, rest, size, s)

pub history_few : (names : List (List ℕ)) (consoles : ℕ) (phase : PlainVtPhase) (n : ℕ) (xs ys : List (Stamped VtEvent))
    → GoesOn (λ k. k < n) xs ys
    → ((m : ℕ) → m < n → MadeFew (asked_of names consoles phase m) m xs ys)
    → length ys ≤ length xs + asked_below names consoles phase n
history_few names consoles phase n xs ys goes h =
    let few = count_few names consoles phase xs ys n h in
    let size = history_length n xs ys goes in
    omega (arith, few, size)

pub board_length : (b : BoardState) → length (history_of b) ≡ length b.entries
board_length b = length-map b.entries (λ (e : VtEntry). stamped e.seat e.event)

-- ---- a phase that was played, and one of which a seat was denied an entry

pub at_seat : (P : BoardSeat → Type 0) (ss : List BoardSeat) (i : ℕ) (s : BoardSeat)
    → EachSeat P ss
    → slice_get ss i ≡ Some s
    → P s
at_seat P [] i s h at = absurd (cc)
at_seat P (x ∷ xs) zero s h at = subst P (some_is x s at) h.0
at_seat P (x ∷ xs) (suc i) s h at = at_seat P xs i s h.1 at

-- a seat was denied an entry, so that all seats made fewer than was asked of them
pub begun_less : (names : List (List ℕ)) (phase : PlainVtPhase) (b : SharedBoard) (seats : List BoardSeat)
    (w : BoardState) (denied : Denied)
    → HasAll (seats_of b) seats
    → GoesOn (λ k. k < seats_of b) (history_of (opening_board b)) (history_of w)
    → EachSeat (HasAllOf (history_of w)) seats
    → EachSeat (HasBegun names phase b) seats
    → seats_of b ≡ length names + 1
    → SomeDenied b names phase seats denied
    → length w.entries
    < length (opening_board b).entries + asked_below names (opening_board b).consoles phase (seats_of b)
begun_less names phase b seats w denied all goes each begun number some =
    let a = opening_board b in
    let made : (m : ℕ)
    → m < seats_of b
    → MadeFew (asked_of names a.consoles phase m) m (history_of a) (history_of w) =
    λ m lt.
    let found = all m lt in
    let s : BoardSeat = found.1 in
    let has = at_seat (HasAllOf (history_of w)) seats found.0 s each found.2 in
    let one = at_seat (HasBegun names phase b) seats found.0 s begun found.2 in
    subst (λ (k : ℕ). MadeFew (asked_of names a.consoles phase k) k (history_of a) (history_of w)) found.3
    (record { events = one.events; made = has.own ∙ one.made; few = one.few }) in
    let stopped = some.stopped in
    let has = at_seat (HasAllOf (history_of w)) seats some.place some.seat each some.at in
    let known = some.known in
    let less = count_less names a.consoles phase (history_of a) (history_of w) (seats_of b) made
    (number_of some.seat) (length stopped.events) (omega (arith, known, number))
    (record { events = stopped.events; made = has.own ∙ stopped.made; few = omega arith }) stopped.fewer in
    let size = history_length (seats_of b) (history_of a) (history_of w) goes in
    let x = board_length a in
    let y = board_length w in
    omega (arith, less, size, x, y)

by_place : (names : List (List ℕ)) (phase : PlainVtPhase) (first : ℕ) (went : List ℕ) (a w : BoardState)
    → PhaseMade names phase first went a w
    → (m : ℕ)
    → m < length names + 1
    → MadeFew (asked_of names a.consoles phase m) m (history_of a) (history_of w)
by_place names phase first went a w h m lt = by_case (cases_order m (length names))
  where
    operator : m < length names → MadeFew (asked_of names a.consoles phase m) m (history_of a) (history_of w)
    operator less =
        let o = h.operators m less in
        let each = events_few o.events in
        let calls = ap (λ (l : List OpCall). length l) o.answers in
        let keys = ap (λ (l : List ℕ). length l) o.no_keys in
        let few : length o.events ≤ length (flat_map (granted a.consoles) (calls_at names m phase)) =
        omega (arith, each, calls, keys) in
        record { events = o.events; made = o.made; few = omega (arith, few) }

    keyboard : MadeFew (asked_of names a.consoles phase (length names)) (length names) (history_of a) (history_of w)
    keyboard =
        let n = key_count first went in
        let each = h.each_key in
        let e : (if length names == length names then length phase.keys else 0) ≡ length phase.keys =
        ap (λ (c : Bool). if c then length phase.keys else 0) (eq-eqb (length names) (length names) refl) in
        record { events = key_events first went; made = h.keyboard; few = omega (arith, n, each, e) }

    by_case : (m ≡ length names) ⊎ ((m < length names) ⊎ (length names < m))
        → MadeFew (asked_of names a.consoles phase m) m (history_of a) (history_of w)
    by_case (inl same) = subst (λ (k : ℕ). MadeFew (asked_of names a.consoles phase k) k (history_of a) (history_of w))
        (sym same) keyboard
    by_case (inr (inl less)) = operator less
    by_case (inr (inr more)) = absurd (omega (arith, lt, more))

pub made_few : (names : List (List ℕ)) (phase : PlainVtPhase) (first : ℕ) (went : List ℕ) (a w : BoardState)
    → PhaseMade names phase first went a w
    → length w.entries ≤ length a.entries + asked_below names a.consoles phase (length names + 1)
made_few names phase first went a w h =
    let few = history_few names a.consoles phase (length names + 1) (history_of a) (history_of w) h.goes_on
    (by_place names phase first went a w h) in
    let x = board_length a in
    let y = board_length w in
    omega (arith, few, x, y)

-- ---- the first phases

asked_one : (session : PlainVtSession) (phases : List PlainVtPhase) (k : ℕ) (phase : PlainVtPhase)
    → slice_get phases k ≡ Some phase
    → asked_in session (take (suc k) phases)
    ≡ asked_in session (take k phases)
    + asked_below (operator_names session.phases) session.calls.ports phase (length (operator_names session.phases) + 1)
asked_one session [] k phase at = absurd (cc)
asked_one session (x ∷ xs) zero phase at =
    let same = ap (λ (y : PlainVtPhase).
    asked_below (operator_names session.phases) session.calls.ports y (length (operator_names session.phases) + 1))
    (some_is x phase at) in
    omega (arith, same)
asked_one session (x ∷ xs) (suc k) phase at = let r = asked_one session xs k phase at in omega (arith, r)

pub asked_more : (session : PlainVtSession) (phases : List PlainVtPhase) (k : ℕ) (phase : PlainVtPhase)
    → slice_get phases k ≡ Some phase
    → asked_in session (take (k + 1) phases)
    ≡ asked_in session (take k phases)
    + asked_below (operator_names session.phases) session.calls.ports phase (length (operator_names session.phases) + 1)
asked_more session phases k phase at =
    ap (λ (n : ℕ). asked_in session (take n phases)) (add-one k) ∙ asked_one session phases k phase at

pub asked_front : (session : PlainVtSession) (phases : List PlainVtPhase) (k : ℕ)
    → asked_in session (take k phases) ≤ asked_in session phases
asked_front session [] zero = omega arith
asked_front session [] (suc k) = omega arith
asked_front session (x ∷ xs) zero = omega arith
asked_front session (x ∷ xs) (suc k) = let r = asked_front session xs k in omega (arith, r)

-- ---- an account

abbrev stamps : List VtEntry → List (Stamped VtEvent)
stamps part = map (λ (e : VtEntry). stamped e.seat e.event) part

one_event : (e : VtEvent) → length (call_in e) + length (index_in e) ≡ 1
one_event (Activate n) = refl
one_event (State n) = refl
one_event (Key index n) = refl

seat_step : (m : ℕ) (e : VtEntry) (part : List VtEntry) (t : Bool)
    → (e.seat == m) ≡ t
    → length (entries_by m (stamps part)) ≡ length (calls_by m part) + length (indexes_by m part)
    → length (entries_by m (stamps (e ∷ part))) ≡ length (calls_by m (e ∷ part)) + length (indexes_by m (e ∷ part))
seat_step m e part true is r =
    let one = one_event e.event in
    let a = length-append (call_in e.event) (calls_by m part) in
    let b = length-append (index_in e.event) (indexes_by m part) in
    let x = ap
    (λ (c : Bool). length (cond c (stamped e.seat e.event ∷ entries_by m (stamps part)) (entries_by m (stamps part))))
    is in
    let y = ap (λ (c : Bool). length ((if c then call_in e.event else []) ++ calls_by m part)) is in
    let z = ap (λ (c : Bool). length ((if c then index_in e.event else []) ++ indexes_by m part)) is in
    omega (arith, x, y, z, r, one, a, b)
seat_step m e part false is r =
    let x = ap
    (λ (c : Bool). length (cond c (stamped e.seat e.event ∷ entries_by m (stamps part)) (entries_by m (stamps part))))
    is in
    let y = ap (λ (c : Bool). length ((if c then call_in e.event else []) ++ calls_by m part)) is in
    let z = ap (λ (c : Bool). length ((if c then index_in e.event else []) ++ indexes_by m part)) is in
    omega (arith, x, y, z, r)

by_seat : (m : ℕ) (part : List VtEntry)
    → length (entries_by m (stamps part)) ≡ length (calls_by m part) + length (indexes_by m part)
by_seat m [] = refl
by_seat m (e ∷ part) = seat_step m e part (e.seat == m) refl (by_seat m part)

if_length : (t : Bool) (first n : ℕ) → length (if t then range_with_len first n else []) ≡ (if t then n else 0)
if_length true first n = length-range_with_len first n
if_length false first n = refl

none_counted : (n : ℕ) → count_below n [] ≡ 0
none_counted zero = refl
none_counted (suc n) = let rest = none_counted n in omega (arith, rest)

-- an entry is one seat's at most
seat_counted : (n : ℕ) (x : Stamped VtEvent) (xs : List (Stamped VtEvent))
    → (n ≤ x.seat → count_below n (x ∷ xs) ≡ count_below n xs) × (count_below n (x ∷ xs) ≤ count_below n xs + 1)
seat_counted zero x xs = ((λ h. refl), omega arith)
seat_counted (suc n) x xs = by_case (seat_counted n x xs) (cases_order x.seat n)
  where
    own : x.seat ≡ n → length (entries_by n (x ∷ xs)) ≡ suc (length (entries_by n xs))
    own same = ap (λ c. length (cond c (x ∷ entries_by n xs) (entries_by n xs))) (eq-eqb x.seat n same)

    other : x.seat ≢ n → length (entries_by n (x ∷ xs)) ≡ length (entries_by n xs)
    other ne = ap (λ c. length (cond c (x ∷ entries_by n xs) (entries_by n xs))) (ne_eqb x.seat n ne)

    by_case : (n ≤ x.seat → count_below n (x ∷ xs) ≡ count_below n xs) × (count_below n (x ∷ xs) ≤ count_below n xs + 1)
        → (x.seat ≡ n) ⊎ ((x.seat < n) ⊎ (n < x.seat))
        → (suc n ≤ x.seat → count_below (suc n) (x ∷ xs) ≡ count_below (suc n) xs)
        × (count_below (suc n) (x ∷ xs) ≤ count_below (suc n) xs + 1)
    by_case r (inl same) = (
      (λ h. absurd (omega (arith, h, same))),
      (let e = r.0 (omega (arith, same)) in let o = own same in omega (arith, e, o)),
    )
    by_case r (inr (inl less)) = (
      (λ h. absurd (omega (arith, h, less))),
      (let e = r.1 in let o = other (λ e. absurd (omega (arith, e, less))) in omega (arith, e, o)),
    )
    by_case r (inr (inr more)) =
        let e = r.0 (omega (arith, more)) in
        let o = other (λ e. absurd (omega (arith, e, more))) in
        ((λ h. omega (arith, e, o)), omega (arith, e, o))

count_within : (n : ℕ) (xs : List (Stamped VtEvent)) → count_below n xs ≤ length xs
count_within n [] = let none = none_counted n in omega (arith, none)
count_within n (x ∷ xs) = let r = count_within n xs in let one = (seat_counted n x xs).1 in omega (arith, r, one)

part_asked : (session : PlainVtSession) (phase : PlainVtPhase) (first : ℕ) (part : List VtEntry)
    → IsPhasePart session phase first part
    → (n : ℕ)
    → asked_below (operator_names session.phases) session.calls.ports phase n ≡ count_below n (stamps part)
part_asked session phase first part h zero = refl
part_asked session phase first part h (suc n) =
    let r = part_asked session phase first part h n in
    let seat = by_seat n part in
    let calls = ap (λ (l : List OpCall). length l) (h.calls n) in
    let keys =
    ap (λ (l : List ℕ). length l) (h.keys n)
    ∙ if_length (length (operator_names session.phases) == n) first (length phase.keys) in
    omega (arith, r, seat, calls, keys)

part_within : (session : PlainVtSession) (phase : PlainVtPhase) (first : ℕ) (part : List VtEntry)
    → IsPhasePart session phase first part
    → (n : ℕ)
    → asked_below (operator_names session.phases) session.calls.ports phase n ≤ length part
part_within session phase first part h n =
    let same = part_asked session phase first part h n in
    let few = count_within n (stamps part) in
    let size = length-map part (λ (e : VtEntry). stamped e.seat e.event) in
    omega (arith, same, few, size)

pub account_asked : (session : PlainVtSession) (first : ℕ) (phases : List PlainVtPhase) (entries : List VtEntry)
    → HasParts session first phases entries
    → asked_in session phases ≤ length entries
account_asked session first [] entries h = omega arith
account_asked session first (phase ∷ phases) entries h =
    let r = account_asked session (first + length phase.keys) phases h.rest h.goes_on in
    let one = part_within session phase first h.part h.is_part (length (operator_names session.phases) + 1) in
    let size = ap (λ (l : List VtEntry). length l) h.parts in
    let s = length-append h.part h.rest in
    omega (arith, r, one, size, s)
