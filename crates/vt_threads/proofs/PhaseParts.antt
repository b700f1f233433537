-- What the seats of a board made in a phase is its part of the account.
use Rattle.std.proofs.Common.{◌≡◌, ◌≢◌, ◌⊎◌, inl, inr, ℕ, ◌+◌, ◌<◌, ◌≤◌, ◌==◌, Bool, true, false, cond}
use Rattle.std.proofs.Common.{if◌then◌else◌, List, [], ◌∷◌, ◌++◌, Option, None, Some, map, flat_map, drop}
use Rattle.std.proofs.Common.{length, refl, sym, ap, subst, ◌∙◌, arith, append-nil, append_assoc, eq-eqb, ne_eqb}
use Rattle.std.specs.List.{range_with_len}
use Rattle.std.proofs.lemmas.List.{append_cancel_left, map-append}
use Rattle.std.proofs.lemmas.List.Quantifiers.{position-Some}
use Rattle.std.proofs.lemmas.Bool.{cases_order}
use Rattle.tty_calls.specs.Sessions.{number_in}
use Rattle.port_cell.specs.declared.kept.Stamped.{Stamped}
use Rattle.port_cell.specs.Entries.{Each, entries_by}
use Rattle.port_cell.proofs.OwnEntries.{entries_by-append, entries_by_none}
use Rattle.vt_consoles.specs.declared.entries.VtEntry.{VtEntry}
use Rattle.vt_consoles.specs.declared.entries.VtEvent.{VtEvent}
use Rattle.vt_consoles.specs.declared.entries.VtEvent.TheVariants.{Activate, State, Key}
use Rattle.vt_consoles.specs.Boards.{BoardState}
use Rattle.vt_consoles.specs.Histories.{history_of, stamped}
use Rattle.vt_text.specs.declared.sessions.OpCall.{OpCall}
use Rattle.vt_text.specs.Sessions.{PlainOperator, PlainVtPhase, PlainVtSession}
use Rattle.vt_account.specs.Seats.{operator_names}
use Rattle.vt_account.specs.Account.{granted, call_in, index_in, calls_at, is_seat, IsPhasePart, HasParts}
use Rattle.vt_account.specs.Keyed.{console_in, consoles_in}
use Rattle.vt_keyboard.specs.Phases.{MadeBy, key_events, PhaseMade, AddsPart, HasPartsUpTo}

-- ---- entries as the history has them

abbrev entry_of : Stamped VtEvent → VtEntry
entry_of x = record { seat = x.seat; event = x.what }

abbrev what_of : Stamped VtEvent → VtEvent
what_of x = x.what

entries_back : (entries : List VtEntry)
    → map (λ (x : Stamped VtEvent). entry_of x) (map (λ (e : VtEntry). stamped e.seat e.event) entries) ≡ entries
entries_back [] = refl
entries_back (e ∷ entries) = ap (λ (l : List VtEntry). e ∷ l) (entries_back entries)

whats_back : (n : ℕ) (events : List VtEvent)
    → map (λ (x : Stamped VtEvent). what_of x) (map (stamped n) events) ≡ events
whats_back n [] = refl
whats_back n (e ∷ events) = ap (λ (l : List VtEvent). e ∷ l) (whats_back n events)

abbrev part_of : List (Stamped VtEvent) → List VtEntry
part_of rest = map (λ (x : Stamped VtEvent). entry_of x) rest

abbrev events_by : ℕ → List (Stamped VtEvent) → List VtEvent
events_by n rest = map (λ (x : Stamped VtEvent). what_of x) (entries_by n rest)

added_part : (a b : BoardState) (rest : List (Stamped VtEvent))
    → history_of b ≡ history_of a ++ rest
    → b.entries ≡ a.entries ++ part_of rest
added_part a b rest h =
    sym (entries_back b.entries)
    ∙ ap (λ (l : List (Stamped VtEvent)). part_of l) h
    ∙ map-append (λ (x : Stamped VtEvent). entry_of x) (history_of a) rest
    ∙ ap (λ (l : List VtEntry). l ++ part_of rest) (entries_back a.entries)

-- what the entries of one seat tell
pick : {A : Type 0} (F : VtEvent → List A) (b : Bool) (x : Stamped VtEvent) (xs : List (Stamped VtEvent))
    → (if b then F x.what else []) ++ flat_map F (map (λ (y : Stamped VtEvent). what_of y) xs)
    ≡ flat_map F (map (λ (y : Stamped VtEvent). what_of y) (cond b (x ∷ xs) xs))
pick F true x xs = refl
pick F false x xs = refl

told_by : {A : Type 0} (F : VtEvent → List A) (n : ℕ) (rest : List (Stamped VtEvent))
    → flat_map (λ (e : VtEntry). if e.seat == n then F e.event else []) (part_of rest) ≡ flat_map F (events_by n rest)
told_by F n [] = refl
told_by {A} F n (x ∷ xs) =
    ap (λ (l : List A). (if x.seat == n then F x.what else []) ++ l) (told_by F n xs)
    ∙ pick F (x.seat == n) x (entries_by n xs)

-- ---- what each seat made

made_rest : (n : ℕ) (xs ys rest : List (Stamped VtEvent)) (events : List VtEvent)
    → ys ≡ xs ++ rest
    → MadeBy n xs ys events
    → events_by n rest ≡ events
made_rest n xs ys rest events e made =
    ap (λ (l : List (Stamped VtEvent)). map (λ (x : Stamped VtEvent). what_of x) l)
    (append_cancel_left (entries_by n xs) (entries_by n rest) (map (stamped n) events)
    (sym (ap (entries_by n) e ∙ entries_by-append n xs rest) ∙ made))
    ∙ whats_back n events

no_seat : (n m : ℕ) (rest : List (Stamped VtEvent)) → m ≤ n → Each (λ k. k < m) rest → Each (λ k. k ≢ n) rest
no_seat n m [] h each = tt
no_seat n m (x ∷ xs) h each = ((λ e. absurd (omega (arith, e, each.0, h))), no_seat n m xs h each.1)

none_rest : (n m : ℕ) (rest : List (Stamped VtEvent)) → m ≤ n → Each (λ k. k < m) rest → events_by n rest ≡ []
none_rest n m rest h each = ap (λ (l : List (Stamped VtEvent)). map (λ (x : Stamped VtEvent). what_of x) l)
    (entries_by_none n rest (no_seat n m rest h each))

-- no name has the number of a seat beyond the names
not_a_seat : (o : Option ℕ) (n m : ℕ) → ((i : ℕ) → o ≡ Some i → i < m) → m ≤ n → is_seat o n ≡ false
not_a_seat None n m h le = refl
not_a_seat (Some i) n m h le = ne_eqb i n (λ e. absurd (omega (arith, e, h i refl, le)))

none_at : (names : List (List ℕ)) (n : ℕ) (operators : List PlainOperator)
    → length names ≤ n
    → flat_map (λ (operator : PlainOperator). if is_seat (number_in names operator.name) n then operator.calls else [])
    operators ≡ []
none_at names n [] le = refl
none_at names n (x ∷ operators) le =
    ap (λ (b : Bool).
    (if b then x.calls else [])
    ++ flat_map (λ (operator : PlainOperator). if is_seat (number_in names operator.name) n then operator.calls else [])
    operators)
    (not_a_seat (number_in names x.name) n (length names) (λ i e. (position-Some _ names i [] e).0) le)
    ∙ none_at names n operators le

-- ---- keys

keys_index : (first : ℕ) (went : List ℕ)
    → flat_map index_in (key_events first went) ≡ range_with_len first (length went)
keys_index first [] = refl
keys_index first (n ∷ went) = ap (λ (l : List ℕ). first ∷ l) (keys_index (first + 1) went)

keys_call : (first : ℕ) (went : List ℕ) → flat_map call_in (key_events first went) ≡ []
keys_call first [] = refl
keys_call first (n ∷ went) = keys_call (first + 1) went

keys_console : (first : ℕ) (went : List ℕ) → flat_map console_in (key_events first went) ≡ went
keys_console first [] = refl
keys_console first (n ∷ went) = ap (λ (l : List ℕ). n ∷ l) (keys_console (first + 1) went)

no_console : (e : VtEvent) → index_in e ≡ [] → console_in e ≡ []
no_console (Activate n) h = refl
no_console (State n) h = refl
no_console (Key index n) h = absurd (omega (arith, ap length h))

left_empty : {A : Type 0} (xs ys : List A) → xs ++ ys ≡ [] → xs ≡ []
left_empty [] ys h = refl
left_empty (x ∷ xs) ys h = absurd (omega (arith, ap length h))

right_empty : {A : Type 0} (xs ys : List A) → xs ++ ys ≡ [] → ys ≡ []
right_empty [] ys h = h
right_empty (x ∷ xs) ys h = absurd (omega (arith, ap length h))

-- nobody but this seat has keys
abbrev Alone : ℕ → List (Stamped VtEvent) → Type 0
Alone n rest = (k : ℕ) → k ≢ n → flat_map index_in (events_by k rest) ≡ []

rest_none : (b : Bool) (x : Stamped VtEvent) (xs : List (Stamped VtEvent))
    → flat_map index_in (map (λ (y : Stamped VtEvent). what_of y) (cond b (x ∷ xs) xs)) ≡ []
    → flat_map index_in (map (λ (y : Stamped VtEvent). what_of y) xs) ≡ []
rest_none true x xs h =
    right_empty (index_in x.what) (flat_map index_in (map (λ (y : Stamped VtEvent). what_of y) xs)) h
rest_none false x xs h = h

front_none : (b : Bool) (x : Stamped VtEvent) (xs : List (Stamped VtEvent)) → b ≡ true
    → flat_map index_in (map (λ (y : Stamped VtEvent). what_of y) (cond b (x ∷ xs) xs)) ≡ [] → index_in x.what ≡ []
front_none true x xs e h =
    left_empty (index_in x.what) (flat_map index_in (map (λ (y : Stamped VtEvent). what_of y) xs)) h
front_none false x xs e h = absurd (cc)

consoles_one : (n : ℕ) (b : Bool) (x : Stamped VtEvent) (xs : List (Stamped VtEvent)) (l : List ℕ)
    → (b ≡ false → console_in x.what ≡ [])
    → l ≡ flat_map console_in (map (λ (y : Stamped VtEvent). what_of y) xs)
    → console_in x.what ++ l ≡ flat_map console_in (map (λ (y : Stamped VtEvent). what_of y) (cond b (x ∷ xs) xs))
consoles_one n true x xs l none e = ap (λ (r : List ℕ). console_in x.what ++ r) e
consoles_one n false x xs l none e = ap (λ (r : List ℕ). r ++ l) (none refl) ∙ e

not_same : (i n : ℕ) → (i == n) ≡ false → i ≢ n
not_same i n h e = absurd (let t : (i == n) ≡ true = eq-eqb i n e in cc)

consoles_are : (n : ℕ) (rest : List (Stamped VtEvent))
    → Alone n rest
    → consoles_in (part_of rest) ≡ flat_map console_in (events_by n rest)
consoles_are n [] h = refl
consoles_are n (x ∷ xs) h =
    consoles_one n (x.seat == n) x (entries_by n xs) (consoles_in (part_of xs))
    (λ f. no_console x.what (front_none (x.seat == x.seat) x (entries_by x.seat xs) (eq-eqb x.seat x.seat refl)
    (h x.seat (not_same x.seat n f))))
    (consoles_are n xs (λ k ne. rest_none (x.seat == k) x (entries_by k xs) (h k ne)))

-- ---- a phase

module _ (session : PlainVtSession) (phase : PlainVtPhase) (first : ℕ) (went : List ℕ) (a b : BoardState)
    (same : a.consoles ≡ session.calls.ports) (h : PhaseMade (operator_names session.phases) phase first went a b) where
  abbrev names : List (List ℕ)
  names = operator_names session.phases

  abbrev m : ℕ
  m = length names

  abbrev rest : List (Stamped VtEvent)
  rest = h.goes_on.0

  keys_made : events_by m rest ≡ key_events first went
  keys_made = made_rest m (history_of a) (history_of b) rest (key_events first went) h.goes_on.1 h.keyboard

  operator_made : (n : ℕ) (lt : n < m) → events_by n rest ≡ (h.operators n lt).events
  operator_made n lt =
      made_rest n (history_of a) (history_of b) rest (h.operators n lt).events h.goes_on.1 (h.operators n lt).made

  nobody : (n : ℕ) → m + 1 ≤ n → events_by n rest ≡ []
  nobody n le = none_rest n (m + 1) rest le h.goes_on.2

  indexes : (n : ℕ)
      → (m ≡ n) ⊎ ((m < n) ⊎ (n < m))
      → flat_map index_in (events_by n rest) ≡ (if m == n then range_with_len first (length phase.keys) else [])
  indexes n (inl e) =
      ap (λ (k : ℕ). flat_map index_in (events_by k rest)) (sym e)
      ∙ ap (λ (l : List VtEvent). flat_map index_in l) keys_made
      ∙ keys_index first went
      ∙ ap (λ (k : ℕ). range_with_len first k) h.each_key
      ∙ ap (λ (t : Bool). if t then range_with_len first (length phase.keys) else []) (sym (eq-eqb m n e))
  indexes n (inr (inl lt)) =
      ap (λ (l : List VtEvent). flat_map index_in l) (nobody n (omega (arith, lt)))
      ∙ ap (λ (t : Bool). if t then range_with_len first (length phase.keys) else [])
      (sym (ne_eqb m n (λ e. absurd (omega (arith, e, lt)))))
  indexes n (inr (inr lt)) =
      ap (λ (l : List VtEvent). flat_map index_in l) (operator_made n lt)
      ∙ (h.operators n lt).no_keys
      ∙ ap (λ (t : Bool). if t then range_with_len first (length phase.keys) else [])
      (sym (ne_eqb m n (λ e. absurd (omega (arith, e, lt)))))

  none_for : (n : ℕ) → m ≤ n → flat_map (granted session.calls.ports) (calls_at names n phase) ≡ []
  none_for n le =
      ap (λ (l : List OpCall). flat_map (granted session.calls.ports) l) (none_at names n phase.operators le)

  calls : (n : ℕ)
      → (m ≡ n) ⊎ ((m < n) ⊎ (n < m))
      → flat_map call_in (events_by n rest) ≡ flat_map (granted session.calls.ports) (calls_at names n phase)
  calls n (inl e) =
      ap (λ (k : ℕ). flat_map call_in (events_by k rest)) (sym e)
      ∙ ap (λ (l : List VtEvent). flat_map call_in l) keys_made
      ∙ keys_call first went
      ∙ sym (none_for n (omega (arith, e)))
  calls n (inr (inl lt)) =
      ap (λ (l : List VtEvent). flat_map call_in l) (nobody n (omega (arith, lt)))
      ∙ sym (none_for n (omega (arith, lt)))
  calls n (inr (inr lt)) =
      ap (λ (l : List VtEvent). flat_map call_in l) (operator_made n lt)
      ∙ (h.operators n lt).answers
      ∙ ap (λ (k : ℕ). flat_map (granted k) (calls_at names n phase)) same

  alone : (n : ℕ) → n ≢ m → (m ≡ n) ⊎ ((m < n) ⊎ (n < m)) → flat_map index_in (events_by n rest) ≡ []
  alone n ne (inl e) = absurd (ne (sym e))
  alone n ne (inr (inl lt)) = ap (λ (l : List VtEvent). flat_map index_in l) (nobody n (omega (arith, lt)))
  alone n ne (inr (inr lt)) =
      ap (λ (l : List VtEvent). flat_map index_in l) (operator_made n lt) ∙ (h.operators n lt).no_keys

  pub adds_part : AddsPart session phase first went a b
  adds_part = record {
    part = part_of rest;
    added = added_part a b rest h.goes_on.1;
    is_part = record {
      keys = λ n. told_by index_in n rest ∙ indexes n (cases_order m n);
      calls = λ n. told_by call_in n rest ∙ calls n (cases_order m n);
    };
    keys_went =
        consoles_are m rest (λ n ne. alone n ne (cases_order m n))
        ∙ ap (λ (l : List VtEvent). flat_map console_in l) keys_made
        ∙ keys_console first went;
  }

-- ---- phases

pub parts_none : (session : PlainVtSession) → HasPartsUpTo session 0 0 []
parts_none session others h = h

pub parts_more : (session : PlainVtSession) (k first : ℕ) (phase : PlainVtPhase) (entries part : List VtEntry)
    → drop k session.phases ≡ phase ∷ drop (k + 1) session.phases
    → HasPartsUpTo session k first entries
    → IsPhasePart session phase first part
    → HasPartsUpTo session (k + 1) (first + length phase.keys) (entries ++ part)
parts_more session k first phase entries part e h is others more =
    subst (λ (l : List VtEntry). HasParts session 0 session.phases l) (sym (append_assoc entries part others))
    (h (part ++ others) (subst (λ (l : List PlainVtPhase). HasParts session first l (part ++ others)) (sym e)
    (record { part = part; rest = others; parts = refl; is_part = is; goes_on = more })))

pub parts_all : (session : PlainVtSession) (k first : ℕ) (entries : List VtEntry)
    → drop k session.phases ≡ []
    → HasPartsUpTo session k first entries
    → HasParts session 0 session.phases entries
parts_all session k first entries e h =
    subst (λ (l : List VtEntry). HasParts session 0 session.phases l) (append-nil entries)
    (h [] (subst (λ (l : List PlainVtPhase). HasParts session first l []) (sym e) refl))
