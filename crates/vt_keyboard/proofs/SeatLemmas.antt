-- What a seat makes of calls, one after the other.
use Rattle.std.proofs.Common.{◌≡◌, ℕ, ◌<◌, ◌≤◌, nat_lt, Bool, true, false, if◌then◌else◌, List, [], ◌∷◌}
use Rattle.std.proofs.Common.{◌++◌, map, flat_map, drop, length, Result, Ok, Err, refl, sym, ap, subst}
use Rattle.std.proofs.Common.{◌∙◌, ◌+◌, arith, append-nil, append_assoc, suc, drop-cons, add-one, get_or}
use Rattle.std.proofs.Common.{length-append}
use Rattle.std.specs.Prelude.{OnErr}
use Rattle.std.proofs.lemmas.List.{map-append, drop_all}
use Rattle.std.proofs.lemmas.Grind.{flat_map-append}
use Rattle.std.proofs.lemmas.Bool.Decides.{nat_tests}
use Rattle.port_cell.specs.Knowledge.{own_entries}
use Rattle.vt_consoles.specs.declared.entries.VtEvent.{VtEvent}
use Rattle.vt_consoles.specs.declared.entries.VtEvent.TheVariants.{Activate, State}
use Rattle.vt_consoles.specs.declared.kept_board.BoardName.{BoardName}
use Rattle.vt_consoles.specs.Histories.{stamped}
use Rattle.vt_consoles.specs.Seats.{BoardSeat, Makes, MakesNone}
use Rattle.vt_text.specs.declared.sessions.OpCall.{OpCall}
use Rattle.vt_text.specs.declared.sessions.OpCall.TheVariants as op
use Rattle.vt_text.specs.declared.sessions.OpScript.{OpScript}
use Rattle.vt_text.specs.Sessions.{operator_of, operators_of}
use Rattle.vt_account.specs.Account.{granted, call_in, index_in}
use Rattle.vt_keyboard.specs.Operating.{MakesAll, AnswersCalls, AnswersUpTo}
use Rattle.vt_keyboard.specs.Operating.{AnswersFirst, SomeAccepted, calls_of_operator, calls_of_seat}

pub makes_none : (n : ℕ) (old new : BoardSeat) → own_entries new ≡ own_entries old → MakesAll n [] old new
makes_none n old new h = h ∙ sym (append-nil (own_entries old))

pub makes_more : (n : ℕ) (xs ys : List VtEvent) (old mid new : BoardSeat)
    → MakesAll n xs old mid
    → MakesAll n ys mid new
    → MakesAll n (xs ++ ys) old new
makes_more n xs ys old mid new h k =
    k
    ∙ ap (λ l. l ++ map (stamped n) ys) h
    ∙ append_assoc (own_entries old) (map (stamped n) xs) (map (stamped n) ys)
    ∙ ap (λ l. own_entries old ++ l) (sym (map-append (stamped n) xs ys))

-- ---- calls

pub answers_none : (consoles n : ℕ) (old new : BoardSeat)
    → own_entries new ≡ own_entries old
    → AnswersCalls consoles n [] old new
answers_none consoles n old new h =
    record { events = []; makes = makes_none n old new h; answers = refl; no_keys = refl }

pub answers_more : (consoles n : ℕ) (xs ys : List OpCall) (old mid new : BoardSeat)
    → AnswersCalls consoles n xs old mid
    → AnswersCalls consoles n ys mid new
    → AnswersCalls consoles n (xs ++ ys) old new
answers_more consoles n xs ys old mid new h k = record {
  events = h.events ++ k.events;
  makes = makes_more n h.events k.events old mid new h.makes k.makes;
  answers = flat_map-append call_in h.events k.events
      ∙ ap (λ l. l ++ flat_map call_in k.events) h.answers
      ∙ ap (λ l. flat_map (granted consoles) xs ++ l) k.answers
      ∙ sym (flat_map-append (granted consoles) xs ys);
  no_keys =
      flat_map-append index_in h.events k.events ∙ ap (λ l. l ++ flat_map index_in k.events) h.no_keys ∙ k.no_keys;
}

-- a call that is not refused
is_accepted : (n consoles : ℕ) → n < consoles → granted consoles (op.Activate n) ≡ op.Activate n ∷ []
is_accepted n consoles h = ap (λ (b : Bool). if b then op.Activate n ∷ [] else [])
    (let e : nat_lt n consoles ≡ true = grind (arith, nat_tests) in e)

is_refused : (n consoles : ℕ) → consoles ≤ n → granted consoles (op.Activate n) ≡ []
is_refused n consoles h = ap (λ (b : Bool). if b then op.Activate n ∷ [] else [])
    (let e : nat_lt n consoles ≡ false = grind (arith, nat_tests) in e)

pub activated : (name : BoardName) (number n : ℕ) (old new : BoardSeat)
    → Makes name number (Activate n) old new
    → AnswersCalls name.consoles number (op.Activate n ∷ []) old new
activated name number n old new m = record {
  events = Activate n ∷ [];
  makes = m.own;
  answers = sym (ap (λ (l : List OpCall). l ++ []) (is_accepted n name.consoles m.rightly));
  no_keys = refl;
}

pub refused : (consoles number n : ℕ) (old new : BoardSeat)
    → MakesNone number old new
    → consoles ≤ n
    → AnswersCalls consoles number (op.Activate n ∷ []) old new
refused consoles number n old new m h = record {
  events = [];
  makes = makes_none number old new m.own;
  answers = sym (ap (λ (l : List OpCall). l ++ []) (is_refused n consoles h));
  no_keys = refl;
}

pub told : (name : BoardName) (number n : ℕ) (old new : BoardSeat)
    → Makes name number (State n) old new
    → AnswersCalls name.consoles number (op.State ∷ []) old new
told name number n old new m = record { events = State n ∷ []; makes = m.own; answers = refl; no_keys = refl }

-- ---- the first of some calls

pub up_to_none : (consoles n : ℕ) (calls : List OpCall) (seat : BoardSeat)
    → AnswersUpTo consoles n calls calls seat seat
up_to_none consoles n calls seat = record { done = []; parts = refl; answered = answers_none consoles n seat seat refl }

pub up_to_more : (consoles n : ℕ) (calls left some rest : List OpCall) (old mid new : BoardSeat)
    → left ≡ some ++ rest
    → AnswersUpTo consoles n calls left old mid
    → AnswersCalls consoles n some mid new
    → AnswersUpTo consoles n calls rest old new
up_to_more consoles n calls left some rest old mid new e h k = record {
  done = h.done ++ some;
  parts = h.parts ∙ ap (λ (l : List OpCall). h.done ++ l) e ∙ sym (append_assoc h.done some rest);
  answered = answers_more consoles n h.done some old mid new h.answered k;
}

pub up_to_all : (consoles n : ℕ) (calls left : List OpCall) (old new : BoardSeat)
    → left ≡ []
    → AnswersUpTo consoles n calls left old new
    → AnswersCalls consoles n calls old new
up_to_all consoles n calls left old new e h =
    subst (λ (l : List OpCall). AnswersCalls consoles n l old new)
    (sym (h.parts ∙ ap (λ (l : List OpCall). h.done ++ l) e ∙ append-nil h.done)) h.answered

some_accepted : (consoles : ℕ) (some rest : List OpCall)
    → SomeAccepted consoles some
    → SomeAccepted consoles (some ++ rest)
some_accepted consoles some rest h =
    let parts = ap (λ (l : List OpCall). length l) (flat_map-append (granted consoles) some rest) in
    let size = length-append (flat_map (granted consoles) some) (flat_map (granted consoles) rest) in
    omega (arith, h, parts, size)

-- an activation of a console that there is
pub activation : (n consoles : ℕ) → n < consoles → SomeAccepted consoles (op.Activate n ∷ [])
activation n consoles h =
    let e = ap (λ (l : List OpCall). length (l ++ [])) (is_accepted n consoles h) in omega (arith, e)

-- where one was denied, what was done before it stays
pub first_then : (consoles n : ℕ) (calls left some rest : List OpCall) (old mid new : BoardSeat)
    → left ≡ some ++ rest
    → AnswersUpTo consoles n calls left old mid
    → AnswersFirst consoles n some mid new
    → AnswersFirst consoles n calls old new
first_then consoles n calls left some rest old mid new e h f = (
  f.0 ++ rest,
  some_accepted consoles f.0 rest f.1,
  record {
    done = h.done ++ f.2.done;
    parts = h.parts
        ∙ ap (λ (l : List OpCall). h.done ++ l)
        (e ∙ ap (λ (l : List OpCall). l ++ rest) f.2.parts ∙ append_assoc f.2.done f.0 rest)
        ∙ sym (append_assoc h.done f.2.done (f.0 ++ rest));
    answered = answers_more consoles n h.done f.2.done old mid new h.answered f.2.answered;
  },
)

pub first_none : (consoles n : ℕ) (calls : List OpCall) (old new : BoardSeat)
    → MakesNone n old new
    → SomeAccepted consoles calls
    → AnswersFirst consoles n calls old new
first_none consoles n calls old new m some =
    (calls, some, record { done = []; parts = refl; answered = answers_none consoles n old new m.own })

-- ---- lists, from a place on

pub next_item : {X : Type 0} (xs : List X) (i : ℕ) (x : X)
    → i < length xs
    → x ≡ get_or xs i x
    → drop i xs ≡ x ∷ drop (i + 1) xs
next_item xs i x h at =
    drop-cons xs i x h ∙ ap (λ y. y ∷ drop (suc i) xs) (sym at) ∙ ap (λ n. x ∷ drop n xs) (sym (add-one i))

pub next_or : {X : Type 0} (xs : List X) (i : ℕ) (d : X) → i < length xs → drop i xs ≡ get_or xs i d ∷ drop (i + 1) xs
next_or {X} xs i d h = drop-cons xs i d h ∙ ap (λ n. get_or xs i d ∷ drop n xs) (sym (add-one i))

-- ---- the calls of a seat

pub seat_next : (names : List (List ℕ)) (n i : ℕ) (operators : List OpScript) (x : OpScript)
    → i < length operators
    → x ≡ get_or operators i x
    → calls_of_seat names n (operators_of (drop i operators))
    ≡ calls_of_operator names n (operator_of x) ++ calls_of_seat names n (operators_of (drop (i + 1) operators))
seat_next names n i operators x h at =
    ap (λ (l : List OpScript). calls_of_seat names n (operators_of l)) (next_item operators i x h at)

pub seat_over : (names : List (List ℕ)) (n i : ℕ) (operators : List OpScript)
    → length operators ≤ i
    → calls_of_seat names n (operators_of (drop i operators)) ≡ []
seat_over names n i operators h =
    ap (λ (l : List OpScript). calls_of_seat names n (operators_of l)) (drop_all i operators h)

pub where_any_err : {A E : Type 0} (r : Result A E) (P : Type 0) → P → OnErr r P
where_any_err (Ok x) P h = tt
where_any_err (Err d) P h = h
