-- Scripts whose calls are taken one by one: those for the port, and the others at their places.
use Rattle.std.proofs.Common.{◌≡◌, ◌≤◌, ◌<◌, ◌⊎◌, inl, inr, ℕ, zero, suc, ◌+◌, ◌-◌, ◌==◌, Bool, true, false, cond}
use Rattle.std.proofs.Common.{◌&&◌, List, [], ◌∷◌, ◌++◌, Option, None, Some, length, map, filter, take, drop}
use Rattle.std.proofs.Common.{if◌then◌else◌, refl, sym, ap, ◌∙◌, subst, arith, append-nil, append_assoc}
use Rattle.std.specs.Prelude.{All, IfSome, MatchOption, nat_lt, option_map}
use Rattle.std.specs.Prelude.{slice_get, slice_index_or, slice_set}
use Rattle.std.proofs.lemmas.Bool.{eq-eqb, ne_eqb}
use Rattle.std.proofs.lemmas.List.Elements.{All-nil, All-cons, All-head, All-tail, All-push}
use Rattle.std.proofs.lemmas.Bool.Decides.{nat_tests}
use Rattle.tty_calls.specs.declared.sessions.Script.{Script}
use Rattle.tty_calls.specs.Plain.{PlainCall}
use Rattle.tty_calls.specs.Sessions.{script_of}
use Rattle.play_base.specs.Roles.{calls_in}
use Rattle.passed_calls.specs.declared.placed.PlacedCall.{PlacedCall}
use Rattle.passed_calls.specs.Scripts.{AnyCall, CallerScript, plain, further, mixed, mixed_scripts, count_in}
use Rattle.calls_left.specs.declared.remaining.NextCall.{NextCall}
use Rattle.calls_left.specs.declared.remaining.Cursor.{Cursor}
use Rattle.calls_left.specs.Remaining.{IsMarked, any_call_of, after_next, calls_from, calls_of_port}
use Rattle.calls_left.specs.Remaining.{first_call, own_from, passed_cursor, place_of, plain_from}

below_or : (a b : ℕ) → (a < b) ⊎ (b ≤ a)
below_or a b = grind arith

is_lt : (a b : ℕ) → a < b → nat_lt a b ≡ true
is_lt a b lt = grind (arith, nat_tests)

not_lt : (a b : ℕ) → b ≤ a → nat_lt a b ≡ false
not_lt a b le = grind (arith, nat_tests)

-- ---- with so many calls for the port before the next one that the port never sees

abbrev glued : {C : Type 0} → ℕ → List PlainCall → PlacedCall C → List (PlacedCall C) → List (AnyCall C)
glued k calls o os = map plain (take k calls) ++ further o.call ∷ mixed (o.place + 1) (drop k calls) os

glued_none : {C : Type 0} (k : ℕ) (o : PlacedCall C) (os : List (PlacedCall C)) → glued k [] o os
    ≡ further o.call ∷ mixed (o.place + 1) [] os
glued_none zero o os = refl
glued_none (suc k) o os = refl

none_before : {C : Type 0} (n : ℕ) (calls : List PlainCall) (o : PlacedCall C) (os : List (PlacedCall C))
    → o.place ≤ n
    → mixed n calls (o ∷ os) ≡ further o.call ∷ mixed (o.place + 1) calls os
none_before n calls o os le =
    (let none : o.place - n ≡ 0 = omega (arith, le) in ap (λ (k : ℕ). glued k calls o os) none)

one_before : {C : Type 0} (n : ℕ) (c : PlainCall) (cs : List PlainCall) (o : PlacedCall C) (os : List (PlacedCall C))
    → n < o.place
    → mixed n (c ∷ cs) (o ∷ os) ≡ plain c ∷ mixed (n + 1) cs (o ∷ os)
one_before n c cs o os lt =
    let more : o.place - n ≡ suc (o.place - (n + 1)) = omega (arith, lt) in
    ap (λ k. glued k (c ∷ cs) o os) more

-- the next call
pub first_is : {C : Type 0} (n : ℕ) (calls : List PlainCall) (os : List (PlacedCall C))
    → slice_get (mixed n calls os) 0 ≡ first_call n (slice_get calls 0) (slice_get os 0)
first_is n [] [] = refl
first_is n (c ∷ cs) [] = refl
first_is {C} n [] (o ∷ os) = ap (λ (xs : List (AnyCall C)). slice_get xs 0) (glued_none (o.place - n) o os)
first_is {C} n (c ∷ cs) (o ∷ os) =
    elim (below_or n o.place) [
      | inl lt ↦
          ap (λ (xs : List (AnyCall C)). slice_get xs 0) (one_before n c cs o os lt)
          ∙ sym (ap (λ (b : Bool). if b then Some (plain c) else Some (further o.call)) (is_lt n o.place lt))
      | inr le ↦
          ap (λ (xs : List (AnyCall C)). slice_get xs 0) (none_before n (c ∷ cs) o os le)
          ∙ sym (ap (λ (b : Bool). if b then Some (plain c) else Some (further o.call)) (not_lt n o.place le))
    ]

-- what is left behind it
behind_own : {C : Type 0} (n : ℕ) (calls : List PlainCall) (o : PlacedCall C) (os : List (PlacedCall C))
    → (calls ≡ []) ⊎ (o.place ≤ n)
    → after_next (mixed n calls (o ∷ os)) ≡ mixed (o.place + 1) calls os
behind_own n calls o os (inl none) =
    ap (λ (cs : List PlainCall). after_next (mixed n cs (o ∷ os))) none
    ∙ (ap after_next (glued_none (o.place - n) o os)
    ∙ ap (λ (cs : List PlainCall). mixed (o.place + 1) cs os) (sym none))
behind_own n calls o os (inr le) = ap after_next (none_before n calls o os le)

behind_plain : {C : Type 0} (n : ℕ) (c : PlainCall) (cs : List PlainCall) (os : List (PlacedCall C))
    → ((o : PlacedCall C) (rest : List (PlacedCall C)) → os ≡ o ∷ rest → n < o.place)
    → after_next (mixed n (c ∷ cs) os) ≡ mixed (n + 1) cs os
behind_plain n c cs [] before = refl
behind_plain n c cs (o ∷ os) before = ap after_next (one_before n c cs o os (before o os refl))

-- ---- lists

one_later : {X : Type 0} (y x : X) (xs : List X) (i : ℕ) → y ∷ drop (i + 1) xs ≡ y ∷ drop (suc i + 1) (x ∷ xs)
one_later y x xs i = (let same : suc (i + 1) ≡ suc i + 1 = omega arith in ap (λ (n : ℕ). y ∷ drop n (x ∷ xs)) same)

drop_one : {X : Type 0} (xs : List X) (i : ℕ) → i < length xs → (x : X) × (drop i xs ≡ x ∷ drop (i + 1) xs)
drop_one [] i lt = absurd (omega (arith, lt))
drop_one (x ∷ xs) zero lt = (x, refl)
drop_one (x ∷ xs) (suc i) lt =
    (let rest = drop_one xs i (omega (arith, lt)) in (rest.0, rest.1 ∙ one_later rest.0 x xs i))

drop_none : {X : Type 0} (xs : List X) (i : ℕ) → length xs ≤ i → drop i xs ≡ []
drop_none [] zero le = refl
drop_none [] (suc i) le = refl
drop_none (x ∷ xs) zero le = absurd (omega (arith, le))
drop_none (x ∷ xs) (suc i) le = drop_none xs i (omega (arith, le))

abbrev part : {X : Type 0} → (first end : ℕ) → List X → List X
part first end xs = take (end - first) (drop first xs)

none_some : {X : Type 0} (x : X) → None ≡ Some x → ⊥
none_some x e = absurd (cc)

some_is : {X : Type 0} (x y : X) → Some x ≡ Some y → x ≡ y
some_is x y e = cc

part_one : {X : Type 0} (xs : List X) (first end : ℕ) (x : X)
    → first < end
    → slice_get (part first end xs) 0 ≡ Some x
    → part first end xs ≡ x ∷ part (first + 1) end xs
part_one xs first end x lt is =
    let more : end - first ≡ suc (end - (first + 1)) = omega (arith, lt) in
    let taken : part first end xs ≡ take (suc (end - (first + 1))) (drop first xs) =
    ap (λ k. take k (drop first xs)) more in
    elim (below_or first (length xs)) [
      | inl within ↦
          let one = drop_one xs first within in
          let parts : part first end xs ≡ one.0 ∷ part (first + 1) end xs =
          taken ∙ ap (λ ys. take (suc (end - (first + 1))) ys) one.1 in
          let same : one.0 ≡ x = some_is one.0 x (sym (ap (λ ys. slice_get ys 0) parts) ∙ is) in
          parts ∙ ap (λ y. y ∷ part (first + 1) end xs) same
      | inr past ↦
          let none : part first end xs ≡ [] =
          taken ∙ ap (λ ys. take (suc (end - (first + 1))) ys) (drop_none xs first past) in
          absurd (none_some x (sym (ap (λ ys. slice_get ys 0) none) ∙ is))
    ]

-- ---- a call was taken

-- one that the port never sees, before which no call for the port stands
pub own_taken : {C : Type 0} (all : List PlainCall) (placed : List (PlacedCall C)) (n taken first end : ℕ)
    (o : PlacedCall C)
    → first < end
    → slice_get (part first end placed) 0 ≡ Some o
    → (taken < length all → o.place ≤ n)
    → mixed (o.place + 1) (drop taken all) (part (first + 1) end placed)
    ≡ after_next (mixed n (drop taken all) (part first end placed))
own_taken all placed n taken first end o lt is before =
    let parts = part_one placed first end o lt is in
    let how : (drop taken all ≡ []) ⊎ (o.place ≤ n) =
    elim (below_or taken (length all))
    [ inl within ↦ inr (before within) | inr past ↦ inl (drop_none all taken past) ] in
    sym (ap (λ os. after_next (mixed n (drop taken all) os)) parts
    ∙ behind_own n (drop taken all) o (part (first + 1) end placed) how)

-- one for the port, which stands before the next one that the port never sees
pub plain_taken : {C : Type 0} (all : List PlainCall) (n taken : ℕ) (os : List (PlacedCall C))
    → taken < length all
    → ((o : PlacedCall C) → slice_get os 0 ≡ Some o → n < o.place)
    → mixed (n + 1) (drop (taken + 1) all) os ≡ after_next (mixed n (drop taken all) os)
plain_taken all n taken os within before =
    let one = drop_one all taken within in
    sym (ap (λ cs. after_next (mixed n cs os)) one.1
    ∙ behind_plain n one.0 (drop (taken + 1) all) os (λ o rest is. before o (ap (λ ys. slice_get ys 0) is)))

-- none is left
pub none_taken : {C : Type 0} (all : List PlainCall) (n taken : ℕ) (os : List (PlacedCall C))
    → length all ≤ taken
    → slice_get os 0 ≡ None
    → mixed n (drop taken all) os ≡ after_next (mixed n (drop taken all) os)
none_taken all n taken [] past none =
    let empty = drop_none all taken past in
    ap (λ cs. mixed n cs []) empty ∙ sym (ap (λ cs. after_next (mixed n cs [])) empty)
none_taken all n taken (o ∷ os) past none = absurd (none_some o (sym none))

-- ---- as a call is handed out

pub told : {C : Type 0} (next : Option (NextCall C)) (calls : List (AnyCall C))
    → option_map any_call_of next ≡ slice_get calls 0
    → MatchOption next (calls ≡ []) (λ call. slice_get calls 0 ≡ Some (any_call_of call))
told None [] is = refl
told None (c ∷ cs) is = absurd (none_some c is)
told (Some next) calls is = sym is

pub at_place : {C : Type 0} {X : Type 0} (f : X → List (AnyCall C)) (xs : List X) (i : ℕ) (x : X)
    → slice_get xs i ≡ Some x
    → slice_index_or (map f xs) i [] ≡ f x
at_place f [] i x is = absurd (none_some x is)
at_place f (y ∷ xs) zero x is = ap f (some_is y x is)
at_place f (y ∷ xs) (suc i) x is = at_place f xs i x is

pub past_place : {C : Type 0} {X : Type 0} (f : X → List (AnyCall C)) (xs : List X) (i : ℕ)
    → slice_get xs i ≡ None
    → slice_index_or (map f xs) i [] ≡ []
past_place f [] i is = refl
past_place f (y ∷ xs) zero is = absurd (none_some y (sym is))
past_place f (y ∷ xs) (suc i) is = past_place f xs i is

-- ---- a script

lt_of : (a b : ℕ) → nat_lt a b ≡ true → a < b
lt_of a b e = grind (arith, nat_tests)

ge_of : (a b : ℕ) → nat_lt a b ≡ false → b ≤ a
ge_of a b e = grind (arith, nat_tests)

true_or_false : (b : Bool) → (b ≡ true) ⊎ (b ≡ false)
true_or_false true = inl refl
true_or_false false = inr refl

both_true : (a b : Bool) → a && b ≡ true → (a ≡ true) × (b ≡ true)
both_true true b e = (refl, e)
both_true false b e = absurd (cc)

not_second : (a b : Bool) → a && b ≡ false → a ≡ true → b ≡ false
not_second true b e is = e
not_second false b e is = absurd (cc)

abbrev all_plain : List Script → Cursor → List PlainCall
all_plain scripts c = calls_in (slice_get scripts c.script)

abbrev plain_next : Cursor → Cursor
plain_next c = record c { taken = c.taken + 1 }

plain_step : {C : Type 0} (scripts : List Script) (placed : List (PlacedCall C)) (c : Cursor)
    → IsMarked c
    → c.taken < length (all_plain scripts c)
    → ((o : PlacedCall C) → slice_get (own_from placed c) 0 ≡ Some o → place_of c < o.place)
    → calls_from scripts placed (plain_next c) ≡ after_next (calls_from scripts placed c)
plain_step scripts placed c marked within before =
    let at : place_of (plain_next c) ≡ place_of c + 1 = omega (arith, marked) in
    ap (λ n. mixed n (plain_from scripts (plain_next c)) (own_from placed c)) at
    ∙ plain_taken (all_plain scripts c) (place_of c) c.taken (own_from placed c) within before

none_step : {C : Type 0} (scripts : List Script) (placed : List (PlacedCall C)) (c : Cursor)
    → IsMarked c
    → slice_get (own_from placed c) 0 ≡ None
    → (b : Bool)
    → nat_lt c.taken (length (all_plain scripts c)) ≡ b
    → calls_from scripts placed (if b then plain_next c else c) ≡ after_next (calls_from scripts placed c)
none_step scripts placed c marked none true is = plain_step scripts placed c marked
    (lt_of c.taken (length (all_plain scripts c)) is) (λ o at. absurd (none_some o (sym none ∙ at)))
none_step scripts placed c marked none false is = none_taken (all_plain scripts c) (place_of c) c.taken
    (own_from placed c) (ge_of c.taken (length (all_plain scripts c)) is) none

some_step : {C : Type 0} (scripts : List Script) (placed : List (PlacedCall C)) (c : Cursor) (o : PlacedCall C)
    → IsMarked c
    → c.first < c.end
    → slice_get (own_from placed c) 0 ≡ Some o
    → (b : Bool)
    → nat_lt c.taken (length (all_plain scripts c)) && nat_lt (place_of c) o.place ≡ b
    → calls_from scripts placed
    (if b then plain_next c else record c { mark = c.taken; last = Some o.place; first = c.first + 1 })
    ≡ after_next (calls_from scripts placed c)
some_step {C} scripts placed c o marked within is true both =
    let parts = both_true (nat_lt c.taken (length (all_plain scripts c))) (nat_lt (place_of c) o.place) both in
    plain_step scripts placed c marked (lt_of c.taken (length (all_plain scripts c)) parts.0)
    (λ x at. subst (λ (y : PlacedCall C). place_of c < y.place) (some_is o x (sym is ∙ at))
    (lt_of (place_of c) o.place parts.1))
some_step scripts placed c o marked within is false not_both =
    let at : place_of (record c { mark = c.taken; last = Some o.place; first = c.first + 1 }) ≡ o.place + 1 =
    omega arith in
    ap (λ n. mixed n (plain_from scripts c) (part (c.first + 1) c.end placed)) at
    ∙ own_taken (all_plain scripts c) placed (place_of c) c.taken c.first c.end o within is
    (λ lt. ge_of (place_of c) o.place
    (not_second (nat_lt c.taken (length (all_plain scripts c))) (nat_lt (place_of c) o.place) not_both
    (is_lt c.taken (length (all_plain scripts c)) lt)))

pub steps_on : {C : Type 0} (scripts : List Script) (placed : List (PlacedCall C)) (c : Cursor) (count : ℕ)
    (own : Option (PlacedCall C))
    → IsMarked c
    → count ≡ length (all_plain scripts c)
    → own ≡ slice_get (own_from placed c) 0
    → IfSome own (λ o. c.first < c.end)
    → calls_from scripts placed (passed_cursor count own c) ≡ after_next (calls_from scripts placed c)
steps_on {C} scripts placed c count None marked many is within =
    ap (λ n. calls_from scripts placed (passed_cursor {C = C} n None c)) many
    ∙ none_step scripts placed c marked (sym is) (nat_lt c.taken (length (all_plain scripts c))) refl
steps_on scripts placed c count (Some o) marked many is within =
    ap (λ n. calls_from scripts placed (passed_cursor n (Some o) c)) many
    ∙ some_step scripts placed c o marked within (sym is)
    (nat_lt c.taken (length (all_plain scripts c)) && nat_lt (place_of c) o.place) refl

one_marked : (b : Bool) (c d : Cursor) → IsMarked c → IsMarked d → IsMarked (if b then c else d)
one_marked true c d p q = p
one_marked false c d p q = q

pub stays_marked : {C : Type 0} (count : ℕ) (own : Option (PlacedCall C)) (c : Cursor) → IsMarked c
    → IsMarked (passed_cursor count own c)
stays_marked count None c marked = one_marked (nat_lt c.taken count) (plain_next c) c (omega (arith, marked)) marked
stays_marked count (Some o) c marked =
    one_marked (nat_lt c.taken count && nat_lt (place_of c) o.place) (plain_next c)
    (record c { mark = c.taken; last = Some o.place; first = c.first + 1 }) (omega (arith, marked)) (omega arith)

-- ---- the scripts of a port, one after the other

abbrev its_calls : {C : Type 0} → ℕ → List (CallerScript (AnyCall C)) → List (List (AnyCall C))
its_calls p ss = map (λ s. s.calls) (filter (λ s. s.port == p) ss)

script_at : (xs : List Script) (i : ℕ) (x : Script)
    → i < length xs
    → x ≡ slice_index_or xs i x
    → (slice_get xs i ≡ Some x) × (drop i xs ≡ x ∷ drop (i + 1) xs)
script_at [] i x lt is = absurd (omega (arith, lt))
script_at (y ∷ xs) zero x lt is = (ap (λ (z : Script). Some z) (sym is), ap (λ (z : Script). z ∷ xs) (sym is))
script_at (y ∷ xs) (suc i) x lt is =
    (let rest = script_at xs i x (omega (arith, lt)) is in (rest.0, rest.1 ∙ one_later x y xs i))

abbrev none_own : {C : Type 0} → List (PlacedCall C)
none_own = []

none_left : {C : Type 0} (n : ℕ) → drop n (none_own {C = C}) ≡ none_own {C = C}
none_left zero = refl
none_left (suc n) = refl

drop_more : {C : Type 0} (a b : ℕ) (xs : List (PlacedCall C)) → drop b (drop a xs) ≡ drop (a + b) xs
drop_more zero b xs = (let same : b ≡ 0 + b = omega arith in ap (λ (n : ℕ). drop n xs) same)
drop_more {C} (suc a) b [] = none_left {C = C} b ∙ sym (none_left {C = C} (suc a + b))
drop_more (suc a) b (x ∷ xs) =
    (let same : suc (a + b) ≡ suc a + b = omega arith in drop_more a b xs ∙ ap (λ (n : ℕ). drop n (x ∷ xs)) same)

-- the first of so many scripts, with its cursor
abbrev pub starts : ℕ → ℕ → ℕ → Cursor
starts place first end = record { script = place; taken = 0; mark = 0; last = None; first = first; end = end }

pub starts_with_all : {C : Type 0} (scripts : List Script) (placed : List (PlacedCall C)) (place first count : ℕ)
    (s : Script)
    → slice_get scripts place ≡ Some s
    → calls_from scripts placed (starts place first (first + count))
    ≡ mixed 0 s.calls.items (take count (drop first placed))
starts_with_all scripts placed place first count s is =
    let many : (first + count) - first ≡ count = omega arith in
    λ i. mixed 0 (calls_in (is i)) (take (many i) (drop first placed))

one_more : {C : Type 0} (p : ℕ) (b : Bool) (s : CallerScript (AnyCall C)) (ss : List (CallerScript (AnyCall C)))
    → (s.port == p) ≡ b
    → its_calls p (s ∷ ss) ≡ (if b then s.calls ∷ its_calls p ss else its_calls p ss)
one_more {C} p b s ss is =
    ap (λ (t : Bool).
    map (λ (x : CallerScript (AnyCall C)). x.calls) (cond t (s ∷ filter (λ x. x.port == p) ss)
    (filter (λ x. x.port == p) ss))) is
    ∙ either b s ss
  where
    either : (b : Bool) (s : CallerScript (AnyCall C)) (ss : List (CallerScript (AnyCall C)))
        → map (λ (x : CallerScript (AnyCall C)). x.calls) (cond b (s ∷ filter (λ x. x.port == p) ss)
        (filter (λ x. x.port == p) ss))
        ≡ (if b then s.calls ∷ its_calls p ss else its_calls p ss)
    either true s ss = refl
    either false s ss = refl

-- what a walk over the scripts has: cursors for those before a place, and those from there on
pub record HasCursors {C : Type 0} (p : ℕ) (scripts : List Script) (placed : List (PlacedCall C))
    (cursors : List Cursor)
    (place first : ℕ) : Type 0 where
  pub all : map (calls_from scripts placed) cursors
      ++ its_calls p (mixed_scripts place (map script_of (drop place scripts)) (drop first placed))
      ≡ calls_of_port p scripts placed
  pub marked : All IsMarked cursors
  pub within : first ≤ length placed

pub no_cursors : {C : Type 0} (p : ℕ) (scripts : List Script) (placed : List (PlacedCall C)) (cursors : List Cursor)
    → cursors ≡ []
    → HasCursors p scripts placed cursors 0 0
no_cursors p scripts placed cursors none =
    subst (λ (cs : List Cursor). HasCursors p scripts placed cs 0 0) (sym none)
    (record { all = refl; marked = All-nil IsMarked; within = omega arith })

map_more : {X Y : Type 0} (f : X → Y) (xs : List X) (x : X) → map f (xs ++ x ∷ []) ≡ map f xs ++ f x ∷ []
map_more f [] x = refl
map_more f (y ∷ xs) x = λ i. f y ∷ map_more f xs x i

abbrev rest_calls : {C : Type 0} → ℕ → List Script → List (PlacedCall C) → (place first : ℕ) → List (List (AnyCall C))
rest_calls p scripts placed place first =
    its_calls p (mixed_scripts place (map script_of (drop place scripts)) (drop first placed))

-- the script at a place, and those behind it
rest_at : {C : Type 0} (p : ℕ) (scripts : List Script) (placed : List (PlacedCall C)) (place first count : ℕ)
    (s : Script) (b : Bool)
    → drop place scripts ≡ s ∷ drop (place + 1) scripts
    → count ≡ count_in place (drop first placed)
    → (s.port == p) ≡ b
    → rest_calls p scripts placed place first
    ≡ (if b
    then mixed 0 s.calls.items (take count (drop first placed))
    ∷ rest_calls p scripts placed (place + 1) (first + count)
    else rest_calls p scripts placed (place + 1) (first + count))
rest_at {C} p scripts placed place first count s b at many is =
    let rest = drop first placed in
    let here : CallerScript (AnyCall C) =
    record { port = s.port; name = s.name.bytes; calls = mixed 0 s.calls.items (take (count_in place rest) rest) } in
    let less = sym many in
    let later =
    mixed_scripts (place + 1) (map script_of (drop (place + 1) scripts)) (drop (count_in place rest) rest) in
    let behind_it : drop (count_in place rest) rest ≡ drop (first + count) placed =
    ap (λ n. drop n rest) (sym many) ∙ drop_more first count placed in
    ap (λ (ss : List Script). its_calls p (mixed_scripts place (map script_of ss) rest)) at
    ∙ (one_more p b here later is
    ∙ λ i. if b then mixed 0 s.calls.items (take (less i) rest) ∷ its_calls p
    (mixed_scripts (place + 1) (map script_of (drop (place + 1) scripts)) (behind_it i))
    else its_calls p (mixed_scripts (place + 1) (map script_of (drop (place + 1) scripts)) (behind_it i)))

pub own_cursor : {C : Type 0} (p : ℕ) (scripts : List Script) (placed : List (PlacedCall C))
    (cursors more : List Cursor) (place first end : ℕ)
    (s : Script) (c : Cursor)
    → HasCursors p scripts placed cursors place first
    → place < length scripts
    → s ≡ slice_index_or scripts place s
    → end ≡ first + count_in place (drop first placed)
    → end ≤ length placed
    → s.port ≡ p
    → c ≡ starts place first end
    → more ≡ cursors ++ c ∷ []
    → HasCursors p scripts placed more (place + 1) end
own_cursor {C} p scripts placed cursors more place first end s c h lt is ends within same starts_it added =
    let count = count_in place (drop first placed) in
    let at = script_at scripts place s lt is in
    let calls = mixed 0 s.calls.items (take count (drop first placed)) in
    let first_part = map (calls_from scripts placed) cursors in
    let cursor_is : c ≡ starts place first (first + count) = starts_it ∙ ap (starts place first) ends in
    record {
      all = ap (λ (cs : List Cursor). map (calls_from scripts placed) cs ++ rest_calls p scripts placed (place + 1) end)
          added
          ∙ (ap (λ (xs : List (List (AnyCall C))). xs ++ rest_calls p scripts placed (place + 1) end)
          (map_more (calls_from scripts placed) cursors c)
          ∙ (append_assoc first_part (calls_from scripts placed c ∷ []) (rest_calls p scripts placed (place + 1) end)
          ∙ ((λ i.
          first_part
          ++ (ap (calls_from scripts placed) cursor_is ∙ starts_with_all scripts placed place first count s at.0) i
          ∷ rest_calls p scripts placed (place + 1) (ends i))
          ∙ (ap (λ (xs : List (List (AnyCall C))). first_part ++ xs)
          (sym (rest_at p scripts placed place first count s true at.1 refl (eq-eqb s.port p same)))
          ∙ h.all))));
      marked = subst (All IsMarked) (sym added)
          (All-push IsMarked cursors c h.marked (subst IsMarked (sym starts_it) (omega arith)));
      within = within;
    }

pub other_script : {C : Type 0} (p : ℕ) (scripts : List Script) (placed : List (PlacedCall C))
    (cursors more : List Cursor)
    (place first end : ℕ) (s : Script)
    → HasCursors p scripts placed cursors place first
    → place < length scripts
    → s ≡ slice_index_or scripts place s
    → end ≡ first + count_in place (drop first placed)
    → end ≤ length placed
    → (s.port ≡ p → ⊥)
    → more ≡ cursors
    → HasCursors p scripts placed more (place + 1) end
other_script {C} p scripts placed cursors more place first end s h lt is ends within other same =
    let count = count_in place (drop first placed) in
    let at = script_at scripts place s lt is in
    record {
      all = (λ i. map (calls_from scripts placed) (same i) ++ rest_calls p scripts placed (place + 1) (ends i))
          ∙ (ap (λ (xs : List (List (AnyCall C))). map (calls_from scripts placed) cursors ++ xs)
          (sym (rest_at p scripts placed place first count s false at.1 refl (ne_eqb s.port p other)))
          ∙ h.all);
      marked = subst (All IsMarked) (sym same) h.marked;
      within = within;
    }

pub all_cursors : {C : Type 0} (p : ℕ) (scripts : List Script) (placed : List (PlacedCall C)) (cursors : List Cursor)
    (place first : ℕ)
    → HasCursors p scripts placed cursors place first
    → length scripts ≤ place
    → map (calls_from scripts placed) cursors ≡ calls_of_port p scripts placed
all_cursors p scripts placed cursors place first h past =
    let calls = map (calls_from scripts placed) cursors in
    sym (ap (λ (ss : List Script). calls ++ its_calls p (mixed_scripts place (map script_of ss) (drop first placed)))
    (drop_none scripts place past)
    ∙ append-nil calls)
    ∙ h.all

-- ---- a place of the list

pub set_map : {C : Type 0} (f : Cursor → List (AnyCall C)) (xs : List Cursor) (i : ℕ) (x : Cursor)
    → map f (slice_set xs i x) ≡ slice_set (map f xs) i (f x)
set_map f [] i x = refl
set_map f (y ∷ xs) zero x = refl
set_map f (y ∷ xs) (suc i) x = λ j. f y ∷ set_map f xs i x j

pub set_none : {C : Type 0} (f : Cursor → List (AnyCall C)) (xs : List Cursor) (i : ℕ) (x : List (AnyCall C))
    → slice_get xs i ≡ None
    → slice_set (map f xs) i x ≡ map f xs
set_none f [] i x is = refl
set_none f (y ∷ xs) zero x is = absurd (none_some y (sym is))
set_none f (y ∷ xs) (suc i) x is = λ j. f y ∷ set_none f xs i x is j

pub marked_at : (cs : List Cursor) (i : ℕ) (c : Cursor) → All IsMarked cs → slice_get cs i ≡ Some c → IsMarked c
marked_at [] i c h is = absurd (none_some c is)
marked_at (d ∷ cs) zero c h is = subst IsMarked (some_is d c is) (All-head IsMarked d cs h)
marked_at (d ∷ cs) (suc i) c h is = marked_at cs i c (All-tail IsMarked d cs h) is

pub marked_set : (cs : List Cursor) (i : ℕ) (c : Cursor)
    → All IsMarked cs
    → IsMarked c
    → All IsMarked (slice_set cs i c)
marked_set [] i c h m = h
marked_set (d ∷ cs) zero c h m = All-cons IsMarked c cs m (All-tail IsMarked d cs h)
marked_set (d ∷ cs) (suc i) c h m =
    All-cons IsMarked d (slice_set cs i c) (All-head IsMarked d cs h) (marked_set cs i c (All-tail IsMarked d cs h) m)

pub within_at : (cs : List Cursor) (i : ℕ) (c : Cursor) → slice_get cs i ≡ Some c → i < length cs
within_at [] i c is = absurd (none_some c is)
within_at (d ∷ cs) zero c is = omega arith
within_at (d ∷ cs) (suc i) c is = (let rest = within_at cs i c is in omega (arith, rest))
