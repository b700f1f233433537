-- The rows of a port's callers: for each name the kinds of the calls under it.
use Rattle.std.proofs.Common.{◌≡◌, inl, inr, ℕ, zero, suc, ◌+◌, ◌<◌, ◌==◌, nat_lt, Bool, true, false, cond, List, []}
use Rattle.std.proofs.Common.{◌∷◌, ◌++◌, Option, Some, None, length, map, fold, replicate, refl, ap, sym, ◌∙◌, get_or}
use Rattle.std.proofs.Common.{slice_get, take, set, arith, append_assoc, append-nil, length-append, length-set}
use Rattle.std.specs.Str.{bytes_eq}
use Rattle.std.specs.List.{list_any, position_or_len}
use Rattle.std.proofs.lemmas.List.{map-set, get_or-map, map-append, length-map, same_lists}
use Rattle.std.proofs.lemmas.List.{get_or_append_left, get_or-set_same, get_or-set_other, take_more}
use Rattle.std.proofs.lemmas.Option.{get_or_from_slice_get, slice_get_within}
use Rattle.std.proofs.lemmas.List.Sums.{position_or_len_is}
use Rattle.std.proofs.lemmas.List.Quantifiers.{position-Some}
use Rattle.std.proofs.lemmas.Slice.Eq.{bytes_eq-Decides}
use Rattle.std.proofs.lemmas.Grind.{flat_map-append}
use Rattle.std.proofs.Math.Seq.{get_or-append_seam}
use Rattle.tty_calls.specs.Plain.{PlainCall}
use Rattle.tty_calls.specs.Sessions.{PlainScript, PlainSession, scripts_over}
use Rattle.tty_calls.specs.Sessions.{with_name, names_of, number_in, calls_under}
use Rattle.check_text.specs.declared.kinds.AnswerKind.{AnswerKind}
use Rattle.check_text.specs.Callers.{PlainCallers, answer_kind, kinds_under, callers_on}
use Rattle.check_text.specs.Building.{rows_with, rows_after}
use Rattle.check_text.proofs.Truths.{or_parts, inside, is_false, same_or, lt-ltb}

-- a row goes on
pub row_added : {X Y : Type 0} (f : X → List Y) (rows : List X) (at : ℕ) (d row : X) (more : List Y)
    → at < length rows
    → f row ≡ f (get_or rows at d) ++ more
    → map f (set rows at row) ≡ set (map f rows) at (get_or (map f rows) at [] ++ more)
row_added {X} {Y} f rows at d row more within e =
    map-set f rows at row
    ∙ ap (set (map f rows) at) (e ∙ ap (λ (xs : List Y). xs ++ more) (sym (get_or-map f rows at d [] within)))

-- the kind of a call more
pub kind_added : (first row new : List AnswerKind) (calls : List PlainCall) (place : ℕ) (call : PlainCall)
    (kind : AnswerKind)
    → slice_get calls place ≡ Some call
    → kind ≡ answer_kind call
    → new ≡ row ++ kind ∷ []
    → row ≡ first ++ map answer_kind (take place calls)
    → new ≡ first ++ map answer_kind (take (place + 1) calls)
kind_added first row new calls place call kind at is put before =
    let here : get_or calls place call ≡ call = get_or_from_slice_get calls place call call at in
    put
    ∙ ap (λ (xs : List AnswerKind). xs ++ kind ∷ []) before
    ∙ append_assoc first (map answer_kind (take place calls)) (kind ∷ [])
    ∙ ap (λ (k : AnswerKind). first ++ (map answer_kind (take place calls) ++ k ∷ [])) (is ∙ ap answer_kind (sym here))
    ∙ ap (λ (ks : List AnswerKind). first ++ ks)
    (sym (map-append answer_kind (take place calls) (get_or calls place call ∷ [])))
    ∙ ap (λ (cs : List PlainCall). first ++ map answer_kind cs)
    (sym (take_more calls place call (slice_get_within calls place call at)))

-- ---- a name's number is its place

is_same : (a b : List ℕ) → bytes_eq a b ≡ true → a ≡ b
is_same a b e = (bytes_eq-Decides a b).0 e

same_is : (a b : List ℕ) → a ≡ b → bytes_eq a b ≡ true
same_is a b e = (bytes_eq-Decides a b).1 e

pub place_within : (names : List (List ℕ)) (name : List ℕ) (c : ℕ) → number_in names name ≡ Some c → c < length names
place_within names name c e = (position-Some (bytes_eq name) names c [] e).0

pub name_at_place : (names : List (List ℕ)) (name : List ℕ) (c : ℕ)
    → number_in names name ≡ Some c
    → name ≡ get_or names c []
name_at_place names name c e = is_same name (get_or names c []) (position-Some (bytes_eq name) names c [] e).1

-- names of which each is at its first place
abbrev pub OwnNames : List (List ℕ) → Type 0
OwnNames names = (c : ℕ) → c < length names → (k : ℕ) → k < c → bytes_eq (get_or names c []) (get_or names k []) ≡ false

pub own_number : (names : List (List ℕ))
    → OwnNames names
    → (c : ℕ)
    → c < length names
    → number_in names (get_or names c []) ≡ Some c
own_number names own c within =
    let name = get_or names c [] in
    let first : position_or_len (bytes_eq name) names ≡ c =
    position_or_len_is (bytes_eq name) names c [] (omega arith) (λ k below. own c within k below)
    (λ _. same_is name name refl) in
    ap (λ n. cond (nat_lt n (length names)) (Some n) None) first
    ∙ ap (λ b. cond b (Some c) None) (lt-ltb c (length names) within)

not_there : (b : Bool) (name : List ℕ) (names : List (List ℕ))
    → list_any (bytes_eq name) names ≡ false
    → (k : ℕ)
    → k < length names
    → bytes_eq name (get_or names k []) ≡ false
not_there b name [] none k within = absurd (omega (arith, within))
not_there b name (n ∷ names) none zero within = (or_parts (bytes_eq name n) (list_any (bytes_eq name) names) none).0
not_there b name (n ∷ names) none (suc k) within = not_there b name names
    (or_parts (bytes_eq name n) (list_any (bytes_eq name) names) none).1 k (omega (arith, within))

own_more : (names : List (List ℕ)) (name : List ℕ)
    → OwnNames names
    → list_any (bytes_eq name) names ≡ false
    → OwnNames (names ++ name ∷ [])
own_more names name own none c within k below =
    elim (inside (length names) c) [
      | inl lt ↦
          let here : get_or (names ++ name ∷ []) c [] ≡ get_or names c [] =
          get_or_append_left names (name ∷ []) [] c lt in
          let there : get_or (names ++ name ∷ []) k [] ≡ get_or names k [] =
          get_or_append_left names (name ∷ []) [] k (omega (arith, lt, below)) in
          ap (λ n. bytes_eq n (get_or (names ++ name ∷ []) k [])) here
          ∙ ap (λ n. bytes_eq (get_or names c []) n) there
          ∙ own c lt k below
      | inr ge ↦
          let last : c ≡ length names = omega (arith, ge, within, length-append names (name ∷ [])) in
          let small : k < length names = omega (arith, last, below) in
          let here : get_or (names ++ name ∷ []) c [] ≡ name =
          ap (λ n. get_or (names ++ name ∷ []) n []) last ∙ get_or-append_seam names name [] [] in
          let there : get_or (names ++ name ∷ []) k [] ≡ get_or names k [] =
          get_or_append_left names (name ∷ []) [] k small in
          ap (λ n. bytes_eq n (get_or (names ++ name ∷ []) k [])) here
          ∙ ap (λ n. bytes_eq name n) there
          ∙ not_there true name names none k small
    ]

own_with : (names : List (List ℕ)) (name : List ℕ) (has : Bool)
    → list_any (bytes_eq name) names ≡ has
    → OwnNames names
    → OwnNames (cond has names (names ++ name ∷ []))
own_with names name true e own = own
own_with names name false e own = own_more names name own e

own_from : (scripts : List PlainScript) (names : List (List ℕ))
    → OwnNames names
    → OwnNames (fold (λ names s. with_name names s.name) names scripts)
own_from [] names own = own
own_from (s ∷ scripts) names own =
    own_from scripts (with_name names s.name) (own_with names s.name (list_any (bytes_eq s.name) names) refl own)

pub own_names : (scripts : List PlainScript) → OwnNames (names_of scripts)
own_names scripts = own_from scripts [] (λ c within. absurd (omega (arith, within)))

-- ---- the rows

own_kinds : (b : Bool) (calls : List PlainCall) → map answer_kind (cond b calls []) ≡ cond b (map answer_kind calls) []
own_kinds true calls = refl
own_kinds false calls = refl

kinds_more : (before : List PlainScript) (s : PlainScript) (name : List ℕ)
    → kinds_under (before ++ s ∷ []) name
    ≡ kinds_under before name ++ cond (bytes_eq s.name name) (map answer_kind s.calls) []
kinds_more before s name =
    let own : List PlainCall = cond (bytes_eq s.name name) s.calls [] in
    ap (map answer_kind) (flat_map-append (λ x. cond (bytes_eq x.name name) x.calls []) before (s ∷ [])
    ∙ ap (λ calls. calls_under name before ++ calls) (append-nil own))
    ∙ map-append answer_kind (calls_under name before) own
    ∙ ap (λ kinds. kinds_under before name ++ kinds) (own_kinds (bytes_eq s.name name) s.calls)

kinds_same : (before : List PlainScript) (s : PlainScript) (name : List ℕ)
    → bytes_eq s.name name ≡ true
    → kinds_under (before ++ s ∷ []) name ≡ kinds_under before name ++ map answer_kind s.calls
kinds_same before s name e =
    kinds_more before s name ∙ ap (λ b. kinds_under before name ++ cond b (map answer_kind s.calls) []) e

kinds_other : (before : List PlainScript) (s : PlainScript) (name : List ℕ)
    → bytes_eq s.name name ≡ false
    → kinds_under (before ++ s ∷ []) name ≡ kinds_under before name
kinds_other before s name e =
    kinds_more before s name
    ∙ ap (λ b. kinds_under before name ++ cond b (map answer_kind s.calls) []) e
    ∙ append-nil (kinds_under before name)

abbrev rows_of : List (List ℕ) → List PlainScript → List (List AnswerKind)
rows_of names scripts = map (kinds_under scripts) names

row_is : (names : List (List ℕ)) (scripts : List PlainScript) (k : ℕ) (d : List AnswerKind)
    → k < length names
    → get_or (rows_of names scripts) k d ≡ kinds_under scripts (get_or names k [])
row_is names scripts k d within = get_or-map (kinds_under scripts) names k [] d within

row_then : (names : List (List ℕ)) (before : List PlainScript) (s : PlainScript)
    → OwnNames names
    → (number : Option ℕ)
    → number_in names s.name ≡ number
    → rows_with (rows_of names before) s number ≡ rows_of names (before ++ s ∷ [])
row_then names before s own None none =
    same_lists (rows_of names before) (rows_of names (before ++ s ∷ []))
    (length-map names (kinds_under before) ∙ sym (length-map names (kinds_under (before ++ s ∷ [])))) (λ k d within.
    let small : k < length names = omega (arith, within, length-map names (kinds_under before)) in
    let name = get_or names k [] in
    row_is names before k d small
    ∙ sym (kinds_other before s name
    (is_false (bytes_eq s.name name)
    (λ yes. clash (sym none ∙ ap (number_in names) (is_same s.name name yes) ∙ own_number names own k small))))
    ∙ sym (row_is names (before ++ s ∷ []) k d small))
  where
    clash : {X : Type 0} {x : X} → None ≡ Some x → ⊥
    clash e = cc
row_then names before s own (Some c) at =
    let rows = rows_of names before in
    let row = get_or rows c [] ++ map answer_kind s.calls in
    let within_c = place_within names s.name c at in
    same_lists (set rows c row) (rows_of names (before ++ s ∷ []))
    (length-set rows c row
    ∙ length-map names (kinds_under before)
    ∙ sym (length-map names (kinds_under (before ++ s ∷ []))))
    (λ k d within.
    let small : k < length names =
    omega (arith, within, length-set rows c row, length-map names (kinds_under before)) in
    let name = get_or names k [] in
    elim (same_or k c (k == c) refl) [
      | inl here ↦
          let named : s.name ≡ name = name_at_place names s.name c at ∙ ap (λ n. get_or names n []) (sym here) in
          ap (λ n. get_or (set rows c row) n d) here
          ∙ get_or-set_same rows c row d (omega (arith, within_c, length-map names (kinds_under before)))
          ∙ ap (λ kinds. kinds ++ map answer_kind s.calls)
          (row_is names before c [] within_c ∙ ap (λ n. kinds_under before (get_or names n [])) (sym here))
          ∙ sym (kinds_same before s name (same_is s.name name named)) ∙ sym (row_is names (before ++ s ∷ []) k d small)
      | inr apart ↦
          get_or-set_other rows c k row d apart ∙ row_is names before k d small
          ∙ sym (kinds_other before s name
          (is_false (bytes_eq s.name name) (λ yes. apart (some_is k c
          (sym (own_number names own k small) ∙ ap (number_in names) (sym (is_same s.name name yes)) ∙ at)))))
          ∙ sym (row_is names (before ++ s ∷ []) k d small)
    ])
  where
    some_is : (x y : ℕ) → Some x ≡ Some y → x ≡ y
    some_is x y e = cc

rows_all : (names : List (List ℕ))
    → OwnNames names
    → (rest before : List PlainScript)
    → rows_after names (rows_of names before) rest ≡ rows_of names (before ++ rest)
rows_all names own [] before = ap (rows_of names) (sym (append-nil before))
rows_all names own (s ∷ rest) before =
    ap (λ rows. rows_after names rows rest) (row_then names before s own (number_in names s.name) refl)
    ∙ rows_all names own rest (before ++ s ∷ []) ∙ ap (rows_of names) (append_assoc before (s ∷ []) rest)

empty_rows : (names : List (List ℕ)) → rows_of names [] ≡ replicate (length names) []
empty_rows [] = refl
empty_rows (name ∷ names) = ap (λ rows. [] ∷ rows) (empty_rows names)

-- the rows that are made are those of the port's callers
pub rows_made : (names : List (List ℕ)) (scripts : List PlainScript)
    → names ≡ names_of scripts
    → rows_after names (replicate (length names) []) scripts ≡ map (kinds_under scripts) (names_of scripts)
rows_made names scripts is =
    ap (λ ns. rows_after ns (replicate (length ns) []) scripts) is
    ∙ ap (λ rows. rows_after (names_of scripts) rows scripts) (sym (empty_rows (names_of scripts)))
    ∙ rows_all (names_of scripts) (own_names scripts) scripts []

pub callers_made : (port : ℕ) (session : PlainSession) (names : List (List ℕ)) (rows : List (List AnswerKind))
    → names ≡ names_of (scripts_over port session.phases)
    → rows ≡ rows_after names (replicate (length names) []) (scripts_over port session.phases)
    → (let callers : PlainCallers = record { names = names; kinds = rows } in callers ≡ callers_on port session)
callers_made port session names rows named made =
    let all = made ∙ rows_made names (scripts_over port session.phases) named in
    λ i. record { names = named i; kinds = all i }
