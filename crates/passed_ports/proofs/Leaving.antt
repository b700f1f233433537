-- What the callers of a phase have to call, by their roles: whatever calls these are. Behind them may stand others, of
-- which nothing is said.
use Rattle.std.proofs.Common.{◌≡◌, ◌≤◌, ◌<◌, ◌⊎◌, inl, inr, ℕ, zero, suc, ◌+◌, ◌==◌, ◌||◌, Bool, true, false, cond}
use Rattle.std.proofs.Common.{List, [], ◌∷◌, ◌++◌, Option, None, Some, length, map, take, drop}
use Rattle.std.proofs.Common.{if◌then◌else◌, refl, sym, ap, ◌∙◌, subst, arith, length-append}
use Rattle.std.specs.Prelude.{All, IsSome, sum_by, slice_get, slice_index_or}
use Rattle.std.specs.Str.{bytes_eq}
use Rattle.std.proofs.lemmas.Bool.{false≢true}
use Rattle.std.proofs.lemmas.List.{length-map}
use Rattle.std.proofs.lemmas.List.Elements.{All-head, All-tail}
use Rattle.std.proofs.lemmas.List.Sums.{sum_by-cons, sum_by-append}
use Rattle.tty_base.specs.Sizes.{MOST_STEPS}
use Rattle.tty_calls.specs.declared.sessions.Script.{Script}
use Rattle.tty_calls.specs.Sessions.{PlainScript, script_of, number_in}
use Rattle.legal_runs.proofs.ScriptLemmas.{at_number}
use Rattle.play_base.specs.Casting.{number_or, IsNumbered, own_scripts, role_for, cast_of}
use Rattle.play_base.specs.Roles.{PlainRole, role_in}
use Rattle.one_thread.specs.Turns.{IsAbsent}
use Rattle.play_base.specs.declared.roles.Role.{Role}
use Rattle.play_base.proofs.NameLemmas.{eq_name, HaveOwnNames, own_names}
use Rattle.passed_calls.specs.declared.placed.PlacedCall.{PlacedCall}
use Rattle.passed_calls.specs.Blocks.{Block, bare, blocks_on, names_on, steps_under}
use Rattle.passed_calls.specs.Derived.{BlockPhase, blocks_of}
use Rattle.passed_calls.specs.Scripts.{AnyCall, CallerScript, block_of, count_in, mixed, mixed_scripts, calls_named}
use Rattle.passed_calls.specs.Scripts.{numbered_call}
use Rattle.passed_calls.specs.Within.{IsBlockPhaseWithin, call_count}
use Rattle.order_laws.specs.Passed.{steps_named, begin_of}
use Rattle.order_laws.proofs.Passings.{first_within}
use Rattle.order_laws.proofs.Shares.{on_port, over, named, AreCounted, begin_nobody, begin_next}
use Rattle.order_laws.proofs.Shares.{call_of_phase, has, none_named, own_named, Own}
use Rattle.calls_left.specs.Remaining.{left_at, IsLeftTo}

-- ---- names of scripts

abbrev pub names_one : {C : Type 0} → List (CallerScript C) → List (List ℕ)
names_one ss = map (λ s. s.name) ss

abbrev pub names_plain : List PlainScript → List (List ℕ)
names_plain ss = map (λ (s : PlainScript). s.name) ss

one_name : {C : Type 0} (b : Bool) (o : CallerScript C) (s : PlainScript) (os : List (CallerScript C))
    (ss : List PlainScript)
    → o.name ≡ s.name
    → names_one os ≡ names_plain ss
    → names_one (cond b (o ∷ os) os) ≡ names_plain (cond b (s ∷ ss) ss)
one_name true o s os ss same rest = λ i. same i ∷ rest i
one_name false o s os ss same rest = rest

pub mixed_names : {C : Type 0} (k : ℕ) (ss : List PlainScript) (placed : List (PlacedCall C)) (p : ℕ)
    → names_one (on_port p (mixed_scripts k ss placed)) ≡ names_plain (own_scripts p ss)
mixed_names k [] placed p = refl
mixed_names {C} k (s ∷ ss) placed p =
    let rest : List (PlacedCall C) = drop (count_in k placed) placed in
    let here : CallerScript (AnyCall C) =
    record { port = s.port; name = s.name; calls = mixed 0 s.calls (take (count_in k placed) placed) } in
    one_name (s.port == p) here s (on_port p (mixed_scripts (k + 1) ss rest)) (own_scripts p ss) refl
    (mixed_names (k + 1) ss rest p)

-- ---- places in lists

pub below_if : {X : Type 0} (xs : List X) (i : ℕ) (x : X) → slice_get xs i ≡ Some x → i < length xs
below_if [] i x is = absurd (cc)
below_if (y ∷ ys) zero x is = omega arith
below_if (y ∷ ys) (suc i) x is = (let rest = below_if ys i x is in omega (arith, rest))

pub some_at : {X : Type 0} (xs : List X) (i : ℕ) → i < length xs → (x : X) × (slice_get xs i ≡ Some x)
some_at [] i lt = absurd (omega (arith, lt))
some_at (x ∷ xs) zero lt = (x, refl)
some_at (x ∷ xs) (suc i) lt = some_at xs i (omega (arith, lt))

pub get_map : {X Y : Type 0} (f : X → Y) (xs : List X) (i : ℕ) (x : X)
    → slice_get xs i ≡ Some x
    → slice_get (map f xs) i ≡ Some (f x)
get_map f [] i x is = absurd (cc)
get_map f (y ∷ xs) zero x is = (let same : y ≡ x = cc in ap (λ z. Some (f z)) same)
get_map f (y ∷ xs) (suc i) x is = get_map f xs i x is

pub some_is : {X : Type 0} (x y : X) → Some x ≡ Some y → x ≡ y
some_is x y e = cc

in_front : {X : Type 0} (xs ys : List X) (i : ℕ) (x : X)
    → slice_get xs i ≡ Some x
    → slice_get (xs ++ ys) i ≡ Some x
in_front [] ys i x is = absurd (cc)
in_front (y ∷ xs) ys zero x is = is
in_front (y ∷ xs) ys (suc i) x is = in_front xs ys i x is

behind : {X : Type 0} (xs ys : List X) (j : ℕ) (x : X)
    → slice_get ys j ≡ Some x
    → slice_get (xs ++ ys) (length xs + j) ≡ Some x
behind [] ys j x is = (let same : 0 + j ≡ j = omega arith in ap (λ (n : ℕ). slice_get ys n) same ∙ is)
behind (y ∷ xs) ys j x is = (let same : suc (length xs) + j ≡ suc (length xs + j) = omega arith in
    ap (λ (n : ℕ). slice_get (y ∷ (xs ++ ys)) n) same ∙ behind xs ys j x is)

calls_at : {C : Type 0} (ss : List (CallerScript C)) (i : ℕ) (s : CallerScript C)
    → slice_get ss i ≡ Some s
    → left_at (map (λ x. x.calls) ss) i ≡ s.calls
calls_at [] i s is = absurd (cc)
calls_at {C} (x ∷ ss) zero s is = (let same : x ≡ s = cc in ap (λ (y : CallerScript C). y.calls) same)
calls_at (x ∷ ss) (suc i) s is = calls_at ss i s is

-- ---- how many steps

one_few : (t : Bool) (n : ℕ) → (if t then n else 0) ≤ n
one_few true n = omega arith
one_few false n = omega arith

either_few : (p : ℕ) (name : List ℕ) (b : Block) (bs : List Block) (t : Bool)
    → (b.port == p) ≡ t
    → steps_under name (blocks_on p bs) ≤ sum_by (λ b. b.steps) bs
    → steps_under name (cond (b.port == p) (b ∷ blocks_on p bs) (blocks_on p bs)) ≤ sum_by (λ b. b.steps) (b ∷ bs)
either_few p name b bs true is rest =
    let here = one_few (bytes_eq b.name name) b.steps in
    let same = ap (λ (t : Bool). steps_under name (cond t (b ∷ blocks_on p bs) (blocks_on p bs))) is in
    let left_more = sum_by-cons (λ (x : Block). if bytes_eq x.name name then x.steps else 0) b (blocks_on p bs) in
    let right_more = sum_by-cons (λ (x : Block). x.steps) b bs in
    omega (arith, here, rest, same, left_more, right_more)
either_few p name b bs false is rest =
    let same = ap (λ (t : Bool). steps_under name (cond t (b ∷ blocks_on p bs) (blocks_on p bs))) is in
    let right_more = sum_by-cons (λ (x : Block). x.steps) b bs in
    omega (arith, rest, same, right_more)

under_few : (p : ℕ) (name : List ℕ) (bs : List Block) → steps_under name (blocks_on p bs) ≤ sum_by (λ b. b.steps) bs
under_few p name [] = omega arith
under_few p name (b ∷ bs) = either_few p name b bs (b.port == p) refl (under_few p name bs)

count_same : (phases : List BlockPhase) → sum_by (λ (b : Block). b.steps) (blocks_of phases) ≡ call_count phases
count_same [] = refl
count_same (phase ∷ phases) =
    let both = sum_by-append (λ (b : Block). b.steps) phase.blocks (blocks_of phases) in
    let more = sum_by-cons (λ (x : BlockPhase). sum_by (λ b. b.steps) x.blocks) phase phases in
    omega (arith, both, more, count_same phases)

pub steps_few : (p : ℕ) (phases : List BlockPhase) (k : ℕ) (o : Option (List ℕ))
    → steps_named p (blocks_of (take k phases)) o ≤ call_count phases
steps_few p phases k o = (let rise = first_within p k phases o in let few = all_few o in omega (arith, rise, few))
  where
    all_few : (o : Option (List ℕ)) → steps_named p (blocks_of phases) o ≤ call_count phases
    all_few None = omega arith
    all_few (Some name) =
        (let under = under_few p name (blocks_of phases) in let same = count_same phases in omega (arith, under, same))

-- ---- a caller of the phase

some_number : (o : Option ℕ) → IsSome o → o ≡ Some (number_or o)
some_number None h = absurd (false≢true h)
some_number (Some n) h = refl

-- a name is none of these, or a caller's that is named there
abbrev pub IsNoneOf : List (List ℕ) → List ℕ → Type 0
IsNoneOf others name = (j : ℕ) → slice_get others j ≡ Some name → ⊥

abbrev pub IsNobodyOf : List (List ℕ) → List (List ℕ) → (c : ℕ) → Type 0
IsNobodyOf names others c = (name : List ℕ) → slice_get names c ≡ Some name → IsNoneOf others name

-- What is known of a phase and its callers, with the names of the others behind them.
pub record HasShares {C : Type 0} (p k : ℕ) (phases : List BlockPhase) (scripts : List (List (CallerScript C)))
    (plain : List PlainScript) (names others : List (List ℕ)) (ss : List (CallerScript C)) (next : List ℕ)
    : Type 0 where
  pub few_calls : call_count phases ≤ MOST_STEPS
  pub at_phase : slice_get scripts k ≡ Some ss
  pub own_names : Own (on_port p ss)
  pub apart : (i : ℕ) (o : CallerScript C) → slice_get (on_port p ss) i ≡ Some o → IsNoneOf others o.name
  pub counted : (name : List ℕ) → IsNoneOf others name → AreCounted p phases scripts name
  pub same_names : names_plain (own_scripts p plain) ≡ names_one (on_port p ss) ++ others
  pub numbered : All (IsNumbered names) (own_scripts p plain)
  pub names_are : names ≡ names_on p (blocks_of phases)
  pub own_places : (c : ℕ) (name : List ℕ) → slice_get names c ≡ Some name → number_in names name ≡ Some c
  pub next_many : length next ≡ length names
  pub next_are : (c : ℕ) → IsNobodyOf names others c → slice_index_or next c 0 ≡ begin_of p phases k c

one_of : (P : PlainScript → Type 0) (xs : List PlainScript) (i : ℕ) (x : PlainScript)
    → All P xs
    → slice_get xs i ≡ Some x
    → P x
one_of P [] i x h is = absurd (cc)
one_of P (y ∷ xs) zero x h is = subst P (some_is y x is) (All-head P y xs h)
one_of P (y ∷ xs) (suc i) x h is = one_of P xs i x (All-tail P y xs h) is

-- the number of the caller of a script
number_there : (names : List (List ℕ)) (plain : List PlainScript) (i : ℕ) (s : PlainScript)
    → All (IsNumbered names) plain
    → slice_get plain i ≡ Some s
    → slice_get names (number_or (number_in names s.name)) ≡ Some s.name
number_there names plain i s numbered is =
    at_number names s.name (number_or (number_in names s.name))
    (some_number (number_in names s.name) (one_of (IsNumbered names) plain i s numbered is))

-- its role
role_there : (scripts : List Script) (names : List (List ℕ)) (steps : List ℕ) (p i : ℕ) (roles : List Role)
    (s : PlainScript)
    → map (role_in scripts) roles ≡ cast_of names steps p (map script_of scripts)
    → slice_get (own_scripts p (map script_of scripts)) i ≡ Some s
    → (r : Role) × (slice_get roles i ≡ Some r) × (r.number ≡ number_or (number_in names s.name))
role_there scripts names steps p i roles s cast is =
    let plain = own_scripts p (map script_of scripts) in
    let many : length roles ≡ length plain =
    sym (length-map roles (role_in scripts))
    ∙ (ap (λ (rs : List PlainRole). length rs) cast ∙ length-map plain (role_for names steps)) in
    let r = some_at roles i (omega (arith, below_if plain i s is, many)) in (
      r.0,
      r.1,
      ap (λ (x : PlainRole). x.number)
          (some_is (role_in scripts r.0) (role_for names steps s)
          (sym (get_map (role_in scripts) roles i r.0 r.1)
          ∙ (ap (λ (rs : List PlainRole). slice_get rs i) cast ∙ get_map (role_for names steps) plain i s is))),
    )

-- a script by its name
plain_there : (plain : List PlainScript) (i : ℕ) (name : List ℕ)
    → slice_get (names_plain plain) i ≡ Some name
    → (s : PlainScript) × (slice_get plain i ≡ Some s) × (s.name ≡ name)
plain_there [] i name is = absurd (cc)
plain_there (s ∷ ss) zero name is = (s, refl, some_is s.name name is)
plain_there (s ∷ ss) (suc i) name is = plain_there ss i name is

left_to : {C : Type 0} (p k : ℕ) (phases : List BlockPhase) (scripts : List (List (CallerScript C)))
    (plain : List PlainScript) (names others : List (List ℕ)) (ss : List (CallerScript C)) (next : List ℕ) (i c : ℕ)
    (o : CallerScript C)
    → HasShares p k phases scripts plain names others ss next
    → slice_get (on_port p ss) i ≡ Some o
    → slice_get names c ≡ Some o.name
    → IsLeftTo p k phases (numbered_call names (over p scripts)) next c o.calls
left_to {C} p k phases scripts plain names others ss next i c o h is named_c =
    let own = on_port p ss in
    let name_block : slice_get (names_on p (blocks_of phases)) c ≡ Some o.name =
    ap (λ (ns : List (List ℕ)). slice_get ns c) (sym h.names_are) ∙ named_c in
    let mine : named o.name own ≡ o.calls = own_named own i o h.own_names is in
    let many = ap (λ (cs : List C). length cs) mine in
    let apart = h.apart i o is in
    let here = h.next_are c (λ name there. subst (IsNoneOf others) (some_is o.name name (sym named_c ∙ there)) apart) in
    let counted = h.counted o.name apart in
    let grows = begin_next p phases scripts k c o.name ss name_block counted h.at_phase in
    let few = steps_few p phases (k + 1) (slice_get (names_on p (blocks_of phases)) c) in
    let most = h.few_calls in
    record {
      known = omega (arith, below_if names c o.name named_c, h.next_many);
      from = omega (arith, here);
      count = omega (arith, here, grows, many);
      each = λ j lt.
          ap (λ (n : ℕ). numbered_call names (over p scripts) c (n + j)) here
          ∙ (ap (λ (x : Option (List ℕ)). slice_get (calls_named x (over p scripts)) (begin_of p phases k c + j))
          named_c
          ∙ (call_of_phase p phases scripts k c j o.name ss name_block counted h.at_phase (omega (arith, lt, many))
          ∙ ap (λ (cs : List C). slice_get cs j) mine));
      few = omega (arith, here, grows, many, few, most);
    }

-- who has a script of a name
abbrev Found : {C : Type 0} → List (CallerScript C) → List ℕ → Type 0
Found {C} ss name = (i : ℕ) × (s : CallerScript C) × (slice_get ss i ≡ Some s) × (s.name ≡ name)

either_found : {C : Type 0} (s : CallerScript C) (ss : List (CallerScript C)) (name : List ℕ) (b : Bool)
    → bytes_eq s.name name ≡ b
    → (b || has ss name) ≡ true
    → (has ss name ≡ true → Found ss name)
    → Found (s ∷ ss) name
either_found s ss name true is h rest = (0, s, refl, eq_name s.name name is)
either_found s ss name false is h rest = (let later = rest h in (suc later.0, later.1, later.2, later.3))

found_at : {C : Type 0} (ss : List (CallerScript C)) (name : List ℕ) → has ss name ≡ true → Found ss name
found_at [] name h = absurd (false≢true h)
found_at (s ∷ ss) name h = either_found s ss name (bytes_eq s.name name) refl h (found_at ss name)

true_or_false : (b : Bool) → (b ≡ true) ⊎ (b ≡ false)
true_or_false true = inl refl
true_or_false false = inr refl

option_cases : (o : Option (List ℕ)) → (o ≡ None) ⊎ ((name : List ℕ) × (o ≡ Some name))
option_cases None = inl refl
option_cases (Some name) = inr (name, refl)

-- a caller that is absent has no script of its name there
absent_from : (p : ℕ) (scripts : List Script) (names : List (List ℕ)) (steps : List ℕ) (roles : List Role) (c : ℕ)
    (name : List ℕ) (i : ℕ)
    → map (role_in scripts) roles ≡ cast_of names steps p (map script_of scripts)
    → number_in names name ≡ Some c
    → IsAbsent roles c
    → slice_get (names_plain (own_scripts p (map script_of scripts))) i ≡ Some name
    → ⊥
absent_from p scripts names steps roles c name i cast number absent is =
    let s = plain_there (own_scripts p (map script_of scripts)) i name is in
    let r = role_there scripts names steps p i roles s.0 cast s.1 in
    absent i r.0 r.1 (r.2 ∙ ap number_or (ap (number_in names) s.2 ∙ number))

-- what is left to the callers by their roles; who is absent has none
pub record AreSharesLeft {C : Type 0} (p k : ℕ) (phases : List BlockPhase) (calls : (caller step : ℕ) → Option C)
    (roles : List Role) (next : List ℕ) (left : List (List C)) (others : ℕ) : Type 0 where
  pub many : length left + others ≡ length roles
  pub each : (i : ℕ) (r : Role)
      → slice_get roles i ≡ Some r
      → i < length left
      → IsLeftTo p k phases calls next r.number (left_at left i)
  pub absent : (c : ℕ) → IsAbsent roles c → slice_index_or next c 0 ≡ begin_of p phases (k + 1) c

pub shares_left : {C : Type 0} (p k : ℕ) (phases : List BlockPhase) (scripts : List (List (CallerScript C)))
    (kept : List Script) (names others : List (List ℕ)) (steps : List ℕ) (ss : List (CallerScript C)) (next : List ℕ)
    (roles : List Role)
    → HasShares p k phases scripts (map script_of kept) names others ss next
    → map (role_in kept) roles ≡ cast_of names steps p (map script_of kept)
    → AreSharesLeft p k phases (numbered_call names (over p scripts)) roles next (map (λ s. s.calls) (on_port p ss))
    (length others)
shares_left {C} p k phases scripts kept names others steps ss next roles h cast =
    let own = on_port p ss in
    let plain = own_scripts p (map script_of kept) in
    let roles_many : length roles ≡ length plain =
    sym (length-map roles (role_in kept))
    ∙ (ap (λ (rs : List PlainRole). length rs) cast ∙ length-map plain (role_for names steps)) in
    let plain_many : length plain ≡ length own + length others =
    sym (length-map plain (λ (s : PlainScript). s.name))
    ∙ (ap (λ (ns : List (List ℕ)). length ns) h.same_names
    ∙ (length-append (names_one own) others
    ∙ ap (λ (n : ℕ). n + length others) (length-map own (λ (s : CallerScript C). s.name)))) in
    let left_many = length-map own (λ (s : CallerScript C). s.calls) in
    record {
      many = omega (arith, roles_many, plain_many, left_many);
      each = λ i r is lt.
          let o = some_at own i (omega (arith, lt, left_many)) in
          let there : slice_get (names_plain plain) i ≡ Some (o.0).name =
          ap (λ (ns : List (List ℕ)). slice_get ns i) h.same_names
          ∙ in_front (names_one own) others i (o.0).name (get_map (λ (s : CallerScript C). s.name) own i o.0 o.1) in
          let s = plain_there plain i (o.0).name there in
          let q = role_there kept names steps p i roles s.0 cast s.1 in
          let number : r.number ≡ number_or (number_in names (s.0).name) =
          ap (λ (x : Role). x.number) (some_is r q.0 (sym is ∙ q.1)) ∙ q.2 in
          let found : slice_get names r.number ≡ Some (o.0).name =
          ap (λ (m : ℕ). slice_get names m) number
          ∙ (number_there names plain i s.0 h.numbered s.1 ∙ ap (λ (n : List ℕ). Some n) s.2) in
          subst (IsLeftTo p k phases (numbered_call names (over p scripts)) next r.number)
          (sym (calls_at own i o.0 o.1))
          (left_to p k phases scripts (map script_of kept) names others ss next i r.number o.0 h o.1 found);
      absent = λ c gone. elim (option_cases (slice_get names c)) [
        | inl none ↦
            (let there : slice_get (names_on p (blocks_of phases)) c ≡ None =
            ap (λ (ns : List (List ℕ)). slice_get ns c) (sym h.names_are) ∙ none in
            let here = h.next_are c (λ name is. absurd (none_some name (sym none ∙ is))) in
            here ∙ (begin_nobody p phases k c there ∙ sym (begin_nobody p phases (k + 1) c there)))
        | inr some ↦
            (let name = some.0 in
            let number = h.own_places c name some.1 in
            let nowhere : (i : ℕ) → slice_get (names_plain plain) i ≡ Some name → ⊥ =
            λ i. absent_from p kept names steps roles c name i cast number gone in
            let apart : IsNoneOf others name = λ j is. nowhere (length (names_one own) + j)
            (ap (λ (ns : List (List ℕ)). slice_get ns (length (names_one own) + j)) h.same_names
            ∙ behind (names_one own) others j name is) in
            let there : slice_get (names_on p (blocks_of phases)) c ≡ Some name =
            ap (λ (ns : List (List ℕ)). slice_get ns c) (sym h.names_are) ∙ some.1 in
            let here = h.next_are c (λ x is. subst (IsNoneOf others) (some_is name x (sym some.1 ∙ is)) apart) in
            let grows = begin_next p phases scripts k c name ss there (h.counted name apart) h.at_phase in
            let empty : named name own ≡ [] = elim (true_or_false (has own name)) [
              | inl is_there ↦
                  (let at = found_at own name is_there in
                  absurd (nowhere at.0
                  (ap (λ (ns : List (List ℕ)). slice_get ns at.0) h.same_names
                  ∙ (in_front (names_one own) others at.0 (at.1).name
                  (get_map (λ (s : CallerScript C). s.name) own at.0 at.1 at.2)
                  ∙ ap (λ (n : List ℕ). Some n) at.3))))
              | inr not_there ↦ none_named own name not_there
            ] in
            let many = ap (λ (cs : List C). length cs) empty in
            omega (arith, here, grows, many))
      ];
    }
  where
    none_some : (name : List ℕ) → None ≡ Some name → ⊥
    none_some name e = absurd (cc)

-- ---- names of blocks

bare_same : (bs : List Block) → names_plain (map bare bs) ≡ map (λ b. b.name) bs
bare_same [] = refl
bare_same (b ∷ bs) = λ i. b.name ∷ bare_same bs i

-- the blocks of a port have names of their own
pub own_blocks : (ports p : ℕ) (phase : BlockPhase)
    → IsBlockPhaseWithin ports phase
    → HaveOwnNames (map bare (blocks_on p phase.blocks))
own_blocks ports p phase within = own_names (map bare (blocks_on p phase.blocks))
    (within.own_names p ∙ sym (bare_same (blocks_on p phase.blocks)))

bare_map : {C : Type 0} (ss : List (CallerScript C)) → map bare (map block_of ss) ≡ map (λ s. bare (block_of s)) ss
bare_map [] = refl
bare_map (s ∷ ss) = λ i. bare (block_of s) ∷ bare_map ss i

-- and so do scripts, whose blocks they are
pub own_scripts_of : {C : Type 0} (ports p : ℕ) (phase : BlockPhase) (ss : List (CallerScript C))
    → IsBlockPhaseWithin ports phase
    → blocks_on p phase.blocks ≡ map block_of (on_port p ss)
    → Own (on_port p ss)
own_scripts_of ports p phase ss within same =
    subst HaveOwnNames (ap (map bare) same ∙ bare_map (on_port p ss)) (own_blocks ports p phase within)

pub at_of : {X : Type 0} (P : X → Type 0) (xs : List X) (i : ℕ) (x : X) → All P xs → slice_get xs i ≡ Some x → P x
at_of P [] i x h is = absurd (cc)
at_of P (y ∷ xs) zero x h is = subst P (some_is y x is) (All-head P y xs h)
at_of P (y ∷ xs) (suc i) x h is = at_of P xs i x (All-tail P y xs h) is
