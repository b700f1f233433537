-- The calls of the callers of a phase, among all calls of their session: whatever calls these are.
use Rattle.std.proofs.Common.{◌≡◌, ◌<◌, ℕ, zero, suc, ◌+◌, ◌==◌, ◌||◌, Bool, true, false, cond, List, [], ◌∷◌}
use Rattle.std.proofs.Common.{◌++◌, Option, None, Some, length, map, filter, take, drop, if◌then◌else◌, refl, sym}
use Rattle.std.proofs.Common.{ap, ◌∙◌, subst, arith, append-nil, append_assoc, length-append}
use Rattle.std.specs.Prelude.{flat_map, slice_get}
use Rattle.std.specs.Str.{bytes_eq}
use Rattle.std.proofs.lemmas.Bool.{false≢true}
use Rattle.std.proofs.lemmas.List.Elements.{filter-append}
use Rattle.std.proofs.lemmas.List.Sums.{sum_by-cons}
use Rattle.legal_runs.proofs.NameLemmas.{same_name}
use Rattle.play_base.proofs.NameLemmas.{eq_name, has_name, HaveOwnNames}
use Rattle.passed_calls.specs.Blocks.{Block, bare, blocks_on, names_on, steps_under}
use Rattle.passed_calls.specs.Derived.{BlockPhase, blocks_of}
use Rattle.passed_calls.specs.Scripts.{CallerScript, block_of, calls_named}
use Rattle.order_laws.specs.Passed.{steps_named, begin_of}

-- the scripts of a port, and those in some phases
abbrev pub on_port : {C : Type 0} → ℕ → List (CallerScript C) → List (CallerScript C)
on_port p ss = filter (λ s. s.port == p) ss

abbrev pub over : {C : Type 0} → ℕ → List (List (CallerScript C)) → List (CallerScript C)
over p phases = flat_map (λ ss. on_port p ss) phases

-- ---- their blocks

blocks_if : {C : Type 0} (b : Bool) (s : CallerScript C) (p : ℕ) (ss : List (CallerScript C))
    → (s.port == p) ≡ b
    → blocks_on p (map block_of ss) ≡ map block_of (on_port p ss)
    → cond (s.port == p) (block_of s ∷ blocks_on p (map block_of ss)) (blocks_on p (map block_of ss))
    ≡ map block_of (cond (s.port == p) (s ∷ on_port p ss) (on_port p ss))
blocks_if true s p ss is rest =
    ap (λ (b : Bool). cond b (block_of s ∷ blocks_on p (map block_of ss)) (blocks_on p (map block_of ss))) is
    ∙ (ap (λ (bs : List Block). block_of s ∷ bs) rest
    ∙ sym (ap (λ (b : Bool). map block_of (cond b (s ∷ on_port p ss) (on_port p ss))) is))
blocks_if false s p ss is rest =
    ap (λ (b : Bool). cond b (block_of s ∷ blocks_on p (map block_of ss)) (blocks_on p (map block_of ss))) is
    ∙ (rest ∙ sym (ap (λ (b : Bool). map block_of (cond b (s ∷ on_port p ss) (on_port p ss))) is))

pub blocks_one : {C : Type 0} (p : ℕ) (ss : List (CallerScript C))
    → blocks_on p (map block_of ss) ≡ map block_of (on_port p ss)
blocks_one p [] = refl
blocks_one p (s ∷ ss) = blocks_if (s.port == p) s p ss refl (blocks_one p ss)

pub map_append : {X Y : Type 0} (f : X → Y) (xs ys : List X) → map f (xs ++ ys) ≡ map f xs ++ map f ys
map_append f [] ys = refl
map_append {X} {Y} f (x ∷ xs) ys = ap (λ (zs : List Y). f x ∷ zs) (map_append f xs ys)

pub blocks_over : {C : Type 0} (p : ℕ) (phases : List BlockPhase) (scripts : List (List (CallerScript C)))
    → map (λ (phase : BlockPhase). phase.blocks) phases ≡ map (map block_of) scripts
    → blocks_on p (blocks_of phases) ≡ map block_of (over p scripts)
blocks_over p [] [] same = refl
blocks_over p [] (ss ∷ scripts) same = absurd (cc)
blocks_over p (phase ∷ phases) [] same = absurd (cc)
blocks_over p (phase ∷ phases) (ss ∷ scripts) same =
    let here : phase.blocks ≡ map block_of ss = cc in
    let rest : map (λ (x : BlockPhase). x.blocks) phases ≡ map (map block_of) scripts = cc in
    filter-append (λ (b : Block). b.port == p) phase.blocks (blocks_of phases)
    ∙ ((λ i. (ap (blocks_on p) here ∙ blocks_one p ss) i ++ blocks_over p phases scripts rest i)
    ∙ sym (map_append block_of (on_port p ss) (over p scripts)))

-- ---- calls under a name

abbrev pub named : {C : Type 0} → List ℕ → List (CallerScript C) → List C
named name ss = calls_named (Some name) ss

one_length : {C : Type 0} (b : Bool) (calls : List C)
    → length (if b then calls else []) ≡ (if b then length calls else 0)
one_length true calls = refl
one_length false calls = refl

pub named_length : {C : Type 0} (name : List ℕ) (ss : List (CallerScript C))
    → length (named name ss) ≡ steps_under name (map block_of ss)
named_length name [] = refl
named_length name (s ∷ ss) =
    let here = one_length (bytes_eq s.name name) s.calls in
    let rest = named_length name ss in
    let both = length-append (if bytes_eq s.name name then s.calls else []) (named name ss) in
    let more =
    sum_by-cons (λ (b : Block). if bytes_eq b.name name then b.steps else 0) (block_of s) (map block_of ss) in
    omega (arith, here, rest, both, more)

pub named_append : {C : Type 0} (name : List ℕ) (xs ys : List (CallerScript C))
    → named name (xs ++ ys) ≡ named name xs ++ named name ys
named_append name [] ys = refl
named_append {C} name (x ∷ xs) ys =
    let here : List C = if bytes_eq x.name name then x.calls else [] in
    ap (λ (cs : List C). here ++ cs) (named_append name xs ys) ∙ sym (append_assoc here (named name xs) (named name ys))

pub over_append : {C : Type 0} (p : ℕ) (xs ys : List (List (CallerScript C)))
    → over p (xs ++ ys) ≡ over p xs ++ over p ys
over_append p [] ys = refl
over_append {C} p (x ∷ xs) ys =
    let here : List (CallerScript C) = on_port p x in
    ap (λ (ss : List (CallerScript C)). here ++ ss) (over_append p xs ys)
    ∙ sym (append_assoc here (over p xs) (over p ys))

-- ---- the phases before one, that one, and those behind it

pub parts : {X : Type 0} (xs : List X) (k : ℕ) (x : X)
    → slice_get xs k ≡ Some x
    → xs ≡ take k xs ++ x ∷ drop (suc k) xs
parts [] k x is = absurd (cc)
parts (y ∷ xs) zero x is = (let same : y ≡ x = cc in λ i. same i ∷ xs)
parts (y ∷ xs) (suc k) x is = (let rest = parts xs k x is in λ i. y ∷ rest i)

pub take_more : {X : Type 0} (xs : List X) (k : ℕ) (x : X)
    → slice_get xs k ≡ Some x
    → take (suc k) xs ≡ take k xs ++ x ∷ []
take_more [] k x is = absurd (cc)
take_more (y ∷ xs) zero x is = (let same : y ≡ x = cc in λ i. same i ∷ [])
take_more (y ∷ xs) (suc k) x is = (let rest = take_more xs k x is in λ i. y ∷ rest i)

pub take_map : {X Y : Type 0} (f : X → Y) (k : ℕ) (xs : List X) → take k (map f xs) ≡ map f (take k xs)
take_map f zero xs = refl
take_map f (suc k) [] = refl
take_map {X} {Y} f (suc k) (x ∷ xs) = ap (λ (ys : List Y). f x ∷ ys) (take_map f k xs)

-- a caller of this name has so many steps in the blocks of the first phases as these scripts have calls of it
abbrev pub AreCounted : {C : Type 0} → ℕ → List BlockPhase → List (List (CallerScript C)) → List ℕ → Type 0
AreCounted p phases scripts name =
    (k : ℕ) → steps_under name (blocks_on p (blocks_of (take k phases))) ≡ length (named name (over p (take k scripts)))

-- so it is of each name, where the blocks are those of the scripts
pub all_counted : {C : Type 0} (p : ℕ) (phases : List BlockPhase) (scripts : List (List (CallerScript C)))
    (name : List ℕ)
    → map (λ (phase : BlockPhase). phase.blocks) phases ≡ map (map block_of) scripts
    → AreCounted p phases scripts name
all_counted p phases scripts name same k =
    let front : map (λ (phase : BlockPhase). phase.blocks) (take k phases) ≡ map (map block_of) (take k scripts) =
    sym (take_map (λ (phase : BlockPhase). phase.blocks) k phases)
    ∙ (ap (λ (bs : List (List Block)). take k bs) same ∙ take_map (map block_of) k scripts) in
    ap (steps_under name) (blocks_over p (take k phases) (take k scripts) front)
    ∙ sym (named_length name (over p (take k scripts)))

-- a caller's first step in a phase counts its calls before
pub begin_named : {C : Type 0} (p : ℕ) (phases : List BlockPhase) (scripts : List (List (CallerScript C))) (k c : ℕ)
    (name : List ℕ)
    → slice_get (names_on p (blocks_of phases)) c ≡ Some name
    → AreCounted p phases scripts name
    → begin_of p phases k c ≡ length (named name (over p (take k scripts)))
begin_named p phases scripts k c name is counted =
    ap (λ (o : Option (List ℕ)). steps_named p (blocks_of (take k phases)) o) is ∙ counted k

pub begin_nobody : (p : ℕ) (phases : List BlockPhase) (k c : ℕ)
    → slice_get (names_on p (blocks_of phases)) c ≡ None
    → begin_of p phases k c ≡ 0
begin_nobody p phases k c is = ap (λ (o : Option (List ℕ)). steps_named p (blocks_of (take k phases)) o) is

pub begin_next : {C : Type 0} (p : ℕ) (phases : List BlockPhase) (scripts : List (List (CallerScript C))) (k c : ℕ)
    (name : List ℕ) (ss : List (CallerScript C))
    → slice_get (names_on p (blocks_of phases)) c ≡ Some name
    → AreCounted p phases scripts name
    → slice_get scripts k ≡ Some ss
    → begin_of p phases (k + 1) c ≡ begin_of p phases k c + length (named name (on_port p ss))
begin_next {C} p phases scripts k c name ss is counted at =
    let before = take k scripts in
    let own = on_port p ss in
    let first = begin_named p phases scripts k c name is counted in
    let next = begin_named p phases scripts (k + 1) c name is counted in
    let later : suc k ≡ k + 1 = omega arith in
    let grown : take (k + 1) scripts ≡ before ++ ss ∷ [] =
    ap (λ (n : ℕ). take n scripts) (sym later) ∙ take_more scripts k ss at in
    let whole : named name (over p (take (k + 1) scripts)) ≡ named name (over p before) ++ named name own =
    ap (λ (ps : List (List (CallerScript C))). named name (over p ps)) grown
    ∙ (ap (named name)
    (over_append p before (ss ∷ []) ∙ ap (λ (xs : List (CallerScript C)). over p before ++ xs) (append-nil own))
    ∙ named_append name (over p before) own) in
    let many = ap (λ (cs : List C). length cs) whole in
    let both = length-append (named name (over p before)) (named name own) in
    omega (arith, first, next, many, both)

pub get_later : {X : Type 0} (xs ys : List X) (i : ℕ) → slice_get (xs ++ ys) (length xs + i) ≡ slice_get ys i
get_later [] ys i = (let same : 0 + i ≡ i = omega arith in ap (λ (n : ℕ). slice_get ys n) same)
get_later (x ∷ xs) ys i = (let same : suc (length xs) + i ≡ suc (length xs + i) = omega arith in
    ap (λ (n : ℕ). slice_get (x ∷ (xs ++ ys)) n) same ∙ get_later xs ys i)

pub get_first : {X : Type 0} (xs ys : List X) (i : ℕ) → i < length xs → slice_get (xs ++ ys) i ≡ slice_get xs i
get_first [] ys i lt = absurd (omega (arith, lt))
get_first (x ∷ xs) ys zero lt = refl
get_first (x ∷ xs) ys (suc i) lt = get_first xs ys i (omega (arith, lt))

-- a caller's call by its step in a phase
pub call_of_phase : {C : Type 0} (p : ℕ) (phases : List BlockPhase) (scripts : List (List (CallerScript C))) (k c i : ℕ)
    (name : List ℕ) (ss : List (CallerScript C))
    → slice_get (names_on p (blocks_of phases)) c ≡ Some name
    → AreCounted p phases scripts name
    → slice_get scripts k ≡ Some ss
    → i < length (named name (on_port p ss))
    → slice_get (named name (over p scripts)) (begin_of p phases k c + i) ≡ slice_get (named name (on_port p ss)) i
call_of_phase {C} p phases scripts k c i name ss is counted at lt =
    let before = take k scripts in
    let own = on_port p ss in
    let later = drop (suc k) scripts in
    let first = begin_named p phases scripts k c name is counted in
    let whole : over p scripts ≡ over p before ++ (own ++ over p later) =
    ap (over p) (parts scripts k ss at) ∙ over_append p before (ss ∷ later) in
    let calls : named name (over p scripts)
    ≡ named name (over p before) ++ (named name own ++ named name (over p later)) =
    ap (named name) whole
    ∙ (named_append name (over p before) (own ++ over p later)
    ∙ ap (λ (cs : List C). named name (over p before) ++ cs) (named_append name own (over p later))) in
    (λ j. slice_get (calls j) (first j + i))
    ∙ (get_later (named name (over p before)) (named name own ++ named name (over p later)) i
    ∙ get_first (named name own) (named name (over p later)) i lt)

-- ---- names differ in a phase

abbrev pub has : {C : Type 0} → List (CallerScript C) → List ℕ → Bool
has ss name = has_name (map (λ s. bare (block_of s)) ss) name

or_parts : (a b : Bool) → (a || b) ≡ false → (a ≡ false) × (b ≡ false)
or_parts true b h = absurd (false≢true (sym h))
or_parts false b h = (refl, h)

or_true : (a b : Bool) → a ≡ true → (a || b) ≡ true
or_true true b h = refl
or_true false b h = absurd (false≢true h)

or_later : (a b : Bool) → b ≡ true → (a || b) ≡ true
or_later true b h = refl
or_later false b h = h

pub none_named : {C : Type 0} (ss : List (CallerScript C)) (name : List ℕ) → has ss name ≡ false → named name ss ≡ []
none_named [] name h = refl
none_named (s ∷ ss) name h =
    let none = or_parts (bytes_eq s.name name) (has ss name) h in
    ap (λ (b : Bool). (if b then s.calls else []) ++ named name ss) none.0 ∙ none_named ss name none.1

abbrev pub Own : {C : Type 0} → List (CallerScript C) → Type 0
Own ss = HaveOwnNames (map (λ s. bare (block_of s)) ss)

has_at : {C : Type 0} (ss : List (CallerScript C)) (i : ℕ) (s : CallerScript C)
    → slice_get ss i ≡ Some s
    → has ss s.name ≡ true
has_at [] i s is = absurd (cc)
has_at {C} (x ∷ ss) zero s is = (let same : x ≡ s = cc in or_true (bytes_eq x.name s.name) (has ss s.name)
    (ap (λ (y : CallerScript C). bytes_eq y.name s.name) same ∙ same_name s.name))
has_at (x ∷ ss) (suc i) s is = or_later (bytes_eq x.name s.name) (has ss s.name) (has_at ss i s is)

other_name : {C : Type 0} (x s : CallerScript C) (ss : List (CallerScript C)) (b : Bool)
    → bytes_eq x.name s.name ≡ b
    → has ss x.name ≡ false
    → has ss s.name ≡ true
    → b ≡ false
other_name x s ss true is none there = absurd (false≢true (sym none ∙ (ap (has ss) (eq_name x.name s.name is) ∙ there)))
other_name x s ss false is none there = refl

pub own_named : {C : Type 0} (ss : List (CallerScript C)) (i : ℕ) (s : CallerScript C)
    → Own ss
    → slice_get ss i ≡ Some s
    → named s.name ss ≡ s.calls
own_named [] i s own is = absurd (cc)
own_named {C} (x ∷ ss) zero s own is =
    let same : x ≡ s = cc in
    subst (λ (y : CallerScript C). named y.name (x ∷ ss) ≡ y.calls) same
    (ap (λ (b : Bool). (if b then x.calls else []) ++ named x.name ss) (same_name x.name)
    ∙ (ap (λ (cs : List C). x.calls ++ cs) (none_named ss x.name own.0) ∙ append-nil x.calls))
own_named (x ∷ ss) (suc i) s own is =
    ap (λ (b : Bool). (if b then x.calls else []) ++ named s.name ss)
    (other_name x s ss (bytes_eq x.name s.name) refl own.0 (has_at ss i s is))
    ∙ own_named ss i s own.1 is
