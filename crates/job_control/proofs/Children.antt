-- The lists of children that are kept, and the ties that end with a process by these.
use Rattle.std.proofs.Common.{◌≡◌, ℕ, zero, suc, ◌+◌, ◌-◌, ◌<◌, ◌≤◌, Bool, true, false, cond, not, ◌&&◌, ◌||◌}
use Rattle.std.proofs.Common.{List, [], ◌∷◌, ◌++◌, Option, None, Some, length, drop, map, refl, sym, ap, ◌∙◌}
use Rattle.std.proofs.Common.{⊎_elim, get_or, set, get_or-set_same, get_or-set_other, append-nil, zero-add, arith}
use Rattle.std.specs.Prelude.{◌==◌, count_by, filter, slice_index_or, slice_set, if◌then◌else◌}
use Rattle.std.specs.List.{range_with_len}
use Rattle.std.specs.Option.{option_map_or}
use Rattle.std.proofs.lemmas.List.{length-set, drop_all, map-set, get_or-map}
use Rattle.std.proofs.lemmas.List.Elements.{filter-append}
use Rattle.std.proofs.lemmas.Bool.{cases_eq, ne_eqb, eq-eqb}
use Rattle.job_control.specs.declared.processes.Proc.{Proc}
use Rattle.job_control.specs.Roster.{places_of, parent_at, ties_group}
use Rattle.job_control.specs.Keeping.{looses, tie_of, is_child, children_of, with_child}
use Rattle.job_control.proofs.Counting.{one_if, count_cons, alone, count_alone, count_parted}

-- a count over those that pass a test
count_head : (t : Bool) (f : ℕ → Bool) (x : ℕ) (xs : List ℕ) (n : ℕ)
    → count_by f xs ≡ n
    → count_by f (cond t (x ∷ xs) xs) ≡ one_if (f x && t) + n
count_head true f x xs n e =
    count_cons f x xs ∙ (ap (λ m. one_if (f x) + m) e ∙ ap (λ b. one_if b + n) (and_of_true (f x)))
  where
    and_of_true : (b : Bool) → b ≡ (b && true)
    and_of_true true = refl
    and_of_true false = refl
count_head false f x xs n e = e ∙ (sym (zero-add n) ∙ ap (λ b. one_if b + n) (and_of_false (f x)))
  where
    and_of_false : (b : Bool) → false ≡ (b && false)
    and_of_false true = refl
    and_of_false false = refl

count_filter : (f g : ℕ → Bool) (xs : List ℕ) → count_by f (filter g xs) ≡ count_by (λ x. f x && g x) xs
count_filter f g [] = refl
count_filter f g (x ∷ xs) =
    count_head (g x) f x (filter g xs) (count_by (λ y. f y && g y) xs) (count_filter f g xs)
    ∙ sym (count_cons (λ y. f y && g y) x xs)

-- who ties a group until another exits: that one, or a child of it
hit_parted : (tied same child : Bool)
    → one_if (tied && (same || child)) ≡ one_if (tied && same) + one_if (tied && (child && not same))
hit_parted false same child = refl
hit_parted true true true = refl
hit_parted true true false = refl
hit_parted true false true = refl
hit_parted true false false = refl

pub looses_parted : (procs : List Proc) (exited : List Bool) (gone group : ℕ)
    → gone < length procs
    → count_by (looses procs exited gone group) (places_of procs)
    ≡ tie_of procs exited group gone + count_by (ties_group procs exited group) (children_of procs gone)
looses_parted procs exited gone group within =
    let child : ℕ → Bool = λ p. ties_group procs exited group p && is_child procs gone p in
    let parts : count_by (looses procs exited gone group) (places_of procs)
    ≡ count_by (alone (ties_group procs exited group) gone) (places_of procs) + count_by child (places_of procs) =
    count_parted (looses procs exited gone group) (alone (ties_group procs exited group) gone) child
    (λ p.
    hit_parted (ties_group procs exited group p) (p == gone) (option_map_or (λ q. q == gone) (parent_at procs p) false))
    (places_of procs) in
    let one : count_by (alone (ties_group procs exited group) gone) (places_of procs)
    ≡ one_if (ties_group procs exited group gone) =
    count_alone (ties_group procs exited group) gone 0 (length procs) (omega arith) (omega arith) in
    let children : count_by (ties_group procs exited group) (children_of procs gone)
    ≡ count_by child (places_of procs) =
    count_filter (ties_group procs exited group) (is_child procs gone) (places_of procs) in
    parts
    ∙ (ap (λ n. n + count_by child (places_of procs)) one
    ∙ ap (λ n. one_if (ties_group procs exited group gone) + n) (sym children))

-- what is left of a count when the ties of a process and of its children are taken away, one after the other
pub untied : (procs : List Proc) (exited : List Bool) (children : List ℕ) (gone group old first new : ℕ)
    → gone < length procs
    → children ≡ children_of procs gone
    → first ≡ old - tie_of procs exited group gone
    → new ≡ first - count_by (ties_group procs exited group) children
    → new ≡ old - count_by (looses procs exited gone group) (places_of procs)
untied procs exited children gone group old first new within are own is =
    let parts : count_by (looses procs exited gone group) (places_of procs)
    ≡ tie_of procs exited group gone + count_by (ties_group procs exited group) (children_of procs gone) =
    looses_parted procs exited gone group within in
    let listed : count_by (ties_group procs exited group) children
    ≡ count_by (ties_group procs exited group) (children_of procs gone) =
    ap (count_by (ties_group procs exited group)) are in
    omega (arith, parts, listed, own, is)

-- ---- making the lists

-- the list at a place gets more
pub list_added : {X Y : Type 0} (f : X → List Y) (lists : List X) (at : ℕ) (d list : X) (more : List Y)
    → at < length lists
    → f list ≡ f (get_or lists at d) ++ more
    → map f (set lists at list) ≡ set (map f lists) at (get_or (map f lists) at [] ++ more)
list_added {X} {Y} f lists at d list more within e =
    map-set f lists at list
    ∙ ap (set (map f lists) at) (e ∙ ap (λ (xs : List Y). xs ++ more) (sym (get_or-map f lists at d [] within)))

range_more : (a n : ℕ) → range_with_len a (suc n) ≡ range_with_len a n ++ (a + n) ∷ []
range_more a zero = ap (λ b. b ∷ []) (omega arith)
range_more a (suc n) =
    ap (λ xs. a ∷ xs) (range_more (a + 1) n ∙ ap (λ b. range_with_len (a + 1) n ++ b ∷ []) (omega arith))

filter_more : (g : ℕ → Bool) (n : ℕ)
    → filter g (range_with_len 0 (n + 1)) ≡ filter g (range_with_len 0 n) ++ cond (g n) (n ∷ []) []
filter_more g n =
    let next : n + 1 ≡ suc n = omega arith in
    ap (λ k. filter g (range_with_len 0 k)) next
    ∙ (ap (filter g) (range_more 0 n ∙ ap (λ b. range_with_len 0 n ++ b ∷ []) (zero-add n))
    ∙ filter-append g (range_with_len 0 n) (n ∷ []))

-- the list of a process, when one process more has found its parent
listed_at : (lists : List (List ℕ)) (parent : Option ℕ) (place p : ℕ)
    → p < length lists
    → slice_index_or (with_child lists parent place) p []
    ≡ slice_index_or lists p [] ++ cond (option_map_or (λ q. q == p) parent false && not (place == p)) (place ∷ []) []
listed_at lists None place p within = sym (append-nil (slice_index_or lists p []))
listed_at lists (Some q) place p within =
    ⊎_elim
    (λ own. let test : (q == place) ≡ true = eq-eqb q place own in rw test (own_child own))
    (λ other. let test : (q == place) ≡ false = ne_eqb q place other in rw test (of_another other))
    (cases_eq q place)
  where
    never : (b : Bool) → (b && not b) ≡ false
    never true = refl
    never false = refl

    own_child : q ≡ place
        → slice_index_or lists p [] ≡ slice_index_or lists p [] ++ cond ((q == p) && not (place == p)) (place ∷ []) []
    own_child own =
        sym (ap (λ b. slice_index_or lists p [] ++ cond b (place ∷ []) [])
        (ap (λ r. (r == p) && not (place == p)) own ∙ never (place == p))
        ∙ append-nil (slice_index_or lists p []))

    of_another : (q ≡ place → ⊥)
        → slice_index_or (slice_set lists q (slice_index_or lists q [] ++ place ∷ [])) p []
        ≡ slice_index_or lists p [] ++ cond ((q == p) && not (place == p)) (place ∷ []) []
    of_another other =
        ⊎_elim
        (λ here.
        let test : (q == p) ≡ true = eq-eqb q p here in
        let apart : (place == p) ≡ false = ne_eqb place p (λ e. other (here ∙ sym e)) in
        rw test (rw apart (rw here (get_or-set_same lists p (slice_index_or lists p [] ++ place ∷ []) [] within))))
        (λ there.
        let test : (q == p) ≡ false = ne_eqb q p there in
        rw test (get_or-set_other lists q p (slice_index_or lists q [] ++ place ∷ []) [] (λ e. there (sym e))
        ∙ sym (append-nil (slice_index_or lists p []))))
        (cases_eq q p)

pub child_listed : (procs : List Proc) (lists new : List (List ℕ)) (parent : Option ℕ) (place p : ℕ)
    → p < length lists
    → parent ≡ parent_at procs place
    → new ≡ with_child lists parent place
    → slice_index_or lists p [] ≡ filter (is_child procs p) (range_with_len 0 place)
    → slice_index_or new p [] ≡ filter (is_child procs p) (range_with_len 0 (place + 1))
child_listed procs lists new parent place p within is_parent is before =
    ap (λ ls. slice_index_or ls p []) (is ∙ ap (λ q. with_child lists q place) is_parent)
    ∙ (listed_at lists (parent_at procs place) place p within
    ∙ (ap (λ xs. xs ++ cond (is_child procs p place) (place ∷ []) []) before
    ∙ sym (filter_more (is_child procs p) place)))

pub with_child_long : (lists : List (List ℕ)) (parent : Option ℕ) (place : ℕ)
    → length (with_child lists parent place) ≡ length lists
with_child_long lists None place = refl
with_child_long lists (Some q) place = long (q == place)
  where
    long : (b : Bool)
        → length (if b then lists else slice_set lists q (slice_index_or lists q [] ++ place ∷ [])) ≡ length lists
    long true = refl
    long false = length-set lists q (slice_index_or lists q [] ++ place ∷ [])

-- past the last child nothing more is taken away
pub none_left : (f : ℕ → Bool) (xs : List ℕ) (i old left : ℕ)
    → length xs ≤ i
    → old - count_by f (drop i xs) ≡ left
    → old ≡ left
none_left f xs i old left past before =
    let none : count_by f (drop i xs) ≡ 0 = ap (count_by f) (drop_all i xs past) in
    omega (arith, none, before)
