-- What the exit of a process does to the numbers that are kept.
use Rattle.std.proofs.Common.{◌≡◌, ℕ, ◌+◌, ◌-◌, ◌<◌, ◌≤◌, Bool, true, false, not, ◌&&◌, ◌||◌}
use Rattle.std.proofs.Common.{List, [], ◌∷◌, zero, suc, Option, None, Some, length, ⊎_elim, refl}
use Rattle.std.proofs.Common.{sym, ap, subst, ◌∙◌, get_or-set_same, get_or-set_other, arith}
use Rattle.std.specs.Prelude.{◌==◌, count_by, slice_set}
use Rattle.std.specs.Option.{option_map_or}
use Rattle.std.specs.List.{list_any, range_with_len}
use Rattle.std.proofs.Math.Bool.{and-false}
use Rattle.std.proofs.lemmas.Bool.Decides.{nat_tests}
use Rattle.std.proofs.lemmas.Bool.{cases_eq, ne_eqb, eq-eqb}
use Rattle.tty_base.specs.Sizes.{GROUP_END}
use Rattle.job_control.specs.declared.processes.Proc.{Proc}
use Rattle.job_control.specs.Roster.{places_of, session_at, group_at, parent_at, has_exited, ties_to}
use Rattle.job_control.specs.Roster.{is_tied, ties_group, is_orphaned, lives_in, has_living}
use Rattle.job_control.specs.Keeping.{key_of, key_at, lives_under, ties_count}
use Rattle.job_control.specs.Keeping.{living_count, is_hit, life_of, looses, one_at}
use Rattle.job_control.proofs.Counting.{one_if, counted_more, alone, count_alone, count_parted, list_any_count}

and_true : (b : Bool) → (b && true) ≡ b
and_true true = refl
and_true false = refl

or_false : (b : Bool) → (b || false) ≡ b
or_false true = refl
or_false false = refl

or_true : (b : Bool) → (b || true) ≡ true
or_true true = refl
or_true false = refl

-- who has exited after one more exit
pub exits_set : (exited : List Bool) (gone p : ℕ)
    → gone < length exited
    → has_exited (slice_set exited gone true) p ≡ (has_exited exited p || (p == gone))
exits_set exited gone p lt =
    ⊎_elim
    (λ e.
    let test : (p == gone) ≡ true = eq-eqb p gone e in
    rw test (rw (or_true (has_exited exited p)) (rw e (get_or-set_same exited gone true true lt))))
    (λ ne.
    let test : (p == gone) ≡ false = ne_eqb p gone ne in
    rw test (rw (or_false (has_exited exited p)) (get_or-set_other exited gone p true true ne)))
    (cases_eq p gone)

-- a tie with its parent, after an exit: of the child's exit, its being the one, the parent's exit and being the one,
-- and the rest
tie_left : (e h er hr other same : Bool)
    → (not (e || h) && (not (er || hr) && other && same)) ≡ ((not e && (not er && other && same)) && not (h || hr))
tie_left true h er hr other same = refl
tie_left false true er hr other same = sym (and-false (not er && other && same))
tie_left false false true hr other same = refl
tie_left false false false true other same = sym (and-false (other && same))
tie_left false false false false other same = sym (and_true (other && same))

tied_after : (procs : List Proc) (exited : List Bool) (gone p : ℕ) (parent : Option ℕ)
    → gone < length exited
    → (not (has_exited (slice_set exited gone true) p)
    && option_map_or (λ q. ties_to procs (slice_set exited gone true) p q) parent false)
    ≡ ((not (has_exited exited p) && option_map_or (λ q. ties_to procs exited p q) parent false)
    && not ((p == gone) || option_map_or (λ q. q == gone) parent false))
tied_after procs exited gone p None lt =
    rw (and-false (not (has_exited (slice_set exited gone true) p))) (rw (and-false (not (has_exited exited p))) refl)
tied_after procs exited gone p (Some q) lt =
    rw (exits_set exited gone p lt)
    (rw (exits_set exited gone q lt)
    (tie_left (has_exited exited p) (p == gone) (has_exited exited q) (q == gone)
    (not (group_at procs q == group_at procs p)) (session_at procs q == session_at procs p)))

pub is_tied_set :
    (procs : List Proc) (exited : List Bool) (gone p : ℕ) → gone < length exited
    → is_tied procs (slice_set exited gone true) p ≡ (is_tied procs exited p && not (is_hit procs gone p))
is_tied_set procs exited gone p lt = tied_after procs exited gone p (parent_at procs p) lt

parted_by_hit : (tied hit of_group : Bool)
    → one_if (tied && of_group) ≡ one_if ((tied && not hit) && of_group) + one_if ((tied && of_group) && hit)
parted_by_hit true true true = refl
parted_by_hit true true false = refl
parted_by_hit true false true = refl
parted_by_hit true false false = refl
parted_by_hit false hit of_group = refl

-- the processes that tie a group are those that still do, and those whose ties end
pub ties_parted : (procs : List Proc) (exited : List Bool) (gone group : ℕ)
    → gone < length exited
    → ties_count procs exited group
    ≡ ties_count procs (slice_set exited gone true) group + count_by (looses procs exited gone group) (places_of procs)
ties_parted procs exited gone group lt =
    count_parted (ties_group procs exited group) (ties_group procs (slice_set exited gone true) group)
    (looses procs exited gone group)
    (λ p. rw (is_tied_set procs exited gone p lt)
    (parted_by_hit (is_tied procs exited p) (is_hit procs gone p) (group_at procs p == group)))
    (places_of procs)

pub ties_left : (procs : List Proc) (exited : List Bool) (gone group kept : ℕ)
    → gone < length exited
    → kept ≡ ties_count procs exited group
    → kept - count_by (looses procs exited gone group) (places_of procs)
    ≡ ties_count procs (slice_set exited gone true) group
ties_left procs exited gone group kept lt is =
    let parts : ties_count procs exited group
    ≡ ties_count procs (slice_set exited gone true) group
    + count_by (looses procs exited gone group) (places_of procs) = ties_parted procs exited gone group lt in
    omega (arith, parts, is)

parted_by_exit : (exited gone of_key : Bool)
    → one_if (not exited && of_key) ≡ one_if (not (exited || gone) && of_key) + one_if ((not exited && of_key) && gone)
parted_by_exit true gone of_key = refl
parted_by_exit false true true = refl
parted_by_exit false true false = refl
parted_by_exit false false true = refl
parted_by_exit false false false = refl

living_parted : (procs : List Proc) (exited : List Bool) (gone key : ℕ)
    → gone < length exited
    → gone < length procs
    → living_count procs exited key
    ≡ living_count procs (slice_set exited gone true) key + one_if (lives_under procs exited key gone)
living_parted procs exited gone key lt within =
    let parts : living_count procs exited key
    ≡ living_count procs (slice_set exited gone true) key
    + count_by (alone (lives_under procs exited key) gone) (places_of procs) =
    count_parted (lives_under procs exited key) (lives_under procs (slice_set exited gone true) key)
    (alone (lives_under procs exited key) gone)
    (λ p. rw (exits_set exited gone p lt) (parted_by_exit (has_exited exited p) (p == gone) (key_at procs p == key)))
    (places_of procs) in
    let one : count_by (alone (lives_under procs exited key) gone) (places_of procs)
    ≡ one_if (lives_under procs exited key gone) =
    count_alone (lives_under procs exited key) gone 0 (length procs) (omega arith) (omega arith) in
    omega (arith, parts, one)

-- what is left of the count of a key after the exit of a process
pub living_left :
    (procs : List Proc) (exited : List Bool) (gone key kept : ℕ) → gone < length exited → gone < length procs
    → kept ≡ living_count procs exited key
    → kept - life_of procs exited key gone ≡ living_count procs (slice_set exited gone true) key
living_left procs exited gone key kept lt within is =
    let parts : living_count procs exited key
    ≡ living_count procs (slice_set exited gone true) key + life_of procs exited key gone =
    living_parted procs exited gone key lt within in
    omega (arith, parts, is)

-- the same, of lists that are lent
pub ties_after_end : (procs lent : List Proc) (exited flags : List Bool) (gone at group new old : ℕ)
    → lent ≡ procs
    → flags ≡ exited
    → at ≡ gone
    → gone < length exited
    → old ≡ ties_count procs exited group
    → new ≡ old - count_by (looses lent flags gone group) (places_of lent)
    → new ≡ ties_count procs (slice_set exited at true) group
ties_after_end procs lent exited flags gone at group new old same_procs same_flags same_at lt kept is =
    is
    ∙ (ap (λ ps. old - count_by (looses ps flags gone group) (places_of ps)) same_procs
    ∙ (ap (λ es. old - count_by (looses procs es gone group) (places_of procs)) same_flags
    ∙ (ties_left procs exited gone group old lt kept
    ∙ ap (λ a. ties_count procs (slice_set exited a true) group) (sym same_at))))

pub living_after_end : (procs lent : List Proc) (exited flags : List Bool) (gone at key new old : ℕ)
    → lent ≡ procs
    → flags ≡ exited
    → at ≡ gone
    → gone < length exited
    → gone < length procs
    → old ≡ living_count procs exited key
    → new ≡ old - life_of lent flags key gone
    → new ≡ living_count procs (slice_set exited at true) key
living_after_end procs lent exited flags gone at key new old same_procs same_flags same_at lt within kept is =
    is
    ∙ (ap (λ ps. old - life_of ps flags key gone) same_procs
    ∙ (ap (λ es. old - life_of procs es key gone) same_flags
    ∙ (living_left procs exited gone key old lt within kept
    ∙ ap (λ a. living_count procs (slice_set exited a true) key) (sym same_at))))

not_not : (b : Bool) → b ≡ not (not b)
not_not true = refl
not_not false = refl

-- a group is orphaned exactly where no process is counted that ties it
pub orphan_by_count : (procs : List Proc) (exited : List Bool) (group kept : ℕ)
    → kept ≡ ties_count procs exited group
    → (kept == 0) ≡ is_orphaned procs exited group
orphan_by_count procs exited group kept is =
    rw (list_any_count (ties_group procs exited group) (places_of procs))
    (rw is (not_not (ties_count procs exited group == 0)))

-- what one place adds to the counts, and what an exit takes from them
pub ties_here : (procs : List Proc) (exited : List Bool) (group p : ℕ)
    → is_tied procs exited p ≡ true
    → one_if (ties_group procs exited group p) ≡ one_at (group_at procs p) group
ties_here procs exited group p is = rw is refl

pub ties_not_here : (procs : List Proc) (exited : List Bool) (group p : ℕ)
    → is_tied procs exited p ≡ false
    → one_if (ties_group procs exited group p) ≡ 0
ties_not_here procs exited group p is = rw is refl

pub lives_here : (procs : List Proc) (exited : List Bool) (key p : ℕ)
    → has_exited exited p ≡ false
    → one_if (lives_under procs exited key p) ≡ one_at (key_at procs p) key
lives_here procs exited key p is = rw is refl

pub lives_not_here : (procs : List Proc) (exited : List Bool) (key p : ℕ)
    → has_exited exited p ≡ true
    → one_if (lives_under procs exited key p) ≡ 0
lives_not_here procs exited key p is = rw is refl

pub group_past : (procs : List Proc) (p : ℕ) → length procs ≤ p → group_at procs p ≡ 0
group_past [] p le = refl
group_past (proc ∷ procs) zero le = absurd (omega arith)
group_past (proc ∷ procs) (suc p) le = group_past procs p (omega arith)

-- with one number for session and group the test is that of both
lives_by_key : (exited : Bool) (s g session group : ℕ)
    → g < GROUP_END
    → group < GROUP_END
    → (not exited && (s == session) && (g == group)) ≡ (not exited && (key_of s g == key_of session group))
lives_by_key true s g session group small few = refl
lives_by_key false s g session group small few = grind (arith, nat_tests)

list_any_same : {X : Type 0} (f h : X → Bool) → ((x : X) → f x ≡ h x) → (xs : List X) → list_any f xs ≡ list_any h xs
list_any_same f h same [] = refl
list_any_same f h same (x ∷ xs) = rw (same x) (ap (λ rest. h x || rest) (list_any_same f h same xs))

pub living_by_count : (procs : List Proc) (exited : List Bool) (session group kept : ℕ)
    → ((p : ℕ) → group_at procs p < GROUP_END)
    → group < GROUP_END
    → kept ≡ living_count procs exited (key_of session group)
    → not (kept == 0) ≡ has_living procs exited session group
living_by_count procs exited session group kept small few is =
    rw is
    (sym (list_any_same (lives_in procs exited session group) (lives_under procs exited (key_of session group))
    (λ p. lives_by_key (has_exited exited p) (session_at procs p) (group_at procs p) session group (small p) few)
    (places_of procs)
    ∙ list_any_count (lives_under procs exited (key_of session group)) (places_of procs)))

-- a place of the loops over all processes: what its tie, or its life, adds to the counts, and what an exit takes
pub tie_counted : (procs : List Proc) (exited : List Bool) (group i n old new key total : ℕ)
    → i < n
    → is_tied procs exited i ≡ true
    → key ≡ group_at procs i
    → new ≡ old + one_at key group
    → old + count_by (ties_group procs exited group) (range_with_len i (n - i)) ≡ total
    → new + count_by (ties_group procs exited group) (range_with_len (i + 1) (n - (i + 1))) ≡ total
tie_counted procs exited group i n old new key total lt tied at is before =
    counted_more (ties_group procs exited group) i n old new (one_at key group) total lt
    (ties_here procs exited group i tied ∙ ap (λ k. one_at k group) (sym at)) is before

pub no_tie_counted : (procs : List Proc) (exited : List Bool) (group i n old new total : ℕ)
    → i < n
    → is_tied procs exited i ≡ false
    → new ≡ old
    → old + count_by (ties_group procs exited group) (range_with_len i (n - i)) ≡ total
    → new + count_by (ties_group procs exited group) (range_with_len (i + 1) (n - (i + 1))) ≡ total
no_tie_counted procs exited group i n old new total lt tied is before =
    counted_more (ties_group procs exited group) i n old new 0 total lt (ties_not_here procs exited group i tied)
    (omega (arith, is)) before

pub life_counted : (procs : List Proc) (exited : List Bool) (key i n old new at total : ℕ)
    → i < n
    → has_exited exited i ≡ false
    → at ≡ key_at procs i
    → new ≡ old + one_at at key
    → old + count_by (lives_under procs exited key) (range_with_len i (n - i)) ≡ total
    → new + count_by (lives_under procs exited key) (range_with_len (i + 1) (n - (i + 1))) ≡ total
life_counted procs exited key i n old new at total lt living here is before =
    counted_more (lives_under procs exited key) i n old new (one_at at key) total lt
    (lives_here procs exited key i living ∙ ap (λ k. one_at k key) (sym here)) is before

pub no_life_counted : (procs : List Proc) (exited : List Bool) (key i n old new total : ℕ)
    → i < n
    → has_exited exited i ≡ true
    → new ≡ old
    → old + count_by (lives_under procs exited key) (range_with_len i (n - i)) ≡ total
    → new + count_by (lives_under procs exited key) (range_with_len (i + 1) (n - (i + 1))) ≡ total
no_life_counted procs exited key i n old new total lt over is before =
    counted_more (lives_under procs exited key) i n old new 0 total lt (lives_not_here procs exited key i over)
    (omega (arith, is)) before

pub groups_more : (procs : List Proc) (i : ℕ)
    → group_at procs i < GROUP_END
    → ((p : ℕ) → p < i → group_at procs p < GROUP_END)
    → (p : ℕ)
    → p < i + 1
    → group_at procs p < GROUP_END
groups_more procs i here before p lt =
    ⊎_elim
    (λ e. let P : ℕ → Type 0 = λ q. group_at procs q < GROUP_END in subst P (sym e) here)
    (λ ne. before p (omega (arith, lt, ne)))
    (cases_eq p i)
