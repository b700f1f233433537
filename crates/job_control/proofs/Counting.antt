-- How many numbers of a range pass a test.
use Rattle.std.proofs.Common.{◌≡◌, ℕ, zero, suc, ◌+◌, ◌-◌, ◌<◌, ◌≤◌, Bool, true, false, cond, not}
use Rattle.std.proofs.Common.{length, ◌&&◌, ◌||◌, List, [], ◌∷◌, ⊎_elim, refl, ap, zero-add, arith}
use Rattle.std.specs.Prelude.{◌==◌, count_by}
use Rattle.std.specs.List.{list_any, range_with_len}
use Rattle.std.proofs.lemmas.List.Sums.{sum_by-cons, count_by-le-length}
use Rattle.std.proofs.lemmas.List.FromFn.{length-range_with_len}
use Rattle.std.proofs.lemmas.Bool.Decides.{nat_tests}
use Rattle.std.proofs.lemmas.Bool.{cases_eq, ne_eqb, eq-eqb, and_right}
use Rattle.tty_base.specs.Sizes.{MOST_PROCESSES}

-- 1 for what passes
abbrev pub one_if : Bool → ℕ
one_if b = cond b 1 0

pub count_cons : {X : Type 0} (f : X → Bool) (x : X) (xs : List X) → count_by f (x ∷ xs) ≡ one_if (f x) + count_by f xs
count_cons f x xs = sum_by-cons (λ y. one_if (f y)) x xs

pub range_step : (i n : ℕ) → i < n → range_with_len i (n - i) ≡ i ∷ range_with_len (i + 1) (n - (i + 1))
range_step i n lt =
    let e : n - i ≡ suc (n - (i + 1)) = omega arith in
    rw e refl

-- at the end of a range nothing is left to count
pub counted_over : (f : ℕ → Bool) (i n count total : ℕ)
    → n ≤ i
    → count + count_by f (range_with_len i (n - i)) ≡ total
    → count ≡ total
counted_over f i n count total over told =
    let none : n - i ≡ 0 = omega (arith, over) in
    let rest : count_by f (range_with_len i (n - i)) ≡ 0 = ap (λ m. count_by f (range_with_len i m)) none in
    omega (arith, told, rest)

-- some pass exactly where the count is not 0
some_head : (b rest : Bool) (n : ℕ) → rest ≡ not (n == 0) → (b || rest) ≡ not ((one_if b + n) == 0)
some_head true rest n e = grind (arith, nat_tests)
some_head false rest n e = rw (zero-add n) e

pub list_any_count : {X : Type 0} (f : X → Bool) (xs : List X) → list_any f xs ≡ not (count_by f xs == 0)
list_any_count f [] = refl
list_any_count f (x ∷ xs) =
    rw (count_cons f x xs) (some_head (f x) (list_any f xs) (count_by f xs) (list_any_count f xs))

-- a test that is parted into two parts the count
pub count_parted :
    {X : Type 0} (f g h : X → Bool) → ((x : X) → one_if (f x) ≡ one_if (g x) + one_if (h x))
    → (xs : List X) → count_by f xs ≡ count_by g xs + count_by h xs
count_parted f g h parted [] = refl
count_parted f g h parted (x ∷ xs) =
    let rest : count_by f xs ≡ count_by g xs + count_by h xs = count_parted f g h parted xs in
    let head : one_if (f x) ≡ one_if (g x) + one_if (h x) = parted x in
    let of_f : count_by f (x ∷ xs) ≡ one_if (f x) + count_by f xs = count_cons f x xs in
    let of_g : count_by g (x ∷ xs) ≡ one_if (g x) + count_by g xs = count_cons g x xs in
    let of_h : count_by h (x ∷ xs) ≡ one_if (h x) + count_by h xs = count_cons h x xs in
    omega (arith, rest, head, of_f, of_g, of_h)

-- a test of one number alone
abbrev pub alone : (ℕ → Bool) → (q p : ℕ) → Bool
alone f q p = f p && (p == q)

alone_other : (f : ℕ → Bool) (q p : ℕ) → (p ≡ q → ⊥) → one_if (alone f q p) ≡ 0
alone_other f q p ne = let e : alone f q p ≡ false = and_right (f p) (p == q) (ne_eqb p q ne) in rw e refl

and_true : (b : Bool) → (b && true) ≡ b
and_true true = refl
and_true false = refl

alone_same : (f : ℕ → Bool) (q p : ℕ) → p ≡ q → one_if (alone f q p) ≡ one_if (f q)
alone_same f q p e =
    let test : (p == q) ≡ true = eq-eqb p q e in
    let same : f p ≡ f q = ap f e in
    rw test (rw (and_true (f p)) (ap one_if same))

none_alone : (f : ℕ → Bool) (q a m : ℕ) → q < a → count_by (alone f q) (range_with_len a m) ≡ 0
none_alone f q a zero lt = refl
none_alone f q a (suc m) lt =
    let step : count_by (alone f q) (a ∷ range_with_len (a + 1) m)
    ≡ one_if (alone f q a) + count_by (alone f q) (range_with_len (a + 1) m) =
    count_cons (alone f q) a (range_with_len (a + 1) m) in
    let ne : a ≡ q → ⊥ = λ e. omega arith in
    let head : one_if (alone f q a) ≡ 0 = alone_other f q a ne in
    let rest : count_by (alone f q) (range_with_len (a + 1) m) ≡ 0 = none_alone f q (a + 1) m (omega arith) in
    omega (arith, step, head, rest)

pub count_alone : (f : ℕ → Bool) (q a m : ℕ)
    → a ≤ q
    → q < a + m
    → count_by (alone f q) (range_with_len a m) ≡ one_if (f q)
count_alone f q a zero le lt = absurd (omega arith)
count_alone f q a (suc m) le lt =
    let step : count_by (alone f q) (a ∷ range_with_len (a + 1) m)
    ≡ one_if (alone f q a) + count_by (alone f q) (range_with_len (a + 1) m) =
    count_cons (alone f q) a (range_with_len (a + 1) m) in
    ⊎_elim
    (λ e.
    let head : one_if (alone f q a) ≡ one_if (f q) = alone_same f q a e in
    let rest : count_by (alone f q) (range_with_len (a + 1) m) ≡ 0 = none_alone f q (a + 1) m (omega arith) in
    omega (arith, step, head, rest))
    (λ ne.
    let head : one_if (alone f q a) ≡ 0 = alone_other f q a ne in
    let rest : count_by (alone f q) (range_with_len (a + 1) m) ≡ one_if (f q) =
    count_alone f q (a + 1) m (omega arith) (omega arith) in
    omega (arith, step, head, rest))
    (cases_eq a q)

-- the first place of a range, and the rest
pub count_step : (f : ℕ → Bool) (i n : ℕ)
    → i < n
    → count_by f (range_with_len i (n - i)) ≡ one_if (f i) + count_by f (range_with_len (i + 1) (n - (i + 1)))
count_step f i n lt = rw (range_step i n lt) (count_cons f i (range_with_len (i + 1) (n - (i + 1))))

pub count_few : (f : ℕ → Bool) (i n : ℕ) → count_by f (range_with_len i n) ≤ n
count_few f i n =
    let most : count_by f (range_with_len i n) ≤ length (range_with_len i n) =
    count_by-le-length f (range_with_len i n) in
    let long : length (range_with_len i n) ≡ n = length-range_with_len i n in
    omega (arith, most, long)

-- a count that has come so far, with the rest of the range, is the whole: one more place is looked at
pub counted_more : (f : ℕ → Bool) (i n old new one total : ℕ)
    → i < n
    → one_if (f i) ≡ one
    → new ≡ old + one
    → old + count_by f (range_with_len i (n - i)) ≡ total
    → new + count_by f (range_with_len (i + 1) (n - (i + 1))) ≡ total
counted_more f i n old new one total lt here is before =
    let step : count_by f (range_with_len i (n - i))
    ≡ one_if (f i) + count_by f (range_with_len (i + 1) (n - (i + 1))) = count_step f i n lt in
    omega (arith, step, here, is, before)

pub counted_few : (f : ℕ → Bool) (i n old : ℕ)
    → n ≤ MOST_PROCESSES
    → old + count_by f (range_with_len i (n - i)) ≡ count_by f (range_with_len 0 n)
    → old < 65535
counted_few f i n old few before =
    let most : count_by f (range_with_len 0 n) ≤ n = count_few f 0 n in
    omega (arith, most, before)
