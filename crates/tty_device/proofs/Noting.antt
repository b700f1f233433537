-- What was taken, and what became of it.
use Rattle.std.proofs.Common.{◌≡◌, ℕ, ◌+◌, List, [], ◌∷◌, ◌++◌, Bool, true, false}
use Rattle.std.proofs.Common.{if◌then◌else◌, length, map, refl, sym, ◌∙◌, ap, arith}
use Rattle.std.proofs.lemmas.List.{length-map, map-append}
use Rattle.tty_base.specs.declared.characters.Flagged.{Flagged}
use Rattle.tty_device.specs.Kept.{Taken, flushed, dropped, chars_of, flushed_of, dropped_of}

chars_dropped : (cs : List Flagged) → chars_of (map dropped cs) ≡ cs
chars_dropped [] = refl
chars_dropped (c ∷ cs) = ap (λ (xs : List Flagged). c ∷ xs) (chars_dropped cs)

chars_flushed : (cs : List Flagged) → chars_of (map flushed cs) ≡ cs
chars_flushed [] = refl
chars_flushed (c ∷ cs) = ap (λ (xs : List Flagged). c ∷ xs) (chars_flushed cs)

-- more characters were taken, and dropped, or flushed
pub more_dropped : (xs : List Taken) (cs : List Flagged) → chars_of (xs ++ map dropped cs) ≡ chars_of xs ++ cs
more_dropped xs cs =
    map-append (λ (x : Taken). x.char) xs (map dropped cs)
    ∙ ap (λ (ys : List Flagged). chars_of xs ++ ys) (chars_dropped cs)

pub more_flushed : (xs : List Taken) (cs : List Flagged) → chars_of (xs ++ map flushed cs) ≡ chars_of xs ++ cs
more_flushed xs cs =
    map-append (λ (x : Taken). x.char) xs (map flushed cs)
    ∙ ap (λ (ys : List Flagged). chars_of xs ++ ys) (chars_flushed cs)

dropped_among_dropped : (cs : List Flagged) → dropped_of (map dropped cs) ≡ cs
dropped_among_dropped [] = refl
dropped_among_dropped (c ∷ cs) = ap (λ (xs : List Flagged). c ∷ xs) (dropped_among_dropped cs)

dropped_among_flushed : (cs : List Flagged) → dropped_of (map flushed cs) ≡ []
dropped_among_flushed [] = refl
dropped_among_flushed (c ∷ cs) = dropped_among_flushed cs

counted_by : (b : Bool) (x : Taken) (ds : List Flagged) (xs : List Taken) (n : ℕ)
    → length ds ≡ length (dropped_of xs) + n
    → length (if b then x.char ∷ ds else ds) ≡ length (if b then x.char ∷ dropped_of xs else dropped_of xs) + n
counted_by true x ds xs n is = omega (arith, is)
counted_by false x ds xs n is = is

dropped_past : (xs ys : List Taken) → length (dropped_of (xs ++ ys)) ≡ length (dropped_of xs) + length (dropped_of ys)
dropped_past [] ys = omega arith
dropped_past (x ∷ xs) ys =
    counted_by x.dropped x (dropped_of (xs ++ ys)) xs (length (dropped_of ys)) (dropped_past xs ys)

pub count_dropped : (xs : List Taken) (cs : List Flagged)
    → length (dropped_of (xs ++ map dropped cs)) ≡ length (dropped_of xs) + length cs
count_dropped xs cs =
    dropped_past xs (map dropped cs)
    ∙ ap (λ (ys : List Flagged). length (dropped_of xs) + length ys) (dropped_among_dropped cs)

pub count_flushed : (xs : List Taken) (cs : List Flagged)
    → length (dropped_of (xs ++ map flushed cs)) ≡ length (dropped_of xs)
count_flushed xs cs =
    let none : length (dropped_of (map flushed cs)) ≡ 0 = ap length (dropped_among_flushed cs) in
    omega (arith, dropped_past xs (map flushed cs), none)

both_by : (b : Bool) (x : Taken) (fs ds : List Flagged) (n : ℕ) → length fs + length ds ≡ n
    → length (if b then fs else x.char ∷ fs) + length (if b then x.char ∷ ds else ds) ≡ n + 1
both_by true x fs ds n is = omega (arith, is)
both_by false x fs ds n is = omega (arith, is)

-- each was flushed or dropped
pub each_is_one : (xs : List Taken) → length (flushed_of xs) + length (dropped_of xs) ≡ length xs
each_is_one [] = refl
each_is_one (x ∷ xs) =
    let all = both_by x.dropped x (flushed_of xs) (dropped_of xs) (length xs) (each_is_one xs) in
    omega (arith, all)

-- of those that were taken each was flushed or dropped
pub taken_is : (xs : List Taken) (taken : List Flagged)
    → chars_of xs ≡ taken
    → length taken ≡ length (flushed_of xs) + length (dropped_of xs)
taken_is xs taken is = ap length (sym is) ∙ (length-map xs (λ (x : Taken). x.char) ∙ sym (each_is_one xs))
