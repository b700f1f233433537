-- Characters, counts and what follows a byte, as loops go over them.
use Rattle.std.proofs.Common.{◌≡◌, ℕ, suc, ◌+◌, ◌-◌, ◌*◌, ◌^◌, ◌<◌, ◌≤◌, ◌&&◌, nat_lt, Bool, true, false, cond}
use Rattle.std.proofs.Common.{List, [], ◌∷◌, ◌++◌, Option, Some, None, length, drop, take, get_or, fold, option_map}
use Rattle.std.proofs.Common.{refl, ap, sym, ◌∙◌, arith, append_assoc, append-nil, map, ltb-false, ltb-true}
use Rattle.std.specs.Prelude.{position}
use Rattle.std.specs.List.{list_all, position_or_len, after_first, range_with_len}
use Rattle.std.proofs.lemmas.List.{take_rest, drop_all, drop_more, map-append}
use Rattle.tty_base.specs.declared.characters.Flagged.{Flagged}
use Rattle.text_lines.specs.Values.{is_digit}
use Rattle.check_text.specs.Answers.{count_of}
use Rattle.check_text.specs.Building.{count_with}
use Rattle.check_text.specs.Characters.{char_of, one_more, chars_from}
use Rattle.check_text.proofs.Truths.{lt-ltb}

-- ---- after a byte

some_then : (b : Bool) (n at : ℕ) → cond b (Some n) None ≡ Some at → n ≡ at
some_then true n at h = cc
some_then false n at h = cc

pub after_found : {X : Type 0} (p : X → Bool) (xs : List X) (at : ℕ)
    → position p xs ≡ Some at
    → take (length xs - (at + 1)) (drop (at + 1) xs) ≡ after_first p xs
after_found p xs at h =
    take_rest xs (at + 1)
    ∙ ap (λ n. drop (n + 1) xs)
    (sym (some_then (nat_lt (position_or_len p xs) (length xs)) (position_or_len p xs) at h))

none_then : (b : Bool) (n : ℕ) → cond b (Some n) None ≡ None → b ≡ false
none_then true n h = cc
none_then false n h = refl

pub after_none : {X : Type 0} (p : X → Bool) (xs : List X)
    → position p xs ≡ None
    → take (length xs - length xs) (drop (length xs) xs) ≡ after_first p xs
after_none p xs h =
    let over = ltb-false (position_or_len p xs) (length xs)
    (none_then (nat_lt (position_or_len p xs) (length xs)) (position_or_len p xs) h) in
    take_rest xs (length xs)
    ∙ drop_all (length xs) xs (omega arith)
    ∙ sym (drop_all (position_or_len p xs + 1) xs (omega (arith, over)))

-- ---- characters

abbrev three_of : List ℕ → Option Flagged
three_of word = char_of (get_or word 0 0) (get_or word 1 0) (get_or word 2 0)

first_three : (word : List ℕ) → 3 ≤ length word → chars_from word ≡ one_more (three_of word) (chars_from (drop 3 word))
first_three [] h = absurd (omega (arith, h))
first_three (a ∷ []) h = absurd (omega (arith, h))
first_three (a ∷ b ∷ []) h = absurd (omega (arith, h))
first_three (a ∷ b ∷ c ∷ rest) h = refl

none_more : (more : Option (List Flagged)) → one_more None more ≡ None
none_more None = refl
none_more (Some chars) = refl

one_with : (c : Flagged) (chars new : List Flagged) (more : Option (List Flagged))
    → new ≡ chars ++ c ∷ []
    → option_map (λ rest. new ++ rest) more ≡ option_map (λ rest. chars ++ rest) (one_more (Some c) more)
one_with c chars new None e = refl
one_with c chars new (Some rest) e = ap Some (ap (λ xs. xs ++ rest) e ∙ append_assoc chars (c ∷ []) rest)

-- before the first
pub chars_first : (chars : List Flagged) (found : Option (List Flagged))
    → chars ≡ []
    → option_map (λ more. chars ++ more) found ≡ found
chars_first chars None e = refl
chars_first chars (Some more) e = ap Some (ap (λ xs. xs ++ more) e)

-- a character more
pub chars_more : (word rest : List ℕ) (chars new : List Flagged) (c : Flagged)
    → 3 ≤ length rest
    → Some c ≡ char_of (get_or rest 0 0) (get_or rest 1 0) (get_or rest 2 0)
    → new ≡ chars ++ c ∷ []
    → option_map (λ more. chars ++ more) (chars_from rest) ≡ chars_from word
    → option_map (λ more. new ++ more) (chars_from (take (length rest - 3) (drop 3 rest))) ≡ chars_from word
chars_more word rest chars new c three is put left =
    ap (λ xs. option_map (λ more. new ++ more) (chars_from xs)) (take_rest rest 3)
    ∙ one_with c chars new (chars_from (drop 3 rest)) put
    ∙ ap (λ o. option_map (λ more. chars ++ more) (one_more o (chars_from (drop 3 rest)))) is
    ∙ ap (option_map (λ more. chars ++ more)) (sym (first_three rest three))
    ∙ left

-- ---- counts

abbrev pub then_digit : ℕ → ℕ → ℕ
then_digit value digit = value * 10 + (digit - 48)

abbrev pub count_from : ℕ → List ℕ → ℕ
count_from value digits =
    cond (list_all is_digit digits && nat_lt (fold then_digit value digits) (2 ^ 64)) (fold then_digit value digits) 0

pub count_all : (value : ℕ) (digits : List ℕ) (i : ℕ)
    → value < 2 ^ 64
    → length digits ≤ i
    → count_from value (drop i digits) ≡ value
count_all value digits i small over =
    ap (count_from value) (drop_all i digits over) ∙ ap (λ b. cond b value 0) (lt-ltb value (2 ^ 64) small)

grows : (digits : List ℕ) (value : ℕ) → value ≤ fold then_digit value digits
grows [] value = omega arith
grows (digit ∷ digits) value = let more = grows digits (then_digit value digit) in omega (arith, more)

some_count : (a b : Bool) (n next : ℕ) → cond (a && b) (Some n) None ≡ Some next → (a ≡ true) × (n ≡ next)
some_count true true n next h = (refl, cc)
some_count true false n next h = cc
some_count false b n next h = cc

count_more : (value digit next : ℕ) (digits : List ℕ)
    → count_with value digit ≡ Some next
    → count_from value (digit ∷ digits) ≡ count_from next digits
count_more value digit next digits h =
    let parts =
    some_count (is_digit digit) (nat_lt (then_digit value digit) (2 ^ 64)) (then_digit value digit) next h in
    ap (λ b. cond ((b && list_all is_digit digits) && nat_lt (fold then_digit (then_digit value digit) digits) (2 ^ 64))
    (fold then_digit (then_digit value digit) digits) 0) parts.0
    ∙ ap (λ n. count_from n digits) parts.1

pub count_step : (value next : ℕ) (digits : List ℕ) (i : ℕ)
    → i < length digits
    → Some next ≡ count_with value (get_or digits i 0)
    → count_from value (drop i digits) ≡ count_of digits
    → count_from next (drop (i + 1) digits) ≡ count_of digits
count_step value next digits i within is left =
    sym (count_more value (get_or digits i 0) next (drop (i + 1) digits) (sym is))
    ∙ sym (ap (count_from value) (drop_more digits i 0 within))
    ∙ left

no_count : (a b c : Bool) (n big : ℕ)
    → cond (a && b) (Some n) None ≡ None
    → (b ≡ false → c ≡ false)
    → (rest : Bool)
    → cond ((a && rest) && c) big 0 ≡ 0
no_count true true c n big h over rest = cc
no_count true false true n big h over rest = absurd (let never = over refl in cc)
no_count true false false n big h over true = refl
no_count true false false n big h over false = refl
no_count false b c n big h over rest = refl

lt_fails : (a b m : ℕ) → a ≤ b → nat_lt a m ≡ false → nat_lt b m ≡ false
lt_fails a b m le h = by (nat_lt b m) refl
  where
    by : (t : Bool) → nat_lt b m ≡ t → t ≡ false
    by true e = absurd (let big = ltb-false a m h in let small = ltb-true b m e in omega (arith, big, small, le))
    by false e = refl

pub count_none : (value : ℕ) (digits : List ℕ) (i : ℕ)
    → i < length digits
    → None ≡ count_with value (get_or digits i 0)
    → count_from value (drop i digits) ≡ count_of digits
    → 0 ≡ count_of digits
count_none value digits i within is left =
    let digit = get_or digits i 0 in
    let rest = drop (i + 1) digits in
    let next = then_digit value digit in
    sym (no_count (is_digit digit) (nat_lt next (2 ^ 64)) (nat_lt (fold then_digit next rest) (2 ^ 64)) next
    (fold then_digit next rest) (sym is) (lt_fails next (fold then_digit next rest) (2 ^ 64) (grows rest next))
    (list_all is_digit rest))
    ∙ sym (ap (count_from value) (drop_more digits i 0 within)) ∙ left

-- ---- a range

pub fold_range : {X : Type 0} (f : X → ℕ → X) (most at : ℕ) (x next all : X)
    → at < most
    → next ≡ f x at
    → fold f x (range_with_len at (most - at)) ≡ all
    → fold f next (range_with_len (at + 1) (most - (at + 1))) ≡ all
fold_range f most at x next all below is left =
    let count : most - at ≡ suc (most - (at + 1)) = omega (arith, below) in
    ap (λ y. fold f y (range_with_len (at + 1) (most - (at + 1)))) is
    ∙ sym (ap (λ n. fold f x (range_with_len at n)) count)
    ∙ left

-- one more of a list that is made over a range
pub range_more : {X Y : Type 0} (view : X → Y) (f : ℕ → Y) (xs new : List X) (x : X) (most at : ℕ) (all : List Y)
    → at < most
    → new ≡ xs ++ x ∷ []
    → view x ≡ f at
    → map view xs ++ map f (range_with_len at (most - at)) ≡ all
    → map view new ++ map f (range_with_len (at + 1) (most - (at + 1))) ≡ all
range_more view f xs new x most at all below put is left =
    let rest = map f (range_with_len (at + 1) (most - (at + 1))) in
    let count : most - at ≡ suc (most - (at + 1)) = omega (arith, below) in
    ap (λ ys. map view ys ++ rest) put
    ∙ ap (λ ys. ys ++ rest) (map-append view xs (x ∷ []))
    ∙ append_assoc (map view xs) (view x ∷ []) rest
    ∙ ap (λ y. map view xs ++ y ∷ rest) is ∙ sym (ap (λ n. map view xs ++ map f (range_with_len at n)) count) ∙ left

pub range_done : {X Y : Type 0} (view : X → Y) (f : ℕ → Y) (xs : List X) (most at : ℕ) (all : List Y)
    → most ≤ at
    → map view xs ++ map f (range_with_len at (most - at)) ≡ all
    → map view xs ≡ all
range_done view f xs most at all over left =
    let none : most - at ≡ 0 = omega (arith, over) in
    sym (append-nil (map view xs)) ∙ sym (ap (λ n. map view xs ++ map f (range_with_len at n)) none) ∙ left
