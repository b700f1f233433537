-- A byte from its decimal digits, digit by digit.
use Rattle.std.proofs.Common.{◌≡◌, ◌+◌, ◌-◌, ◌*◌, ◌<◌, ◌≤◌, ℕ, Bool, true, false, ltb, leb, eqb, cond, ◌&&◌}
use Rattle.std.proofs.Common.{◌||◌, List, [], ◌∷◌, length, get_or, drop, Option, Some, None, refl, sym, ap}
use Rattle.std.proofs.Common.{◌∙◌, arith, lt-ltb, le-ltb, leb-true, ltb-false, ltb-true, option_and_then}
use Rattle.std.specs.Char.{is_ascii_digit, digit_value}
use Rattle.std.specs.Str.{all_ascii_digits}
use Rattle.std.specs.Str.Parse.{digits_value, digits_value_after}
use Rattle.std.proofs.lemmas.List.{drop_more, drop_all}
use Rattle.tty_modes.specs.Reading.{byte_of}
use Rattle.tty_modes.proofs.WordTexts.{both_true}

-- a number with one digit more, if it is a byte
abbrev pub one_more : ℕ → ℕ → Option ℕ
one_more n digit = cond (is_ascii_digit digit && ltb (n * 10 + (digit - 48)) 256) (Some (n * 10 + (digit - 48))) None

-- a number with more digits, if it stays a byte
abbrev pub value_from : ℕ → List ℕ → Option ℕ
value_from n [] = Some n
value_from n (digit ∷ digits) = option_and_then (λ more. value_from more digits) (one_more n digit)

pub value_more : (n digit value i : ℕ) (digits : List ℕ) (first : Option ℕ)
    → i < length digits
    → digit ≡ get_or digits i 0
    → one_more n digit ≡ Some value
    → value_from n (drop i digits) ≡ first
    → value_from value (drop (i + 1) digits) ≡ first
value_more n digit value i digits first within at more so_far =
    let next : one_more n (get_or digits i 0) ≡ Some value = ap (one_more n) (sym at) ∙ more in
    sym (ap (option_and_then (λ m. value_from m (drop (i + 1) digits))) next)
    ∙ sym (ap (value_from n) (drop_more digits i 0 within))
    ∙ so_far

pub value_none : (n digit i : ℕ) (digits : List ℕ) (first : Option ℕ)
    → i < length digits
    → digit ≡ get_or digits i 0
    → one_more n digit ≡ None
    → value_from n (drop i digits) ≡ first
    → None ≡ first
value_none n digit i digits first within at none so_far =
    let next : one_more n (get_or digits i 0) ≡ None = ap (one_more n) (sym at) ∙ none in
    sym (ap (option_and_then (λ m. value_from m (drop (i + 1) digits))) next)
    ∙ sym (ap (value_from n) (drop_more digits i 0 within))
    ∙ so_far

pub value_all : (n i : ℕ) (digits : List ℕ) (first : Option ℕ)
    → length digits ≤ i
    → value_from n (drop i digits) ≡ first
    → Some n ≡ first
value_all n i digits first over so_far = sym (ap (value_from n) (drop_all i digits over)) ∙ so_far

-- ---- the number that the digits write

digit_is : (digit : ℕ) → is_ascii_digit digit ≡ true → digit_value digit ≡ digit - 48
digit_is digit is =
    let both = both_true (leb 48 digit) (leb digit 57) is in
    let low = leb-true 48 digit both.0 in
    let high = leb-true digit 57 both.1 in
    let over : ltb digit 48 ≡ false = le-ltb digit 48 low in
    let under : ltb digit 58 ≡ true = lt-ltb digit 58 (omega arith) in
    rw (over, under) refl

rises : (n : ℕ) (digits : List ℕ) → n ≤ digits_value_after 10 n digits
rises n [] = omega arith
rises n (digit ∷ digits) = let more = rises (n * 10 + digit_value digit) digits in omega (arith, more)

never : (b : Bool) (n : ℕ) → cond (b && false) (Some n) None ≡ None
never true n = refl
never false n = refl

abbrev Byte_after : ℕ → List ℕ → Option ℕ
Byte_after n digits = cond (all_ascii_digits digits && ltb (digits_value_after 10 n digits) 256)
    (Some (digits_value_after 10 n digits)) None

value_is_by : (n digit : ℕ) (digits : List ℕ) (is small : Bool)
    → is_ascii_digit digit ≡ is
    → ltb (n * 10 + (digit - 48)) 256 ≡ small
    → (n * 10 + (digit - 48) < 256
    → value_from (n * 10 + (digit - 48)) digits ≡ Byte_after (n * 10 + (digit - 48)) digits)
    → value_from n (digit ∷ digits) ≡ Byte_after n (digit ∷ digits)
value_is_by n digit digits false small is less rest = rw is refl
value_is_by n digit digits true true is less rest =
    let more : ℕ = n * 10 + (digit - 48) in
    let below : more < 256 = ltb-true more 256 less in
    let value : digit_value digit ≡ digit - 48 = digit_is digit is in
    rw (is, less) (rest below ∙ ap (λ v. Byte_after (n * 10 + v) digits) (sym value))
value_is_by n digit digits true false is less rest =
    let more : ℕ = n * 10 + (digit - 48) in
    let over : 256 ≤ more = ltb-false more 256 less in
    let value : digit_value digit ≡ digit - 48 = digit_is digit is in
    let last : ltb (digits_value_after 10 more digits) 256 ≡ false =
    let up = rises more digits in le-ltb (digits_value_after 10 more digits) 256 (omega (arith, up, over)) in
    rw (is, less) (sym (ap (λ v. Byte_after (n * 10 + v) digits) value
    ∙ ap (λ b. cond (all_ascii_digits digits && b) (Some (digits_value_after 10 more digits)) None) last
    ∙ never (all_ascii_digits digits) (digits_value_after 10 more digits)))

value_is : (n : ℕ) (digits : List ℕ) → n < 256 → value_from n digits ≡ Byte_after n digits
value_is n [] small = let less : ltb n 256 ≡ true = lt-ltb n 256 small in rw less refl
value_is n (digit ∷ digits) small =
    value_is_by n digit digits (is_ascii_digit digit) (ltb (n * 10 + (digit - 48)) 256) refl refl
    (λ below. value_is (n * 10 + (digit - 48)) digits below)

-- ---- what stands first

unplain : (some digits plain small : Bool) (n : ℕ)
    → (some && plain) ≡ false
    → cond (((some && digits) && plain) && small) (Some n) None ≡ None
unplain false digits plain small n h = refl
unplain true digits true small n h = cc
unplain true true false small n h = refl
unplain true false false small n h = refl

plainly : (some digits plain small : Bool) (n : ℕ)
    → (some && plain) ≡ true
    → cond (digits && small) (Some n) None ≡ cond (((some && digits) && plain) && small) (Some n) None
plainly false digits plain small n h = cc
plainly true digits false small n h = cc
plainly true true true small n h = refl
plainly true false true small n h = refl

abbrev starts : List ℕ → Bool
starts text = ltb 0 (length text) && (ltb 48 (get_or text 0 0) || eqb (length text) 1)

pub byte_of-odd : (text : List ℕ) → starts text ≡ false → None ≡ byte_of text
byte_of-odd text odd =
    sym (unplain (ltb 0 (length text)) (all_ascii_digits text) (ltb 48 (get_or text 0 0) || eqb (length text) 1)
    (ltb (digits_value 10 text) 256) (digits_value 10 text) odd)

pub byte_of-plain : (text : List ℕ) (r : Option ℕ) → starts text ≡ true → r ≡ value_from 0 text → r ≡ byte_of text
byte_of-plain text r plain read =
    read ∙ value_is 0 text (omega arith)
    ∙ plainly (ltb 0 (length text)) (all_ascii_digits text) (ltb 48 (get_or text 0 0) || eqb (length text) 1)
    (ltb (digits_value 10 text) 256) (digits_value 10 text) plain
