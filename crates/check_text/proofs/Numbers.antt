-- Numbers of 32 bits: what is read is what is printed of it.
use Rattle.std.proofs.Common.{◌≡◌, ℕ, ◌+◌, ◌*◌, ◌-◌, ◌^◌, ◌<◌, ◌≤◌, ◌==◌, ◌&&◌, ◌||◌, not, nat_le}
use Rattle.std.proofs.Common.{Bool, true, false, cond, List, [], ◌∷◌, Ok, Err, length, fold}
use Rattle.std.proofs.Common.{get_or, decimal, refl, ap, sym, ◌∙◌, arith, leb-true, le-leb, eq-eqb}
use Rattle.std.specs.List.{list_all}
use Rattle.std.proofs.lemmas.Bool.{and_parts, eqb-true}
use Rattle.std.proofs.lemmas.Str.Parse.{IsNumeralModel, IsDigitsTest, numerals_by_fold}
use Rattle.std.proofs.lemmas.Fmt.{digits_decimal, digits_value-decimal, decimal-digits_value}
use Rattle.std.proofs.lemmas.Fmt.{length-decimal-le, decimal_nonempty, first_decimal, decimal_digit}
use Rattle.text_lines.specs.Values.{is_digit, begins_number, is_number, number_of}
use Rattle.session_text.specs.declared.faults.Reason.TheVariants.{Limit, Number}
use Rattle.check_text.specs.Fields.{Read, number_of_word}
use Rattle.check_text.specs.Grammar.{most}
use Rattle.check_text.proofs.Truths.{above_zero}

tells : IsDigitsTest (λ digits. list_all is_digit digits ≡ true)
tells = record {
  empty = refl;
  parts = λ c cs e.
      let both = and_parts (is_digit c) (list_all is_digit cs) e in
      let range = and_parts (nat_le 48 c) (nat_le c 57) both.0 in
      ((leb-true 48 c range.0, leb-true c 57 range.1), both.1);
  more = λ c cs k e i. (le-leb 48 c k.0 i && le-leb c 57 k.1 i) && e i;
}

pub own : IsNumeralModel (λ digits. list_all is_digit digits ≡ true) number_of
own = numerals_by_fold (λ digits. list_all is_digit digits ≡ true) tells
    (λ n digits. fold (λ value digit. value * 10 + (digit - 48)) n digits)
    (record { empty = λ n. refl; more = λ n c cs k. refl })

pub digits_of : (n : ℕ) → n < 2 ^ 64 → list_all is_digit (decimal n) ≡ true
digits_of n h = digits_decimal own n h

pub value_of : (n : ℕ) → n < 2 ^ 64 → number_of (decimal n) ≡ n
value_of n h = digits_value-decimal own n h

-- ---- read back

lead : (digit : ℕ) (digits : List ℕ) → begins_number (digit ∷ digits) ≡ true → digit ≡ 48 → length (digit ∷ digits) ≡ 1
lead digit digits h zero_is = by (digit == 48) refl h
  where
    by : (b : Bool) → (digit == 48) ≡ b → (not b || (length (digit ∷ digits) == 1)) ≡ true → length (digit ∷ digits) ≡ 1
    by true e k = eqb-true (length (digit ∷ digits)) 1 k
    by false e k = absurd (let same = eq-eqb digit 48 zero_is in cc)

pub printed_number : (word : List ℕ) → is_number word ≡ true → number_of word ≤ most → decimal (number_of word) ≡ word
printed_number [] h small = absurd (let e : false ≡ true = h in cc)
printed_number (digit ∷ digits) h small =
    let both = and_parts (begins_number (digit ∷ digits) && nat_le (length (digit ∷ digits)) 10)
    (list_all is_digit (digit ∷ digits)) h in
    let first = and_parts (begins_number (digit ∷ digits)) (nat_le (length (digit ∷ digits)) 10) both.0 in
    decimal-digits_value own (digit ∷ digits) both.1 (omega arith) (lead digit digits first.0) (omega (arith, small))

pub record IsPrinted (word : List ℕ) (n : ℕ) : Type 0 where
  pub is : word ≡ decimal n
  pub small : n ≤ most

word_printed : (word : List ℕ) (n : ℕ) (number small : Bool)
    → is_number word ≡ number
    → nat_le (number_of word) 4294967295 ≡ small
    → (let read : Read ℕ = cond number (cond small (Ok (number_of word)) (Err Limit)) (Err Number) in read ≡ Ok n)
    → IsPrinted word n
word_printed word n true true e f h =
    let same : number_of word ≡ n = cc in
    let few : number_of word ≤ most = leb-true (number_of word) 4294967295 f in
    record { is = sym (printed_number word e few) ∙ ap decimal same; small = omega (arith, few, same) }
word_printed word n true false e f h = cc
word_printed word n false small e f h = cc

pub read_word : (word : List ℕ) (n : ℕ) → number_of_word word ≡ Ok n → IsPrinted word n
read_word word n h = word_printed word n (is_number word) (nat_le (number_of word) 4294967295) refl refl h

-- ---- printed and read

begins : (digits : List ℕ) → 0 < length digits → (48 < get_or digits 0 0) → begins_number digits ≡ true
begins [] some first = absurd (omega (arith, some))
begins (digit ∷ digits) some first = by (digit == 48) refl
  where
    by : (b : Bool) → (digit == 48) ≡ b → (not b || (length (digit ∷ digits) == 1)) ≡ true
    by true e = absurd (let same = eqb-true digit 48 e in omega (arith, same, first))
    by false e = refl

number_from : (digits : List ℕ)
    → 0 < length digits
    → begins_number digits ≡ true
    → length digits ≤ 10
    → list_all is_digit digits ≡ true
    → is_number digits ≡ true
number_from [] some first few all = absurd (omega (arith, some))
number_from (digit ∷ digits) some first few all = λ i. (first i && le-leb (length (digit ∷ digits)) 10 few i) && all i

zero_or : (n : ℕ) (b : Bool) → (n == 0) ≡ b → n < 10 ^ 10 → n < 2 ^ 64 → is_number (decimal n) ≡ true
zero_or n true e small fits =
    let none = eqb-true n 0 e in
    ap (λ m. is_number (decimal m)) none ∙ ap is_number (decimal_digit 0 (omega arith))
zero_or n false e small fits =
    let some = above_zero n e in
    number_from (decimal n) (decimal_nonempty n fits)
    (begins (decimal n) (decimal_nonempty n fits) (first_decimal n some fits))
    (length-decimal-le 10 n (omega arith) small fits) (digits_of n fits)

pub decimal_is_number : (n : ℕ) → n < 10 ^ 10 → is_number (decimal n) ≡ true
decimal_is_number n small = zero_or n (n == 0) refl small (omega (arith, small))

pub word_read : (n : ℕ) → n ≤ most → number_of_word (decimal n) ≡ Ok n
word_read n small =
    let value = value_of n (omega (arith, small)) in
    let e = decimal_is_number n (omega (arith, small)) in
    ap (λ b.
    let read : Read ℕ =
    cond b (cond (nat_le (number_of (decimal n)) 4294967295) (Ok (number_of (decimal n))) (Err Limit)) (Err Number) in
    read) e
    ∙ ap (λ m. let read : Read ℕ = cond (nat_le m 4294967295) (Ok m) (Err Limit) in read) value
    ∙ ap (λ b. let read : Read ℕ = cond b (Ok n) (Err Limit) in read) (le-leb n 4294967295 small)
