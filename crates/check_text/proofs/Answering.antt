-- Each answer is read back from the words that it is printed as.
use Rattle.std.proofs.Common.{◌≡◌, ◌⊎◌, inl, inr, ℕ, suc, ◌-◌, ◌/◌, ◌%◌, ◌^◌, ◌<◌, ◌≤◌, ◌&&◌, nat_le}
use Rattle.std.proofs.Common.{Bool, true, false, cond, List, [], ◌∷◌, ◌++◌, Some, None, Result}
use Rattle.std.proofs.Common.{length, codes, decimal, refl, ap, sym, ◌∙◌, arith, le-leb, leb-true}
use Rattle.std.specs.Prelude.{slice_index, option_map, unwrap_or}
use Rattle.std.specs.Str.{bytes_eq}
use Rattle.std.specs.List.{list_all, AllByRecursion}
use Rattle.std.specs.Result.{result_unwrap_or}
use Rattle.std.proofs.lemmas.Bool.{and_parts}
use Rattle.std.proofs.lemmas.Slice.Eq.{bytes_eq-Decides}
use Rattle.std.proofs.lemmas.Fmt.{decimal_nonempty}
use Rattle.hex.specs.Hex.{hex_digit_value, lower_digits, encode_with, encode_lower, decode_pairs, IsBytes}
use Rattle.hex.specs.declared.error.FromHexError.{FromHexError}
use Rattle.hex.proofs.HexLemmas.{IsDigits-lower_digits, decode_of-encode_lower}
use Rattle.tty_base.specs.declared.counters.Errno.{Errno}
use Rattle.tty_base.specs.declared.counters.Errno.TheVariants.{EBADF, EEXIST, EBUSY, EAGAIN}
use Rattle.tty_base.specs.declared.counters.Errno.TheVariants.{EIO, EINVAL, ENOTTY, EMSGSIZE}
use Rattle.tty_calls.specs.Plain.{PlainAnswer, count_is, got, number_is, refused, idle}
use Rattle.text_lines.specs.Lines.{words_of}
use Rattle.text_lines.specs.Values.{is_digit, number_of, number_at, word_at, bytes_of, choice_of}
use Rattle.session_print.specs.Words.{errno_name}
use Rattle.check_text.specs.declared.kinds.AnswerKind.{AnswerKind}
use Rattle.check_text.specs.declared.kinds.AnswerKind.TheVariants as kind
use Rattle.check_text.specs.Answers.{all_errnos, errno_of, named_answer, small_at, answer_meaning, answer_words}
use Rattle.check_text.specs.Grammar.{most}
use Rattle.check_text.proofs.Numbers.{digits_of, decimal_is_number, value_of}
use Rattle.check_text.proofs.Splitting.{Plain, is_plain, one_word, word_then}
use Rattle.check_text.proofs.Truths.{is_false, lt-ltb}

abbrev Line : Type 0
Line = List (List ℕ)

-- what may follow an answer: nothing, or `drop` and a word
abbrev pub Stops : Line → Type 0
Stops rest = (rest ≡ []) ⊎ ((word : List ℕ) × (rest ≡ codes "drop" ∷ word ∷ []))

-- ---- digits

both : (a b : Bool) → a ≡ true → b ≡ true → (a && b) ≡ true
both true true p q = refl
both true false p q = cc
both false b p q = cc

pub digits_plain : (digits : List ℕ) → list_all is_digit digits ≡ true → Plain digits
digits_plain [] p = refl
digits_plain (digit ∷ digits) p =
    let parts = and_parts (is_digit digit) (list_all is_digit digits) p in
    let range = and_parts (nat_le 48 digit) (nat_le digit 57) parts.0 in
    let above = leb-true 48 digit range.0 in
    both (is_plain digit) (list_all is_plain digits) (lt-ltb 32 digit (omega (arith, above)))
    (digits_plain digits parts.1)

pub decimal_plain : (n : ℕ) → n < 2 ^ 64 → Plain (decimal n)
decimal_plain n h = digits_plain (decimal n) (digits_of n h)

pub one_decimal : (n : ℕ) → n < 2 ^ 64 → words_of (decimal n) ≡ decimal n ∷ []
one_decimal n h = one_word (decimal n) (decimal_nonempty n h) (decimal_plain n h)

pub decimal_then : (n : ℕ) (rest : List ℕ) → n < 2 ^ 64 → words_of (decimal n ++ 32 ∷ rest) ≡ decimal n ∷ words_of rest
decimal_then n rest h = word_then (decimal n) rest (decimal_nonempty n h) (decimal_plain n h)

-- ---- names of answers

pub other_text : (word text : List ℕ) → (word ≡ text → ⊥) → bytes_eq word text ≡ false
other_text word text apart = is_false (bytes_eq word text) (λ same. apart ((bytes_eq-Decides word text).0 same))

pub no_choice : {X : Type 0} (text_of : X → List ℕ) (xs : List X) (word : List ℕ)
    → AllByRecursion (λ x. bytes_eq word (text_of x) ≡ false) xs
    → choice_of text_of xs word ≡ None
no_choice text_of [] word none = refl
no_choice text_of (x ∷ xs) word none =
    ap (λ b. cond b (Some x) (choice_of text_of xs word)) none.0 ∙ no_choice text_of xs word none.1

pub unnamed : (word : List ℕ)
    → bytes_eq word (codes "idle") ≡ false
    → AllByRecursion (λ errno. bytes_eq word (errno_name errno) ≡ false) all_errnos
    → named_answer word ≡ None
unnamed word other none =
    ap (λ b. cond b (Some idle) (option_map refused (errno_of word))) other
    ∙ ap (option_map refused) (no_choice errno_name all_errnos word none)

no_digits : (word text : List ℕ)
    → list_all is_digit word ≡ true
    → list_all is_digit text ≡ false
    → bytes_eq word text ≡ false
no_digits word text digits none =
    other_text word text (λ same. let all = sym digits ∙ ap (list_all is_digit) same ∙ none in cc)

pub unnamed_decimal : (n : ℕ) → n < 2 ^ 64 → named_answer (decimal n) ≡ None
unnamed_decimal n h =
    let digits = digits_of n h in
    let no = λ (text : List ℕ) (none : list_all is_digit text ≡ false). no_digits (decimal n) text digits none in
    unnamed (decimal n) (no (codes "idle") refl)
    (no (codes "EBADF") refl, (no (codes "EEXIST") refl, (no (codes "EBUSY") refl, (no (codes "EAGAIN") refl, (no (codes "EIO") refl, (no (codes "EINVAL") refl, (no (codes "ENOTTY") refl, (no (codes "EMSGSIZE") refl, tt))))))))

-- ---- counts of bytes, numbers

small_decimal : (n : ℕ) (rest : Line) → n ≤ most → small_at (decimal n ∷ rest) ≡ n
small_decimal n rest small =
    let is = decimal_is_number n (omega (arith, small)) in
    let value = value_of n (omega (arith, small)) in
    let at : number_at (decimal n ∷ rest) 0 ≡ n = ap (λ b. cond b (number_of (decimal n)) 0) is ∙ value in
    ap (λ m. cond (nat_le m 4294967295) m 0) at ∙ ap (λ b. cond b n 0) (le-leb n 4294967295 small)

abbrev pub ReadsBack : AnswerKind → PlainAnswer → Type 0
ReadsBack kind answer = (rest : Line) → Stops rest → answer_meaning kind (answer_words answer ++ rest) ≡ answer

pub count_back : (n : ℕ) → n ≤ most → ReadsBack kind.Count (count_is n)
count_back n small rest stops =
    ap (λ (ws : Line). answer_meaning kind.Count (ws ++ rest)) (one_decimal n (omega (arith, small)))
    ∙ ap (λ o. unwrap_or o (count_is (small_at (decimal n ∷ rest)))) (unnamed_decimal n (omega (arith, small)))
    ∙ ap count_is (small_decimal n rest small)

pub number_back : (n : ℕ) → n ≤ most → ReadsBack kind.Number (number_is n)
number_back n small rest stops =
    ap (λ (ws : Line). answer_meaning kind.Number (ws ++ rest)) (one_decimal n (omega (arith, small)))
    ∙ ap (λ o. unwrap_or o (number_is (small_at (decimal n ∷ rest)))) (unnamed_decimal n (omega (arith, small)))
    ∙ ap number_is (small_decimal n rest small)

-- ---- bytes

hex_above : (c d : ℕ) → hex_digit_value c ≡ Some d → 32 < c
hex_above c d h =
    by (nat_le 65 c) (nat_le c 70) (nat_le 97 c) (nat_le c 102) (nat_le 48 c) (nat_le c 57) refl refl refl h
  where
    by : (a b e f g i : Bool)
        → nat_le 65 c ≡ a
        → nat_le 97 c ≡ e
        → nat_le 48 c ≡ g
        → cond (a && b) (Some (c - 55)) (cond (e && f) (Some (c - 87)) (cond (g && i) (Some (c - 48)) None)) ≡ Some d
        → 32 < c
    by true b e f g i p q r k = let above = leb-true 65 c p in omega (arith, above)
    by false b true f g i p q r k = let above = leb-true 97 c q in omega (arith, above)
    by false b false f true i p q r k = let above = leb-true 48 c r in omega (arith, above)
    by false b false f false i p q r k = cc

pub digit_plain : (d : ℕ) → d < 16 → is_plain (slice_index lower_digits d) ≡ true
digit_plain d small =
    lt-ltb 32 (slice_index lower_digits d) (hex_above (slice_index lower_digits d) d (IsDigits-lower_digits d small))

pub hex_plain : (bytes : List ℕ) → IsBytes bytes → Plain (encode_lower bytes)
unfolding encode_with
hex_plain [] are = refl
hex_plain (byte ∷ bytes) are =
    let fits : byte < 256 = are 0 in
    let high = digit_plain (byte / 16) (omega (arith, fits)) in
    let low = digit_plain (byte % 16) (omega (arith, fits)) in
    both (is_plain (slice_index lower_digits (byte / 16)))
    (is_plain (slice_index lower_digits (byte % 16)) && list_all is_plain (encode_lower bytes)) high
    (both (is_plain (slice_index lower_digits (byte % 16))) (list_all is_plain (encode_lower bytes)) low
    (hex_plain bytes (λ k. are (suc k))))

pub hex_some : (byte : ℕ) (bytes : List ℕ) → 0 < length (encode_lower (byte ∷ bytes))
unfolding encode_with
hex_some byte bytes = omega arith

pub bytes_back : (bytes : List ℕ) → IsBytes bytes → bytes_of (encode_lower bytes) ≡ bytes
bytes_back bytes are =
    ap (λ (r : Result (List ℕ) FromHexError). result_unwrap_or r []) (decode_of-encode_lower bytes are)

pub got_words : (byte : ℕ) (bytes : List ℕ)
    → IsBytes (byte ∷ bytes)
    → length (byte ∷ bytes) < 2 ^ 64
    → answer_words (got (byte ∷ bytes)) ≡ decimal (length (byte ∷ bytes)) ∷ encode_lower (byte ∷ bytes) ∷ []
got_words byte bytes are few =
    decimal_then (length (byte ∷ bytes)) (encode_lower (byte ∷ bytes)) few
    ∙ ap (λ (ws : Line). decimal (length (byte ∷ bytes)) ∷ ws)
    (one_word (encode_lower (byte ∷ bytes)) (hex_some byte bytes) (hex_plain (byte ∷ bytes) are))

nothing_read : (rest : Line) → Stops rest → bytes_of (word_at (codes "0" ∷ rest) 1) ≡ []
unfolding decode_pairs
nothing_read rest (inl e) = ap (λ (ws : Line). bytes_of (word_at (codes "0" ∷ ws) 1)) e
nothing_read rest (inr e) = ap (λ (ws : Line). bytes_of (word_at (codes "0" ∷ ws) 1)) e.1

pub got_back : (bytes : List ℕ) → IsBytes bytes → length bytes < 2 ^ 64 → ReadsBack kind.Got (got bytes)
got_back [] are few rest stops = ap got (nothing_read rest stops)
got_back (byte ∷ bytes) are few rest stops =
    let n = length (byte ∷ bytes) in
    let digits = encode_lower (byte ∷ bytes) in
    ap (λ (ws : Line). answer_meaning kind.Got (ws ++ rest)) (got_words byte bytes are few)
    ∙ ap (λ o. unwrap_or o (got (bytes_of digits))) (unnamed_decimal n few) ∙ ap got (bytes_back (byte ∷ bytes) are)

-- ---- names

pub errno_back : (kind : AnswerKind) (errno : Errno) → ReadsBack kind (refused errno)
errno_back kind EBADF rest stops = refl
errno_back kind EEXIST rest stops = refl
errno_back kind EBUSY rest stops = refl
errno_back kind EAGAIN rest stops = refl
errno_back kind EIO rest stops = refl
errno_back kind EINVAL rest stops = refl
errno_back kind ENOTTY rest stops = refl
errno_back kind EMSGSIZE rest stops = refl
