-- Each mode word is read back from its text, and what is read spells the text.
use Rattle.std.proofs.Common.{◌≡◌, ◌∙◌, ◌+◌, ◌<◌, ◌≤◌, ◌^◌, ℕ, zero, suc, Bool, true, false, eqb, ltb, cond, ◌&&◌, ◌||◌}
use Rattle.std.proofs.Common.{◌⊎◌, List, [], ◌∷◌, ◌++◌, length, get_or, drop, Option, Some, None, option_map, IfSome}
use Rattle.std.proofs.Common.{refl, sym, ap, subst, arith, codes, bytes_eq, inl, inr, lit<, append_assoc, length-drop}
use Rattle.std.proofs.lemmas.Bool.{cases_eq, false≢true}
use Rattle.std.specs.Fmt.{decimal}
use Rattle.std.specs.List.{before_first, after_first, position_or_len}
use Rattle.std.specs.Option.{option_or}
use Rattle.std.proofs.lemmas.List.Sums.{passes_at_first, split_at_first}
use Rattle.std.proofs.lemmas.Slice.Eq.{bytes_eq-Decides}
use Rattle.std.specs.Str.{all_ascii_digits}
use Rattle.std.specs.Str.Parse.{digits_value}
use Rattle.std.proofs.lemmas.Fmt.{decimal_digit, digits_decimal, digits_value-decimal}
use Rattle.std.proofs.lemmas.Fmt.{decimal_nonempty, first_decimal, decimal-digits_value}
use Rattle.std.proofs.lemmas.Str.Parse.{IsNumeralModel, numerals_by_value, tells_all_ascii_digits}
use Rattle.std.proofs.lemmas.Bool.Decides.{Decides-ltb, Decides-eqb}
use Rattle.tty_modes.specs.declared.words.Word.{Word}
use Rattle.tty_modes.specs.declared.words.Word.TheVariants.{On, Off, Cc, Raw, Sane}
use Rattle.tty_modes.specs.Names.{flag_names, character_names}
use Rattle.tty_modes.specs.Word.{IsModeWord, word_text}
use Rattle.tty_modes.specs.Reading.{place_of, is_decimal, byte_of, character_word}
use Rattle.tty_modes.specs.Reading.{character_word_of, other_word, word_of}

-- P at each of count numbers from a first one on
abbrev AllFrom : (ℕ → Type 0) → ℕ → ℕ → Type 0
AllFrom P first zero = Unit {0}
AllFrom P first (suc count) = P first × AllFrom P (suc first) count

pub at_each : (P : ℕ → Type 0) (first count : ℕ) → AllFrom P first count → (k : ℕ) → first ≤ k → k < first + count → P k
at_each P first zero all k low high = absurd (omega arith)
at_each P first (suc count) all k low high =
    elim (cases_eq k first) [
      | inl same ↦ subst P (sym same) all.0
      | inr differ ↦ at_each P (suc first) count all.1 k (omega arith) (omega arith)
    ]

-- ---- numbers

pub own : IsNumeralModel (λ ds. all_ascii_digits ds ≡ true) (digits_value 10)
own = numerals_by_value (λ ds. all_ascii_digits ds ≡ true) tells_all_ascii_digits

and_true : (a b : Bool) → a ≡ true → b ≡ true → (a && b) ≡ true
and_true a b e f = rw (e, f) refl

-- a text that is a number begins with a digit above 0, or is one digit
leads : (n : ℕ) → n < 256 → (ltb 48 (get_or (decimal n) 0 0) || eqb (length (decimal n)) 1) ≡ true
leads zero small = rw (decimal_digit 0 (lit< tt)) refl
leads (suc n) small =
    let first : 48 < get_or (decimal (suc n)) 0 0 = first_decimal (suc n) (omega arith) (omega arith) in
    let above : ltb 48 (get_or (decimal (suc n)) 0 0) ≡ true =
    (Decides-ltb 48 (get_or (decimal (suc n)) 0 0)).1 first in
    rw above refl

pub byte_of-decimal : (value : ℕ) → value < 256 → byte_of (decimal value) ≡ Some value
byte_of-decimal value small =
    let wide : value < 2 ^ 64 = omega arith in
    let is : digits_value 10 (decimal value) ≡ value = digits_value-decimal own value wide in
    let some : ltb 0 (length (decimal value)) ≡ true =
    (Decides-ltb 0 (length (decimal value))).1 (decimal_nonempty value wide) in
    let digits : all_ascii_digits (decimal value) ≡ true = digits_decimal own value wide in
    let lead = leads value small in
    let below : ltb (digits_value 10 (decimal value)) 256 ≡ true =
    (Decides-ltb (digits_value 10 (decimal value)) 256).1 (rw is small) in
    let number : is_decimal (decimal value) ≡ true =
    and_true (ltb 0 (length (decimal value)) && all_ascii_digits (decimal value))
    (ltb 48 (get_or (decimal value) 0 0) || eqb (length (decimal value)) 1)
    (and_true (ltb 0 (length (decimal value))) (all_ascii_digits (decimal value)) some digits) lead in
    let both : (is_decimal (decimal value) && ltb (digits_value 10 (decimal value)) 256) ≡ true =
    and_true (is_decimal (decimal value)) (ltb (digits_value 10 (decimal value)) 256) number below in
    ap (λ b. cond b (Some (digits_value 10 (decimal value))) None) both ∙ ap Some is

pub both_true : (a b : Bool) → (a && b) ≡ true → (a ≡ true) × (b ≡ true)
both_true true b e = (refl, e)
both_true false b e = absurd (false≢true e)

either_true : (a b : Bool) → (a || b) ≡ true → (a ≡ true) ⊎ (b ≡ true)
either_true true b e = inl refl
either_true false b e = inr e

no_zero_first : (text : List ℕ)
    → (ltb 48 (get_or text 0 0) || eqb (length text) 1) ≡ true
    → get_or text 0 0 ≡ 48
    → length text ≡ 1
no_zero_first text e zero_first =
    elim (either_true (ltb 48 (get_or text 0 0)) (eqb (length text) 1) e) [
      | inl above ↦ absurd (omega (arith, (Decides-ltb 48 (get_or text 0 0)).0 above))
      | inr one ↦ (Decides-eqb (length text) 1).0 one
    ]

-- what the test of a byte's text says
pub record IsByteText (text : List ℕ) : Type 0 where
  pub some : 0 < length text
  pub digits : all_ascii_digits text ≡ true
  pub plain : get_or text 0 0 ≡ 48 → length text ≡ 1
  pub below : digits_value 10 text < 256

byte_text-tested : (text : List ℕ) → (is_decimal text && ltb (digits_value 10 text) 256) ≡ true → IsByteText text
byte_text-tested text e =
    let whole = both_true (is_decimal text) (ltb (digits_value 10 text) 256) e in
    let number = both_true (ltb 0 (length text) && all_ascii_digits text)
    (ltb 48 (get_or text 0 0) || eqb (length text) 1) whole.0 in
    let front = both_true (ltb 0 (length text)) (all_ascii_digits text) number.0 in
    record {
      some = (Decides-ltb 0 (length text)).0 front.0;
      digits = front.1;
      plain = no_zero_first text number.1;
      below = (Decides-ltb (digits_value 10 text) 256).0 whole.1;
    }

byte_spelled_if : (text : List ℕ) (test : Bool)
    → (is_decimal text && ltb (digits_value 10 text) 256) ≡ test
    → IfSome (cond test (Some (digits_value 10 text)) None) (λ v. (v < 256) × (decimal v ≡ text))
byte_spelled_if text false e = tt
byte_spelled_if text true e =
    let is = byte_text-tested text e in
    (is.below, decimal-digits_value own text is.digits is.some is.plain (omega arith))

-- a byte that is read spells its text
byte_of-spelled : (text : List ℕ) → IfSome (byte_of text) (λ v. (v < 256) × (decimal v ≡ text))
byte_of-spelled text = byte_spelled_if text (is_decimal text && ltb (digits_value 10 text) 256) refl

-- ---- from a word to its text and back

word_of-on : (flag : ℕ) → flag < 29 → word_of (word_text (On flag)) ≡ Some (On flag)
unfolding word_of
word_of-on flag within =
    at_each (λ k. word_of (get_or flag_names k []) ≡ Some (On k)) 0 29
    (refl, (refl, (refl, (refl, (refl, (refl, (refl, (refl, (refl, (refl, (refl, (refl, (refl, (refl, (refl, (refl, (refl, (refl, (refl, (refl, (refl, (refl, (refl, (refl, (refl, (refl, (refl, (refl, (refl, tt)))))))))))))))))))))))))))))
    flag (omega arith) (omega arith)

word_of-off : (flag : ℕ) → flag < 29 → word_of (word_text (Off flag)) ≡ Some (Off flag)
unfolding word_of
word_of-off flag within =
    at_each (λ k. word_of (45 ∷ get_or flag_names k []) ≡ Some (Off k)) 0 29
    (refl, (refl, (refl, (refl, (refl, (refl, (refl, (refl, (refl, (refl, (refl, (refl, (refl, (refl, (refl, (refl, (refl, (refl, (refl, (refl, (refl, (refl, (refl, (refl, (refl, (refl, (refl, (refl, (refl, tt)))))))))))))))))))))))))))))
    flag (omega arith) (omega arith)

word_of-cc : (place value : ℕ) → place < 15 → value < 256 → word_of (word_text (Cc place value)) ≡ Some (Cc place value)
unfolding word_of
word_of-cc place value within small =
    at_each (λ k.
    (digits : List ℕ)
    → word_of (get_or character_names k [] ++ 61 ∷ [] ++ digits) ≡ character_word (Some k) (byte_of digits)) 0 15
    (λ d. refl, (λ d. refl, (λ d. refl, (λ d. refl, (λ d. refl, (λ d. refl, (λ d. refl, (λ d. refl, (λ d. refl, (λ d. refl, (λ d. refl, (λ d. refl, (λ d. refl, (λ d. refl, (λ d. refl, tt)))))))))))))))
    place (omega arith) (omega arith) (decimal value)
    ∙ ap (character_word (Some place)) (byte_of-decimal value small)

-- each mode word is read back from its text
pub word_of-word_text : (w : Word) → IsModeWord w → word_of (word_text w) ≡ Some w
unfolding word_of
word_of-word_text (On flag) within = word_of-on flag within
word_of-word_text (Off flag) within = word_of-off flag within
word_of-word_text (Cc place value) within = word_of-cc place value within.0 within.1
word_of-word_text Raw within = refl
word_of-word_text Sane within = refl

-- different mode words have different texts
pub word_text-distinct : (v w : Word) → IsModeWord v → IsModeWord w → word_text v ≡ word_text w → v ≡ w
word_text-distinct v w is_v is_w same =
    let e : Some v ≡ Some w = sym (word_of-word_text v is_v) ∙ ap word_of same ∙ word_of-word_text w is_w in
    cc

-- ---- from a text to the word that it spells

abbrev Spells : List ℕ → Option Word → Type 0
Spells text o = IfSome o (λ w. IsModeWord w × (word_text w ≡ text))

place_found_if : (names : List (List ℕ)) (text : List ℕ) (test : Bool)
    → ltb (position_or_len (λ name. bytes_eq name text) names) (length names) ≡ test
    → IfSome (cond test (Some (position_or_len (λ name. bytes_eq name text) names)) None)
    (λ k. (k < length names) × (get_or names k [] ≡ text))
place_found_if names text false e = tt
place_found_if names text true e =
    let place = position_or_len (λ name. bytes_eq name text) names in
    let inside : place < length names = (Decides-ltb place (length names)).0 e in (
      inside,
      (bytes_eq-Decides (get_or names place []) text).0 (passes_at_first (λ name. bytes_eq name text) names [] inside),
    )

-- the name at a place that is found is the text
pub place_found : (names : List (List ℕ)) (text : List ℕ)
    → IfSome (place_of names text) (λ k. (k < length names) × (get_or names k [] ≡ text))
place_found names text =
    place_found_if names text (ltb (position_or_len (λ name. bytes_eq name text) names) (length names)) refl

spelled_on : (text : List ℕ) (o : Option ℕ) (other : Option Word)
    → IfSome o (λ k. (k < 29) × (get_or flag_names k [] ≡ text))
    → Spells text other
    → Spells text (option_or (option_map On o) other)
spelled_on text None other found rest = rest
spelled_on text (Some k) other found rest = found

first_and_rest : (text : List ℕ) (c : ℕ) → 0 < c → get_or text 0 0 ≡ c → c ∷ drop 1 text ≡ text
first_and_rest [] c above e = absurd (omega arith)
first_and_rest (x ∷ xs) c above e = ap (λ y. y ∷ xs) (sym e)

spelled_off : (text : List ℕ) (o : Option ℕ)
    → get_or text 0 0 ≡ 45
    → IfSome o (λ k. (k < 29) × (get_or flag_names k [] ≡ drop 1 text))
    → Spells text (option_map Off o)
spelled_off text None dash found = tt
spelled_off text (Some k) dash found = (found.0, ap (λ name. 45 ∷ name) found.1 ∙ first_and_rest text 45 (lit< tt) dash)

-- a text with a byte after its first `=` is what stands before it, `=` and what stands after it
parted : (text : List ℕ)
    → 0 < length (after_first (λ b. eqb b 61) text)
    → before_first (λ b. eqb b 61) text ++ (61 ∷ after_first (λ b. eqb b 61) text) ≡ text
parted text some =
    let place = position_or_len (λ b. eqb b 61) text in
    let inside : place < length text = omega (arith, length-drop (place + 1) text) in
    let equals : get_or text place 0 ≡ 61 =
    (Decides-eqb (get_or text place 0) 61).0 (passes_at_first (λ b. eqb b 61) text 0 inside) in
    sym (split_at_first (λ b. eqb b 61) text 0 inside
    ∙ ap (λ c. before_first (λ b. eqb b 61) text ++ (c ∷ after_first (λ b. eqb b 61) text)) equals)

spelled_character : (text : List ℕ) (o v : Option ℕ)
    → IfSome o (λ k. (k < 15) × (get_or character_names k [] ≡ before_first (λ b. eqb b 61) text))
    → IfSome v (λ n. (n < 256) × (decimal n ≡ after_first (λ b. eqb b 61) text))
    → Spells text (character_word o v)
spelled_character text None v found value = tt
spelled_character text (Some k) None found value = tt
spelled_character text (Some k) (Some n) found value =
    let digits : 0 < length (decimal n) = decimal_nonempty n (omega arith) in
    let some : 0 < length (after_first (λ b. eqb b 61) text) = rw value.1 at digits in (
      (found.0, value.0),
      append_assoc (get_or character_names k []) (61 ∷ []) (decimal n)
          ∙ ap (λ ds. get_or character_names k [] ++ (61 ∷ ds)) value.1
          ∙ ap (λ name. name ++ (61 ∷ after_first (λ b. eqb b 61) text)) found.1
          ∙ parted text some,
    )

spelled_other_if : (text : List ℕ) (test : Bool)
    → eqb (get_or text 0 0) 45 ≡ test
    → Spells text (cond test (option_map Off (place_of flag_names (drop 1 text)))
    (character_word (place_of character_names (before_first (λ b. eqb b 61) text))
    (byte_of (after_first (λ b. eqb b 61) text))))
spelled_other_if text true e =
    spelled_off text (place_of flag_names (drop 1 text)) ((Decides-eqb (get_or text 0 0) 45).0 e)
    (place_found flag_names (drop 1 text))
spelled_other_if text false e =
    spelled_character text (place_of character_names (before_first (λ b. eqb b 61) text))
    (byte_of (after_first (λ b. eqb b 61) text))
    (place_found character_names (before_first (λ b. eqb b 61) text))
    (byte_of-spelled (after_first (λ b. eqb b 61) text))

spelled_if : (text : List ℕ) (test : Bool) (x y : Option Word)
    → (test ≡ true → Spells text x)
    → (test ≡ false → Spells text y)
    → Spells text (cond test x y)
spelled_if text true x y when when_not = when refl
spelled_if text false x y when when_not = when_not refl

-- the word that is read spells the text
pub word_of-spelled : (text : List ℕ) → IfSome (word_of text) (λ w. IsModeWord w × (word_text w ≡ text))
unfolding word_of
word_of-spelled text =
    spelled_if text (bytes_eq text (codes "raw")) (Some Raw) _
    (λ e. (tt, sym ((bytes_eq-Decides text (codes "raw")).0 e)))
    (λ not_raw. spelled_if text (bytes_eq text (codes "sane")) (Some Sane)
    (option_or (option_map On (place_of flag_names text)) (other_word text))
    (λ e. (tt, sym ((bytes_eq-Decides text (codes "sane")).0 e)))
    (λ not_sane. spelled_on text (place_of flag_names text) (other_word text) (place_found flag_names text)
    (spelled_other_if text (eqb (get_or text 0 0) 45) refl)))

-- ---- the cases of what is read

pub word_of-raw : (text : List ℕ) → bytes_eq text (codes "raw") ≡ true → word_of text ≡ Some Raw
unfolding word_of
word_of-raw text raw = rw raw refl

pub word_of-sane : (text : List ℕ)
    → bytes_eq text (codes "raw") ≡ false
    → bytes_eq text (codes "sane") ≡ true
    → word_of text ≡ Some Sane
unfolding word_of
word_of-sane text raw named = rw (raw, named) refl

pub word_of-flag : (text : List ℕ) (flag : ℕ)
    → bytes_eq text (codes "raw") ≡ false
    → bytes_eq text (codes "sane") ≡ false
    → place_of flag_names text ≡ Some flag
    → word_of text ≡ Some (On flag)
unfolding word_of
word_of-flag text flag raw named place = rw (raw, named) (ap (λ o. option_or (option_map On o) (other_word text)) place)

word_of-other : (text : List ℕ)
    → bytes_eq text (codes "raw") ≡ false
    → bytes_eq text (codes "sane") ≡ false
    → place_of flag_names text ≡ None
    → word_of text ≡ other_word text
unfolding word_of
word_of-other text raw named place = rw (raw, named) (ap (λ o. option_or (option_map On o) (other_word text)) place)

-- a text that begins with a dash clears the flag that the rest names
pub word_of-dash : (text : List ℕ)
    → get_or text 0 0 ≡ 45
    → word_of text ≡ option_map Off (place_of flag_names (drop 1 text))
unfolding word_of
word_of-dash [] dash = absurd (omega arith)
word_of-dash (c ∷ name) dash = ap (λ (first : ℕ). word_of (first ∷ name)) dash

-- .. and one that is neither of the words, no flag and without a dash may set a character
pub word_of-character : (text : List ℕ)
    → bytes_eq text (codes "raw") ≡ false
    → bytes_eq text (codes "sane") ≡ false
    → place_of flag_names text ≡ None
    → eqb (get_or text 0 0) 45 ≡ false
    → word_of text ≡ character_word_of text
word_of-character text raw named place dash =
    word_of-other text raw named place
    ∙ ap (λ b. cond b (option_map Off (place_of flag_names (drop 1 text))) (character_word_of text)) dash
