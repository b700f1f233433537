-- How printed lines are parted: their lines, and the words of each.
use Rattle.std.proofs.Common.{◌≡◌, ℕ, ◌<◌, ◌==◌, ◌&&◌, ◌||◌, nat_lt, Bool, true, false, cond, List, []}
use Rattle.std.proofs.Common.{◌∷◌, ◌++◌, length, map, refl, ap, sym, ◌∙◌, arith, ltb-true, append_assoc}
use Rattle.std.specs.Prelude.{filter}
use Rattle.std.specs.List.{list_all, slice_split, onto_first}
use Rattle.std.proofs.lemmas.Bool.{and_parts, eqb-true}
use Rattle.std.proofs.lemmas.List.Elements.{filter-append}
use Rattle.std.proofs.lemmas.List.Folds.{list_all-append}
use Rattle.text_lines.specs.Lines.{is_newline, is_blank, lines_of, has_bytes, words_of}
use Rattle.session_text.specs.Refusals.{lines_in}
use Rattle.check_text.proofs.Truths.{is_false, lt-ltb}

-- ---- what stands in a line: bytes from 32 on, and in a word bytes above 32

abbrev pub is_inline : ℕ → Bool
is_inline byte = nat_lt 31 byte

abbrev pub is_plain : ℕ → Bool
is_plain byte = nat_lt 32 byte

abbrev pub Inline : List ℕ → Type 0
Inline text = list_all is_inline text ≡ true

abbrev pub Plain : List ℕ → Type 0
Plain text = list_all is_plain text ≡ true

both : (a b : Bool) → a ≡ true → b ≡ true → (a && b) ≡ true
both true true p q = refl
both true false p q = cc
both false b p q = cc

pub inline_append : (x y : List ℕ) → Inline x → Inline y → Inline (x ++ y)
inline_append x y p q = list_all-append is_inline x y ∙ both (list_all is_inline x) (list_all is_inline y) p q

pub plain_append : (x y : List ℕ) → Plain x → Plain y → Plain (x ++ y)
plain_append x y p q = list_all-append is_plain x y ∙ both (list_all is_plain x) (list_all is_plain y) p q

pub plain_inline : (x : List ℕ) → Plain x → Inline x
plain_inline [] p = refl
plain_inline (byte ∷ bytes) p =
    let parts = and_parts (is_plain byte) (list_all is_plain bytes) p in
    let above = ltb-true 32 byte parts.0 in
    both (is_inline byte) (list_all is_inline bytes) (lt-ltb 31 byte (omega (arith, above)))
    (plain_inline bytes parts.1)

no_newline : (byte : ℕ) → is_inline byte ≡ true → is_newline byte ≡ false
no_newline byte e = is_false (byte == 10)
    (λ same. let ten = eqb-true byte 10 same in let above = ltb-true 31 byte e in omega (arith, ten, above))

or_false : (a b : Bool) → a ≡ false → b ≡ false → (a || b) ≡ false
or_false true b p q = cc
or_false false b p q = q

no_blank : (byte : ℕ) → is_plain byte ≡ true → is_blank byte ≡ false
no_blank byte e =
    let above = ltb-true 32 byte e in
    or_false (byte == 32 || byte == 9) (byte == 13)
    (or_false (byte == 32) (byte == 9)
    (is_false (byte == 32) (λ same. let n = eqb-true byte 32 same in omega (arith, n, above)))
    (is_false (byte == 9) (λ same. let n = eqb-true byte 9 same in omega (arith, n, above))))
    (is_false (byte == 13) (λ same. let n = eqb-true byte 13 same in omega (arith, n, above)))

-- ---- lines

line_first : (line rest : List ℕ) → Inline line → lines_of (line ++ 10 ∷ rest) ≡ line ∷ lines_of rest
line_first [] rest p = refl
line_first (byte ∷ line) rest p =
    let parts = and_parts (is_inline byte) (list_all is_inline line) p in
    ap (λ b. cond b ([] ∷ lines_of (line ++ 10 ∷ rest)) (onto_first byte (lines_of (line ++ 10 ∷ rest))))
    (no_newline byte parts.0)
    ∙ ap (onto_first byte) (line_first line rest parts.1)

-- a line, and what follows it
pub line_parted : (line rest : List ℕ)
    → Inline line
    → lines_in ((line ++ 10 ∷ []) ++ rest) ≡ words_of line ∷ lines_in rest
line_parted line rest p = ap lines_in (append_assoc line (10 ∷ []) rest) ∙ ap (map words_of) (line_first line rest p)

-- ---- words

-- a split has a first part
some_part : (p : ℕ → Bool) (xs : List ℕ) → (first : List ℕ) × (more : List (List ℕ)) × (slice_split p xs ≡ first ∷ more)
some_part p [] = ([], [], refl)
some_part p (x ∷ xs) = by (p x) refl (some_part p xs)
  where
    by : (b : Bool)
        → p x ≡ b
        → (first : List ℕ) × (more : List (List ℕ)) × (slice_split p xs ≡ first ∷ more)
        → (first : List ℕ) × (more : List (List ℕ)) × (slice_split p (x ∷ xs) ≡ first ∷ more)
    by true e found =
        ([], slice_split p xs, ap (λ b. cond b ([] ∷ slice_split p xs) (onto_first x (slice_split p xs))) e)
    by false e found = (
      x ∷ found.0,
      found.1,
      ap (λ b. cond b ([] ∷ slice_split p xs) (onto_first x (slice_split p xs))) e ∙ ap (onto_first x) found.2,
    )

first_onto : (x : ℕ) (parts more : List (List ℕ)) (first : List ℕ) (others : List (List ℕ))
    → parts ≡ first ∷ others
    → onto_first x (parts ++ more) ≡ onto_first x parts ++ more
first_onto x parts more first others e =
    ap (λ ps. onto_first x (ps ++ more)) e ∙ sym (ap (λ ps. onto_first x ps ++ more) e)

split_append : (p : ℕ → Bool) (x : List ℕ) (b : ℕ) (y : List ℕ)
    → p b ≡ true
    → slice_split p (x ++ b ∷ y) ≡ slice_split p x ++ slice_split p y
split_append p [] b y e = ap (λ t. cond t ([] ∷ slice_split p y) (onto_first b (slice_split p y))) e
split_append p (c ∷ x) b y e =
    let later = split_append p x b y e in
    let some = some_part p x in
    by (p c) later (first_onto c (slice_split p x) (slice_split p y) some.0 some.1 some.2)
  where
    by : (t : Bool)
        → slice_split p (x ++ b ∷ y) ≡ slice_split p x ++ slice_split p y
        → onto_first c (slice_split p x ++ slice_split p y) ≡ onto_first c (slice_split p x) ++ slice_split p y
        → cond t ([] ∷ slice_split p (x ++ b ∷ y)) (onto_first c (slice_split p (x ++ b ∷ y)))
        ≡ cond t ([] ∷ slice_split p x) (onto_first c (slice_split p x)) ++ slice_split p y
    by true later onto = ap (λ ps. [] ∷ ps) later
    by false later onto = ap (onto_first c) later ∙ onto

-- a blank parts words
pub words_append : (x y : List ℕ) → words_of (x ++ 32 ∷ y) ≡ words_of x ++ words_of y
words_append x y =
    ap (filter has_bytes) (split_append is_blank x 32 y refl)
    ∙ filter-append has_bytes (slice_split is_blank x) (slice_split is_blank y)

one_part : (word : List ℕ) → Plain word → slice_split is_blank word ≡ word ∷ []
one_part [] p = refl
one_part (byte ∷ word) p =
    let parts = and_parts (is_plain byte) (list_all is_plain word) p in
    ap (λ b. cond b ([] ∷ slice_split is_blank word) (onto_first byte (slice_split is_blank word)))
    (no_blank byte parts.0)
    ∙ ap (onto_first byte) (one_part word parts.1)

has_some : (word : List ℕ) → 0 < length word → filter has_bytes (word ∷ []) ≡ word ∷ []
has_some [] some = absurd (omega (arith, some))
has_some (byte ∷ word) some = refl

pub one_word : (word : List ℕ) → 0 < length word → Plain word → words_of word ≡ word ∷ []
one_word word some p = ap (filter has_bytes) (one_part word p) ∙ has_some word some

-- a word, and what follows it
pub word_then : (word rest : List ℕ)
    → 0 < length word
    → Plain word
    → words_of (word ++ 32 ∷ rest) ≡ word ∷ words_of rest
word_then word rest some p = words_append word rest ∙ ap (λ ws. ws ++ words_of rest) (one_word word some p)
