-- Lines and words at their first cut.
use Rattle.std.proofs.Common.{◌≡◌, ℕ, ◌+◌, ◌-◌, ◌<◌, Bool, true, false, cond, List, [], ◌∷◌, length, take}
use Rattle.std.proofs.Common.{drop, get_or, refl, ap, sym, subst, ◌∙◌, arith, ltb-true, ltb-false, Option}
use Rattle.std.proofs.Common.{Some, None, is_some, not, nat_lt, zero, suc, ◌≤◌, ◌⊎◌, inl, inr, ◌==◌}
use Rattle.std.specs.Prelude.{position, filter}
use Rattle.std.specs.List.{slice_split, position_or_len, onto_first}
use Rattle.std.proofs.lemmas.List.Splits.{slice_split_first, slice_split_none}
use Rattle.std.proofs.lemmas.List.Sums.{fails_before_first, passes_at_first}
use Rattle.std.proofs.lemmas.Bool.Decides.{Decides-ltb}
use Rattle.std.proofs.lemmas.List.{drop_more, drop_all, take_rest}
use Rattle.text_lines.specs.Lines.{is_newline, is_blank, has_bytes, lines_of, words_of}

some_then : (b : Bool) (n at : ℕ) → cond b (Some n) None ≡ Some at → (b ≡ true) × (n ≡ at)
some_then true n at h = (refl, cc)
some_then false n at h = cc

none_then : (b : Bool) (n : ℕ) → cond b (Some n) None ≡ None → b ≡ false
none_then true n h = cc
none_then false n h = refl

-- where an element passes, the first that does is there
pub position_then : {X : Type 0} (p : X → Bool) (xs : List X) (at : ℕ)
    → position p xs ≡ Some at
    → (position_or_len p xs ≡ at) × (at < length xs)
position_then p xs at h =
    let found = some_then (nat_lt (position_or_len p xs) (length xs)) (position_or_len p xs) at h in
    (found.1, subst (λ (n : ℕ). n < length xs) found.1 (ltb-true _ _ found.0))

-- .. and cuts off a part
pub split_some : {X : Type 0} (p : X → Bool) (xs : List X) (at : ℕ)
    → position p xs ≡ Some at
    → slice_split p xs ≡ take at xs ∷ slice_split p (drop (at + 1) xs)
split_some p [] at h = cc
split_some {X} p (x ∷ xs) at h =
    let found = position_then p (x ∷ xs) at h in
    let below : position_or_len p (x ∷ xs) < length (x ∷ xs) =
    subst (λ (n : ℕ). n < length (x ∷ xs)) (sym found.0) found.1 in
    subst (λ (n : ℕ). slice_split p (x ∷ xs) ≡ take n (x ∷ xs) ∷ slice_split p (drop (n + 1) (x ∷ xs))) found.0
    (slice_split_first p (x ∷ xs) x below)

-- where none passes, the list is the one part
pub split_none : {X : Type 0} (p : X → Bool) (xs : List X) → position p xs ≡ None → slice_split p xs ≡ xs ∷ []
split_none p xs h =
    let over = ltb-false (position_or_len p xs) (length xs)
    (none_then (nat_lt (position_or_len p xs) (length xs)) (position_or_len p xs) h) in
    slice_split_none p xs (λ k d lt. fails_before_first p xs k d (omega (arith, lt, over)))

-- a byte that parts no words
abbrev pub is_letter : ℕ → Bool
is_letter byte = not (is_blank byte)

drop_one : {X : Type 0} (x : X) (xs : List X) (n : ℕ) → drop (1 + n) (x ∷ xs) ≡ drop n xs
drop_one x xs n = let next : 1 + n ≡ suc n = omega arith in ap (λ m. drop m (x ∷ xs)) next

skip_byte : (byte : ℕ) (bytes : List ℕ) (b : Bool)
    → is_blank byte ≡ b
    → words_of bytes ≡ words_of (drop (position_or_len is_letter bytes) bytes)
    → words_of (byte ∷ bytes) ≡ words_of (drop (position_or_len is_letter (byte ∷ bytes)) (byte ∷ bytes))
skip_byte byte bytes true e rest =
    let n = position_or_len is_letter bytes in
    let S = slice_split is_blank bytes in
    let here : words_of (byte ∷ bytes) ≡ words_of bytes =
    ap (λ b. filter has_bytes (cond b ([] ∷ S) (onto_first byte S))) e in
    let there : words_of (drop (position_or_len is_letter (byte ∷ bytes)) (byte ∷ bytes))
    ≡ words_of (drop (1 + n) (byte ∷ bytes)) =
    ap (λ b. words_of (drop (cond (not (not b)) (1 + n) 0) (byte ∷ bytes))) e in
    here ∙ rest ∙ sym (there ∙ ap words_of (drop_one byte bytes n))
skip_byte byte bytes false e rest =
    let n = position_or_len is_letter bytes in
    sym (ap (λ b. words_of (drop (cond (not (not b)) (1 + n) 0) (byte ∷ bytes))) e)

-- blanks before the first word say nothing
pub skip_to_word : (line : List ℕ) → words_of line ≡ words_of (drop (position_or_len is_letter line) line)
skip_to_word [] = refl
skip_to_word (byte ∷ bytes) = skip_byte byte bytes (is_blank byte) refl (skip_to_word bytes)

pub no_word : (line : List ℕ) → position is_letter line ≡ None → words_of line ≡ []
no_word line h =
    let over = ltb-false (position_or_len is_letter line) (length line)
    (none_then (nat_lt (position_or_len is_letter line) (length line)) (position_or_len is_letter line) h) in
    skip_to_word line ∙ ap words_of (drop_all (position_or_len is_letter line) line over)

has_take : (at x : ℕ) (xs : List ℕ) → 0 < at → has_bytes (take at (x ∷ xs)) ≡ true
has_take zero x xs h = absurd (omega (arith, h))
has_take (suc at) x xs h = refl

letter_first : (b : Bool) (n : ℕ) → not b ≡ true → cond (not b) (1 + n) 0 ≡ 1 + n
letter_first true n h = cc
letter_first false n h = refl

-- a line that begins with a word, cut behind it
cut_at : (x : ℕ) (xs : List ℕ)
    → is_letter x ≡ true
    → (at : ℕ)
    → position is_blank (x ∷ xs) ≡ Some at
    → words_of (x ∷ xs) ≡ take at (x ∷ xs) ∷ words_of (drop (at + 1) (x ∷ xs))
cut_at x xs letter at h =
    let first : position_or_len is_blank (x ∷ xs) ≡ 1 + position_or_len is_blank xs =
    letter_first (is_blank x) (position_or_len is_blank xs) letter in
    let positive : 0 < at = omega (arith, first, (position_then is_blank (x ∷ xs) at h).0) in
    let parts : words_of (x ∷ xs)
    ≡ filter has_bytes (take at (x ∷ xs) ∷ slice_split is_blank (drop (at + 1) (x ∷ xs))) =
    ap (filter has_bytes) (split_some is_blank (x ∷ xs) at h) in
    parts
    ∙ ap (λ b. cond b (take at (x ∷ xs) ∷ words_of (drop (at + 1) (x ∷ xs))) (words_of (drop (at + 1) (x ∷ xs))))
    (has_take at x xs positive)

cut_whole : (x : ℕ) (xs : List ℕ) → position is_blank (x ∷ xs) ≡ None → words_of (x ∷ xs) ≡ (x ∷ xs) ∷ []
cut_whole x xs h = ap (filter has_bytes) (split_none is_blank (x ∷ xs) h)

-- the first word of a line, where a blank follows it
pub word_cut : (line : List ℕ) (start at : ℕ)
    → position is_letter line ≡ Some start
    → position is_blank (drop start line) ≡ Some at
    → words_of line ≡ take at (drop start line) ∷ words_of (drop (at + 1) (drop start line))
word_cut line start at begins blank =
    let found = position_then is_letter line start begins in
    let letter : is_letter (get_or line start 0) ≡ true =
    subst (λ (n : ℕ). is_letter (get_or line n 0) ≡ true) found.0
    (passes_at_first is_letter line 0 (omega (arith, found.0, found.1))) in
    let shape : drop start line ≡ get_or line start 0 ∷ drop (start + 1) line = drop_more line start 0 found.1 in
    let skipped : words_of line ≡ words_of (drop start line) =
    subst (λ (n : ℕ). words_of line ≡ words_of (drop n line)) found.0 (skip_to_word line) in
    skipped
    ∙ subst (λ (ys : List ℕ). words_of ys ≡ take at ys ∷ words_of (drop (at + 1) ys)) (sym shape)
    (cut_at _ _ letter at (subst (λ (ys : List ℕ). position is_blank ys ≡ Some at) shape blank))

-- .. and where none does
pub word_whole : (line : List ℕ) (start : ℕ)
    → position is_letter line ≡ Some start
    → position is_blank (drop start line) ≡ None
    → words_of line ≡ drop start line ∷ []
word_whole line start begins blank =
    let found = position_then is_letter line start begins in
    let shape : drop start line ≡ get_or line start 0 ∷ drop (start + 1) line = drop_more line start 0 found.1 in
    let skipped : words_of line ≡ words_of (drop start line) =
    subst (λ (n : ℕ). words_of line ≡ words_of (drop n line)) found.0 (skip_to_word line) in
    skipped
    ∙ subst (λ (ys : List ℕ). words_of ys ≡ ys ∷ []) (sym shape)
    (cut_whole _ _ (subst (λ (ys : List ℕ). position is_blank ys ≡ None) shape blank))

some_word : (line : List ℕ) (start : ℕ) (blank : Option ℕ)
    → position is_letter line ≡ Some start
    → position is_blank (drop start line) ≡ blank
    → 0 < length (words_of line)
some_word line start None begins blank =
    subst (λ (words : List (List ℕ)). 0 < length words) (sym (word_whole line start begins blank)) (omega arith)
some_word line start (Some at) begins blank =
    subst (λ (words : List (List ℕ)). 0 < length words) (sym (word_cut line start at begins blank)) (omega arith)

-- a line has a word where it has a byte that parts none
pub word_told : (line : List ℕ) (o : Option ℕ)
    → position is_letter line ≡ o
    → is_some o ≡ nat_lt 0 (length (words_of line))
word_told line None none = ap (λ (words : List (List ℕ)). nat_lt 0 (length words)) (sym (no_word line none))
word_told line (Some start) begins = sym ((Decides-ltb 0 (length (words_of line))).1
    (some_word line start (position is_blank (drop start line)) begins refl))

-- the same, as slices are written
pub cut_sliced : (line begun : List ℕ) (start at : ℕ)
    → begun ≡ drop start line
    → position is_letter line ≡ Some start
    → position is_blank begun ≡ Some at
    → words_of line ≡ take at begun ∷ words_of (take (length begun - (at + 1)) (drop (at + 1) begun))
cut_sliced line begun start at same begins =
    subst (λ (ys : List ℕ).
    position is_blank ys ≡ Some at
    → words_of line ≡ take at ys ∷ words_of (take (length ys - (at + 1)) (drop (at + 1) ys)))
    (sym same)
    (λ blank.
    word_cut line start at begins blank
    ∙ ap (λ xs. take at (drop start line) ∷ words_of xs) (sym (take_rest (drop start line) (at + 1))))

pub whole_sliced : (line begun : List ℕ) (start : ℕ)
    → begun ≡ drop start line
    → position is_letter line ≡ Some start
    → position is_blank begun ≡ None
    → words_of line ≡ begun ∷ words_of (take (length begun - length begun) (drop (length begun) begun))
whole_sliced line begun start same begins =
    subst (λ (ys : List ℕ).
    position is_blank ys ≡ None → words_of line ≡ ys ∷ words_of (take (length ys - length ys) (drop (length ys) ys)))
    (sym same)
    (λ blank.
    let rest = drop start line in
    let empty : take (length rest - length rest) (drop (length rest) rest) ≡ [] =
    take_rest rest (length rest) ∙ drop_all (length rest) rest (omega arith) in
    word_whole line start begins blank ∙ ap (λ xs. rest ∷ words_of xs) (sym empty))

-- ---- lines

line_cut_by : (byte : ℕ) (bytes : List ℕ) (b : Bool)
    → is_newline byte ≡ b
    → (position_or_len is_newline bytes < length bytes
    → lines_of bytes
    ≡ take (position_or_len is_newline bytes) bytes ∷ lines_of (drop (position_or_len is_newline bytes + 1) bytes))
    → cond (not b) (1 + position_or_len is_newline bytes) 0 < length (byte ∷ bytes)
    → cond b ([] ∷ lines_of bytes) (onto_first byte (lines_of bytes))
    ≡ take (cond (not b) (1 + position_or_len is_newline bytes) 0) (byte ∷ bytes)
    ∷ lines_of (drop (cond (not b) (1 + position_or_len is_newline bytes) 0 + 1) (byte ∷ bytes))
line_cut_by byte bytes true e rest below = refl
line_cut_by byte bytes false e rest below =
    let n = position_or_len is_newline bytes in
    let next : 1 + n ≡ suc n = omega arith in
    let last : suc n + 1 ≡ suc (n + 1) = omega arith in
    let goal : onto_first byte (lines_of bytes)
    ≡ take (suc n) (byte ∷ bytes) ∷ lines_of (drop (suc n + 1) (byte ∷ bytes)) =
    ap (onto_first byte) (rest (omega (arith, below)))
    ∙ ap (λ (m : ℕ). (byte ∷ take n bytes) ∷ lines_of (drop m (byte ∷ bytes))) (sym last) in
    subst (λ (m : ℕ). onto_first byte (lines_of bytes) ≡ take m (byte ∷ bytes) ∷ lines_of (drop (m + 1) (byte ∷ bytes)))
    (sym next) goal

line_cut_at : (text : List ℕ)
    → position_or_len is_newline text < length text
    → lines_of text
    ≡ take (position_or_len is_newline text) text ∷ lines_of (drop (position_or_len is_newline text + 1) text)
line_cut_at [] below = absurd (omega (arith, below))
line_cut_at (byte ∷ bytes) below = line_cut_by byte bytes (is_newline byte) refl (line_cut_at bytes) below

-- a text is cut at its first LF
pub line_cut : (text : List ℕ) (at : ℕ)
    → position is_newline text ≡ Some at
    → lines_of text ≡ take at text ∷ lines_of (drop (at + 1) text)
line_cut text at h =
    let found = position_then is_newline text at h in
    let below : position_or_len is_newline text < length text =
    subst (λ (n : ℕ). n < length text) (sym found.0) found.1 in
    subst (λ (n : ℕ). lines_of text ≡ take n text ∷ lines_of (drop (n + 1) text)) found.0 (line_cut_at text below)

line_whole_by : (byte : ℕ) (bytes : List ℕ) (b : Bool)
    → (length bytes ≤ position_or_len is_newline bytes → (bytes ≡ []) ⊎ (lines_of bytes ≡ bytes ∷ []))
    → length (byte ∷ bytes) ≤ cond (not b) (1 + position_or_len is_newline bytes) 0
    → cond b ([] ∷ lines_of bytes) (onto_first byte (lines_of bytes)) ≡ (byte ∷ bytes) ∷ []
line_whole_by byte bytes true rest over = absurd (omega (arith, over))
line_whole_by byte bytes false rest over =
    elim (rest (omega (arith, over))) [
      | inl none ↦ rw none refl
      | inr one ↦ ap (onto_first byte) one
    ]

line_whole_at : (text : List ℕ)
    → length text ≤ position_or_len is_newline text
    → (text ≡ []) ⊎ (lines_of text ≡ text ∷ [])
line_whole_at [] over = inl refl
line_whole_at (byte ∷ bytes) over = inr (line_whole_by byte bytes (is_newline byte) (line_whole_at bytes) over)

not_empty : (text : List ℕ) → false ≡ (length text == 0) → text ≡ [] → ⊥
not_empty [] some none = cc
not_empty (byte ∷ bytes) some none = cc

-- a text without LF is one line
pub line_whole : (text : List ℕ)
    → false ≡ (length text == 0)
    → position is_newline text ≡ None
    → lines_of text ≡ text ∷ []
line_whole text some h =
    let over = ltb-false (position_or_len is_newline text) (length text)
    (none_then (nat_lt (position_or_len is_newline text) (length text)) (position_or_len is_newline text) h) in
    elim (line_whole_at text over) [ inl none ↦ absurd (not_empty text some none) | inr one ↦ one ]
