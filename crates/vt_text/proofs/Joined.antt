-- Words that are put into lines again are read as the same words, and the lines are no longer than those that had them.
use Rattle.std.proofs.Common.{◌≡◌, ℕ, suc, ◌+◌, ◌≤◌, Bool, true, false, cond, List, [], ◌∷◌}
use Rattle.std.proofs.Common.{◌++◌, length, map, refl, ap, ◌∙◌, arith, append-nil, length-append}
use Rattle.std.specs.Prelude.{filter}
use Rattle.std.specs.List.{slice_split, onto_first}
use Rattle.text_lines.specs.Lines.{is_newline, is_blank, lines_of, has_bytes, words_of}
use Rattle.session_text.specs.Refusals.{lines_in}
use Rattle.vt_text.specs.Left.{tail_of, line_of, text_of}

-- bytes none of which is such a one
abbrev pub Free : (ℕ → Bool) → List ℕ → Type 0
Free p [] = Unit {0}
Free p (b ∷ bs) = (p b ≡ false) × Free p bs

free_append : (p : ℕ → Bool) (xs ys : List ℕ) → Free p xs → Free p ys → Free p (xs ++ ys)
free_append p [] ys h k = k
free_append p (x ∷ xs) ys h k = (h.0, free_append p xs ys h.1 k)

pub record IsWord (w : List ℕ) : Type 0 where
  pub some : has_bytes w ≡ true
  pub no_blank : Free is_blank w
  pub no_newline : Free is_newline w

abbrev pub AreWords : List (List ℕ) → Type 0
AreWords [] = Unit {0}
AreWords (w ∷ ws) = IsWord w × AreWords ws

abbrev pub AreLines : List (List (List ℕ)) → Type 0
AreLines [] = Unit {0}
AreLines (ws ∷ lines) = AreWords ws × AreLines lines

-- ---- words put into lines

split_end : (w : List ℕ) → Free is_blank w → slice_split is_blank w ≡ w ∷ []
split_end [] h = refl
split_end (b ∷ w) h =
    ap (λ (t : Bool). cond t ([] ∷ slice_split is_blank w) (onto_first b (slice_split is_blank w))) h.0
    ∙ ap (onto_first b) (split_end w h.1)

split_blank : (w rest : List ℕ)
    → Free is_blank w
    → slice_split is_blank (w ++ 32 ∷ rest) ≡ w ∷ slice_split is_blank rest
split_blank [] rest h = refl
split_blank (b ∷ w) rest h =
    ap (λ (t : Bool).
    cond t ([] ∷ slice_split is_blank (w ++ 32 ∷ rest)) (onto_first b (slice_split is_blank (w ++ 32 ∷ rest)))) h.0
    ∙ ap (onto_first b) (split_blank w rest h.1)

split_words : (w : List ℕ) (ws : List (List ℕ)) → AreWords (w ∷ ws) → slice_split is_blank (w ++ tail_of ws) ≡ w ∷ ws
split_words w [] h = ap (slice_split is_blank) (append-nil w) ∙ split_end w h.0.no_blank
split_words w (v ∷ ws) h =
    split_blank w (v ++ tail_of ws) h.0.no_blank ∙ ap (λ (l : List (List ℕ)). w ∷ l) (split_words v ws h.1)

kept : (ws : List (List ℕ)) → AreWords ws → filter has_bytes ws ≡ ws
kept [] h = refl
kept (w ∷ ws) h =
    ap (λ (t : Bool). cond t (w ∷ filter has_bytes ws) (filter has_bytes ws)) h.0.some
    ∙ ap (λ (l : List (List ℕ)). w ∷ l) (kept ws h.1)

line_words : (ws : List (List ℕ)) → AreWords ws → words_of (line_of ws) ≡ ws
line_words [] h = refl
line_words (w ∷ ws) h = ap (filter has_bytes) (split_words w ws h) ∙ kept (w ∷ ws) h

tail_free : (ws : List (List ℕ)) → AreWords ws → Free is_newline (tail_of ws)
tail_free [] h = tt
tail_free (w ∷ ws) h = (refl, free_append is_newline w (tail_of ws) h.0.no_newline (tail_free ws h.1))

line_free : (ws : List (List ℕ)) → AreWords ws → Free is_newline (line_of ws)
line_free [] h = tt
line_free (w ∷ ws) h = free_append is_newline w (tail_of ws) h.0.no_newline (tail_free ws h.1)

lines_behind : (l rest : List ℕ) → Free is_newline l → lines_of (l ++ 10 ∷ rest) ≡ l ∷ lines_of rest
lines_behind [] rest h = refl
lines_behind (b ∷ l) rest h =
    ap (λ (t : Bool). cond t ([] ∷ lines_of (l ++ 10 ∷ rest)) (onto_first b (lines_of (l ++ 10 ∷ rest)))) h.0
    ∙ ap (onto_first b) (lines_behind l rest h.1)

pub lines_again : (lines : List (List (List ℕ))) → AreLines lines → lines_in (text_of lines) ≡ lines
lines_again [] h = refl
lines_again (ws ∷ lines) h =
    ap (map words_of) (lines_behind (line_of ws) (text_of lines) (line_free ws h.0))
    ∙ (λ i. line_words ws h.0 i ∷ lines_again lines h.1 i)

-- ---- the words of a text

abbrev AreParts : List (List ℕ) → Type 0
AreParts [] = Unit {0}
AreParts (w ∷ ws) = (Free is_blank w × Free is_newline w) × AreParts ws

part_either : (t : Bool) (b : ℕ) (parts : List (List ℕ))
    → is_blank b ≡ t
    → is_newline b ≡ false
    → AreParts parts
    → AreParts (cond t ([] ∷ parts) (onto_first b parts))
part_either true b parts e clean h = ((tt, tt), h)
part_either false b [] e clean h = (((e, tt), (clean, tt)), tt)
part_either false b (part ∷ parts) e clean h = (((e, h.0.0), (clean, h.0.1)), h.1)

split_parts : (line : List ℕ) → Free is_newline line → AreParts (slice_split is_blank line)
split_parts [] h = ((tt, tt), tt)
split_parts (b ∷ bs) h = part_either (is_blank b) b (slice_split is_blank bs) refl h.0 (split_parts bs h.1)

kept_either : (t : Bool) (w : List ℕ) (kept : List (List ℕ))
    → has_bytes w ≡ t
    → Free is_blank w × Free is_newline w
    → AreWords kept
    → AreWords (cond t (w ∷ kept) kept)
kept_either true w kept e free h = (record { some = e; no_blank = free.0; no_newline = free.1 }, h)
kept_either false w kept e free h = h

parts_words : (ws : List (List ℕ)) → AreParts ws → AreWords (filter has_bytes ws)
parts_words [] h = tt
parts_words (w ∷ ws) h = kept_either (has_bytes w) w (filter has_bytes ws) refl h.0 (parts_words ws h.1)

abbrev AreFree : List (List ℕ) → Type 0
AreFree [] = Unit {0}
AreFree (line ∷ lines) = Free is_newline line × AreFree lines

line_either : (t : Bool) (b : ℕ) (lines : List (List ℕ))
    → is_newline b ≡ t
    → AreFree lines
    → AreFree (cond t ([] ∷ lines) (onto_first b lines))
line_either true b lines e h = (tt, h)
line_either false b [] e h = ((e, tt), tt)
line_either false b (line ∷ lines) e h = ((e, h.0), h.1)

lines_free : (text : List ℕ) → AreFree (lines_of text)
lines_free [] = tt
lines_free (b ∷ bs) = line_either (is_newline b) b (lines_of bs) refl (lines_free bs)

all_words : (lines : List (List ℕ)) → AreFree lines → AreLines (map words_of lines)
all_words [] h = tt
all_words (line ∷ lines) h = (parts_words (slice_split is_blank line) (split_parts line h.0), all_words lines h.1)

pub text_words : (text : List ℕ) → AreLines (lines_in text)
text_words text = all_words (lines_of text) (lines_free text)

-- ---- how long lines are

-- a line of these words, with its end
abbrev pub cost : List (List ℕ) → ℕ
cost ws = length (line_of ws) + 1

abbrev pub costs : List (List (List ℕ)) → ℕ
costs [] = 0
costs (ws ∷ lines) = cost ws + costs lines

pub text_long : (lines : List (List (List ℕ))) → length (text_of lines) ≡ costs lines
text_long [] = refl
text_long (ws ∷ lines) = omega (arith, length-append (line_of ws) (10 ∷ text_of lines), text_long lines)

-- a longer first word
pub first_longer : (v w : List ℕ) (ws : List (List ℕ)) (n : ℕ)
    → length v ≤ length w + n
    → cost (v ∷ ws) ≤ cost (w ∷ ws) + n
first_longer v w ws n h = omega (arith, h, length-append v (tail_of ws), length-append w (tail_of ws))

-- the second word of a line
pub second_short : (w : List ℕ) (ws : List (List ℕ)) (v : List ℕ) (vs : List (List ℕ))
    → ws ≡ v ∷ vs
    → length v + 2 ≤ cost (w ∷ ws)
second_short w ws v vs e =
    let same = ap (λ (l : List (List ℕ)). length (tail_of l)) e in
    omega (arith, same, length-append w (tail_of ws), length-append v (tail_of vs))

abbrev width : List (List ℕ) → ℕ
width [] = 0
width (w ∷ ws) = suc (length w) + width ws

tail_width : (ws : List (List ℕ)) → length (tail_of ws) ≡ width ws
tail_width [] = refl
tail_width (w ∷ ws) = omega (arith, length-append w (tail_of ws), tail_width ws)

line_width : (ws : List (List ℕ)) (n : ℕ) → width ws ≤ suc n → length (line_of ws) ≤ n
line_width [] n h = omega arith
line_width (w ∷ ws) n h = omega (arith, h, length-append w (tail_of ws), tail_width ws)

onto_width : (t : Bool) (b n : ℕ) (parts : List (List ℕ))
    → width parts ≡ suc n
    → width (cond t ([] ∷ parts) (onto_first b parts)) ≡ suc (suc n)
onto_width true b n parts h = omega (arith, h)
onto_width false b n [] h = absurd (omega (arith, h))
onto_width false b n (part ∷ parts) h = omega (arith, h)

split_width : (line : List ℕ) → width (slice_split is_blank line) ≡ suc (length line)
split_width [] = refl
split_width (b ∷ bs) = onto_width (is_blank b) b (length bs) (slice_split is_blank bs) (split_width bs)

kept_width : (t : Bool) (w : List ℕ) (kept ws : List (List ℕ))
    → width kept ≤ width ws
    → width (cond t (w ∷ kept) kept) ≤ suc (length w) + width ws
kept_width true w kept ws h = omega (arith, h)
kept_width false w kept ws h = omega (arith, h)

filter_width : (ws : List (List ℕ)) → width (filter has_bytes ws) ≤ width ws
filter_width [] = omega arith
filter_width (w ∷ ws) = kept_width (has_bytes w) w (filter has_bytes ws) ws (filter_width ws)

line_cost : (line : List ℕ) → cost (words_of line) ≤ length line + 1
line_cost line =
    let short = line_width (words_of line) (length line)
    (omega (arith, filter_width (slice_split is_blank line), split_width line)) in
    omega (arith, short)

lines_cost : (lines : List (List ℕ)) → costs (map words_of lines) ≤ width lines
lines_cost [] = omega arith
lines_cost (line ∷ lines) = omega (arith, line_cost line, lines_cost lines)

end_either : (t : Bool) (b n : ℕ) (lines : List (List ℕ))
    → width lines ≤ suc n
    → width (cond t ([] ∷ lines) (onto_first b lines)) ≤ suc (suc n)
end_either true b n lines h = omega (arith, h)
end_either false b n [] h = omega arith
end_either false b n (line ∷ lines) h = omega (arith, h)

lines_width : (text : List ℕ) → width (lines_of text) ≤ suc (length text)
lines_width [] = omega arith
lines_width (b ∷ bs) = end_either (is_newline b) b (length bs) (lines_of bs) (lines_width bs)

-- the lines of a text are no longer than the text, and the end of its last line
pub text_cost : (text : List ℕ) → costs (lines_in text) ≤ length text + 1
text_cost text = omega (arith, lines_cost (lines_of text), lines_width text)
