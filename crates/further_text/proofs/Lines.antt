-- The lines of what is left of a text.
use Rattle.std.proofs.Common.{◌≡◌, ℕ, Bool, true, false, cond, List, [], ◌∷◌, ◌++◌, map, refl, ap, ◌∙◌}
use Rattle.std.specs.Prelude.{filter}
use Rattle.std.specs.List.{onto_first}
use Rattle.text_lines.specs.Lines.{is_newline, lines_of, words_of}
use Rattle.session_text.specs.Refusals.{lines_in}
use Rattle.further_text.specs.Left.{is_shared, text_of, text_left}

-- a line has no end within it
abbrev pub IsLine : List ℕ → Type 0
IsLine [] = Unit {0}
IsLine (b ∷ bs) = (is_newline b ≡ false) × IsLine bs

abbrev pub AreLines : List (List ℕ) → Type 0
AreLines [] = Unit {0}
AreLines (line ∷ lines) = IsLine line × AreLines lines

line_either : (t : Bool) (b : ℕ) (lines : List (List ℕ))
    → is_newline b ≡ t
    → AreLines lines
    → AreLines (cond t ([] ∷ lines) (onto_first b lines))
line_either true b lines e h = (tt, h)
line_either false b [] e h = ((e, tt), tt)
line_either false b (line ∷ lines) e h = ((e, h.0), h.1)

pub text_lines : (text : List ℕ) → AreLines (lines_of text)
text_lines [] = tt
text_lines (b ∷ bs) = line_either (is_newline b) b (lines_of bs) refl (text_lines bs)

pub line_behind : (line rest : List ℕ) → IsLine line → lines_of (line ++ 10 ∷ rest) ≡ line ∷ lines_of rest
line_behind [] rest h = refl
line_behind (b ∷ line) rest h =
    ap (λ (t : Bool). cond t ([] ∷ lines_of (line ++ 10 ∷ rest)) (onto_first b (lines_of (line ++ 10 ∷ rest)))) h.0
    ∙ ap (onto_first b) (line_behind line rest h.1)

lines_again : (lines : List (List ℕ)) → AreLines lines → lines_of (text_of lines) ≡ lines
lines_again [] h = refl
lines_again (line ∷ lines) h =
    line_behind line (text_of lines) h.0 ∙ ap (λ (ls : List (List ℕ)). line ∷ ls) (lines_again lines h.1)

kept_either : (t : Bool) (line : List ℕ) (kept : List (List ℕ))
    → IsLine line
    → AreLines kept
    → AreLines (cond t (line ∷ kept) kept)
kept_either true line kept one h = (one, h)
kept_either false line kept one h = h

lines_kept : (keeps : List ℕ → Bool) (lines : List (List ℕ)) → AreLines lines → AreLines (filter keeps lines)
lines_kept keeps [] h = tt
lines_kept keeps (line ∷ lines) h = kept_either (keeps line) line (filter keeps lines) h.0 (lines_kept keeps lines h.1)

words_either : (t : Bool) (line : List ℕ) (kept : List (List ℕ)) (words : List (List (List ℕ)))
    → map words_of kept ≡ words
    → map words_of (cond t (line ∷ kept) kept) ≡ cond t (words_of line ∷ words) words
words_either true line kept words e = ap (λ (ws : List (List (List ℕ))). words_of line ∷ ws) e
words_either false line kept words e = e

words_kept : (keeps : List (List ℕ) → Bool) (lines : List (List ℕ))
    → map words_of (filter (λ line. keeps (words_of line)) lines) ≡ filter keeps (map words_of lines)
words_kept keeps [] = refl
words_kept keeps (line ∷ lines) =
    words_either (keeps (words_of line)) line (filter (λ l. keeps (words_of l)) lines)
    (filter keeps (map words_of lines)) (words_kept keeps lines)

-- they are those of the text that may stand in the text of any session
pub left_lines : (is_own : List ℕ → Bool) (text : List ℕ)
    → lines_in (text_left is_own text) ≡ filter (is_shared is_own) (lines_in text)
left_lines is_own text =
    ap (map words_of) (lines_again (filter (λ line. is_shared is_own (words_of line)) (lines_of text))
    (lines_kept (λ line. is_shared is_own (words_of line)) (lines_of text) (text_lines text)))
    ∙ words_kept (is_shared is_own) (lines_of text)
