-- A text is as long as the words of its lines.
use Rattle.std.proofs.Common.{◌≡◌, ℕ, suc, ◌+◌, ◌≤◌, Bool, true, false, List}
use Rattle.std.proofs.Common.{[], ◌∷◌, cond, length, map, refl, arith}
use Rattle.std.specs.Prelude.{filter}
use Rattle.std.specs.List.{slice_split, onto_first}
use Rattle.text_lines.specs.Lines.{is_newline, is_blank, lines_of, has_bytes, words_of, says}
use Rattle.session_text.specs.Refusals.{lines_in}

-- how long some words are
abbrev pub size : List (List ℕ) → ℕ
size [] = 0
size (word ∷ words) = length word + size words

-- and those of some lines
abbrev pub sizes : List (List (List ℕ)) → ℕ
sizes [] = 0
sizes (words ∷ lines) = size words + sizes lines

size_onto : (x : ℕ) (parts : List (List ℕ)) → size (onto_first x parts) ≡ suc (size parts)
size_onto x [] = refl
size_onto x (part ∷ parts) = omega arith

-- a part that begins, or goes on
size_either : (b : Bool) (x n : ℕ) (parts : List (List ℕ))
    → size parts ≤ n
    → size (cond b ([] ∷ parts) (onto_first x parts)) ≤ suc n
size_either true x n parts h = omega (arith, h)
size_either false x n parts h = omega (arith, h, size_onto x parts)

split_size : (line : List ℕ) → size (slice_split is_blank line) ≤ length line
split_size [] = omega arith
split_size (byte ∷ bytes) =
    size_either (is_blank byte) byte (length bytes) (slice_split is_blank bytes) (split_size bytes)

lines_size : (text : List ℕ) → size (lines_of text) ≤ length text
lines_size [] = omega arith
lines_size (byte ∷ bytes) = size_either (is_newline byte) byte (length bytes) (lines_of bytes) (lines_size bytes)

kept_size : (b : Bool) (word : List ℕ) (kept words : List (List ℕ))
    → size kept ≤ size words
    → size (cond b (word ∷ kept) kept) ≤ length word + size words
kept_size true word kept words h = omega (arith, h)
kept_size false word kept words h = omega (arith, h)

full_size : (words : List (List ℕ)) → size (filter has_bytes words) ≤ size words
full_size [] = omega arith
full_size (word ∷ words) = kept_size (has_bytes word) word (filter has_bytes words) words (full_size words)

words_size : (line : List ℕ) → size (words_of line) ≤ length line
words_size line = omega (arith, full_size (slice_split is_blank line), split_size line)

each_size : (lines : List (List ℕ)) → sizes (map words_of lines) ≤ size lines
each_size [] = omega arith
each_size (line ∷ lines) = omega (arith, words_size line, each_size lines)

kept_sizes : (b : Bool) (words : List (List ℕ)) (kept lines : List (List (List ℕ)))
    → sizes kept ≤ sizes lines
    → sizes (cond b (words ∷ kept) kept) ≤ size words + sizes lines
kept_sizes true words kept lines h = omega (arith, h)
kept_sizes false words kept lines h = omega (arith, h)

saying_sizes : (lines : List (List (List ℕ))) → sizes (filter says lines) ≤ sizes lines
saying_sizes [] = omega arith
saying_sizes (words ∷ lines) = kept_sizes (says words) words (filter says lines) lines (saying_sizes lines)

-- the lines that say something
pub text_size : (text : List ℕ) → sizes (filter says (lines_in text)) ≤ length text
text_size text = omega (arith, saying_sizes (lines_in text), each_size (lines_of text), lines_size text)
