-- What is left of a text without the lines that only texts of its kind have.
use Rattle.std.specs.Prelude.{ℕ, Bool, true, not, List, [], ◌∷◌, ◌++◌, filter}
use Rattle.text_lines.specs.Lines.{lines_of, words_of}

-- a line of these words may stand in the text of any session: it does not begin with a word of the text's own
abbrev pub is_shared : (is_own : List ℕ → Bool) → List (List ℕ) → Bool
is_shared is_own [] = true
is_shared is_own (word ∷ arguments) = not (is_own word)

-- the text of these lines
abbrev pub text_of : List (List ℕ) → List ℕ
text_of [] = []
text_of (line ∷ lines) = line ++ 10 ∷ text_of lines

-- what is left of a text: its lines that may stand in the text of any session
abbrev pub text_left : (is_own : List ℕ → Bool) → List ℕ → List ℕ
text_left is_own text = text_of (filter (λ line. is_shared is_own (words_of line)) (lines_of text))
