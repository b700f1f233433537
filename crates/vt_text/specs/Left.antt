-- What is left of a text without the keys and the operators: the text of its callers' session.
use Rattle.std.specs.Prelude.{ℕ, List, [], ◌∷◌, ◌++◌, Option, None, Some, codes, flat_map, if◌then◌else◌}
use Rattle.text_lines.specs.Lines.{first_is}
use Rattle.session_text.specs.Refusals.{lines_in}
use Rattle.vt_text.specs.declared.verbs.VtVerb.{VtVerb}
use Rattle.vt_text.specs.declared.verbs.VtVerb.TheVariants.{Header, Consoles, Keys, Operator, Activate, State}
use Rattle.vt_text.specs.Verbs.{verb_of}

-- the line that the callers' session has in the place of one with this verb, if it has one
abbrev pub line_by : Option VtVerb → (word : List ℕ) → (arguments : List (List ℕ)) → List (List (List ℕ))
line_by None word arguments = []
line_by (Some Header) word arguments = (codes "tty-session" ∷ arguments) ∷ []
line_by (Some Consoles) word arguments = (codes "ports" ∷ arguments) ∷ []
line_by (Some Keys) word arguments = []
line_by (Some Operator) word arguments = []
line_by (Some Activate) word arguments = []
line_by (Some State) word arguments = []
line_by (Some other) word arguments = (word ∷ arguments) ∷ []

abbrev pub callers_line : List (List ℕ) → List (List (List ℕ))
callers_line [] = []
callers_line (word ∷ arguments) = if first_is 35 word then [] else line_by (verb_of word) word arguments

-- words put into lines
abbrev pub tail_of : List (List ℕ) → List ℕ
tail_of [] = []
tail_of (word ∷ words) = 32 ∷ (word ++ tail_of words)

abbrev pub line_of : List (List ℕ) → List ℕ
line_of [] = []
line_of (word ∷ words) = word ++ tail_of words

abbrev pub text_of : List (List (List ℕ)) → List ℕ
text_of [] = []
text_of (words ∷ lines) = line_of words ++ 10 ∷ text_of lines

-- the text of a session of ports, one for each console, with the callers of the text
abbrev pub callers_text : List ℕ → List ℕ
callers_text text = text_of (flat_map callers_line (lines_in text))
