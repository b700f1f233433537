-- The lines of a text, and the words of a line.
use Rattle.std.specs.Prelude.{ℕ, Bool, true, false, List, [], ◌∷◌, ◌==◌, ◌||◌, nat_le, not, filter, if◌then◌else◌}
use Rattle.std.specs.List.{slice_split, onto_first}

abbrev pub is_newline : ℕ → Bool
is_newline byte = byte == 10

-- blank, TAB or CR
abbrev pub is_blank : ℕ → Bool
is_blank byte = (byte == 32 || byte == 9) || byte == 13

-- A line ends at LF. What follows the last LF is a line where it is not empty.
abbrev pub lines_of : List ℕ → List (List ℕ)
lines_of [] = []
lines_of (byte ∷ bytes) = if is_newline byte then [] ∷ lines_of bytes else onto_first byte (lines_of bytes)

-- as low as a blank, or lower
abbrev pub is_low : ℕ → Bool
is_low byte = nat_le byte 32

abbrev pub has_bytes : List ℕ → Bool
has_bytes [] = false
has_bytes (byte ∷ bytes) = true

abbrev pub words_of : List ℕ → List (List ℕ)
words_of line = filter has_bytes (slice_split is_blank line)

abbrev pub first_is : ℕ → List ℕ → Bool
first_is byte [] = false
first_is byte (first ∷ bytes) = first == byte

-- whether words say something: there are some, and the first does not begin with `#`
abbrev pub says : List (List ℕ) → Bool
says [] = false
says (word ∷ words) = not (first_is 35 word)
