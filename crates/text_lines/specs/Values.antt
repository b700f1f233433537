-- What a word may be: a number, a name, hexadecimal digits.
use Rattle.std.specs.Prelude.{ℕ, ◌+◌, ◌-◌, ◌*◌, ◌%◌, ◌==◌, ◌&&◌, ◌||◌, nat_le, not, Bool, false, List}
use Rattle.std.specs.Prelude.{[], ◌∷◌, length, fold, slice_index_or, if◌then◌else◌, Option, None, Some}
use Rattle.std.specs.Str.{bytes_eq}
use Rattle.std.specs.List.{list_all}
use Rattle.std.specs.Result.{result_unwrap_or}
use Rattle.tty_base.specs.Sizes.{MOST_NAME}
use Rattle.hex.specs.Hex.{is_hex_digit, decode_of}
use Rattle.text_lines.specs.Lines.{first_is}

abbrev pub is_digit : ℕ → Bool
is_digit byte = nat_le 48 byte && nat_le byte 57

-- `0`, or digits of which the first is not 0
abbrev pub begins_number : List ℕ → Bool
begins_number digits = not (first_is 48 digits) || length digits == 1

-- `0`, or 1 to 10 digits without a leading 0
abbrev pub is_number : List ℕ → Bool
is_number [] = false
is_number (digit ∷ digits) =
    (begins_number (digit ∷ digits) && nat_le (length (digit ∷ digits)) 10) && list_all is_digit (digit ∷ digits)

-- the number that digits write
abbrev pub number_of : List ℕ → ℕ
number_of digits = fold (λ value digit. value * 10 + (digit - 48)) 0 digits

-- the number that a word is, if it is one
abbrev pub read_of : List ℕ → Option ℕ
read_of word = if is_number word then Some (number_of word) else None

abbrev pub is_lowercase : ℕ → Bool
is_lowercase byte = nat_le 97 byte && nat_le byte 122

abbrev pub is_name_byte : ℕ → Bool
is_name_byte byte = (is_lowercase byte || is_digit byte) || byte == 95

abbrev pub begins_name : List ℕ → Bool
begins_name [] = false
begins_name (first ∷ bytes) = is_lowercase first

-- a letter a to z, and up to 15 letters a to z, digits or `_`
abbrev pub is_name : List ℕ → Bool
is_name name = (begins_name name && list_all is_name_byte name) && nat_le (length name) MOST_NAME

-- an even number, not 0, of hexadecimal digits, in either case
abbrev pub is_hex : List ℕ → Bool
is_hex [] = false
is_hex (first ∷ digits) = list_all is_hex_digit (first ∷ digits) && length (first ∷ digits) % 2 == 0

-- the bytes that pairs of hexadecimal digits write
abbrev pub bytes_of : List ℕ → List ℕ
bytes_of digits = result_unwrap_or (decode_of digits) []

-- the word at a place, counted from 0, and no bytes past the last
abbrev pub word_at : List (List ℕ) → ℕ → List ℕ
word_at words place = slice_index_or words place []

-- the number at a place, and 0 where no number is there
abbrev pub number_at : List (List ℕ) → ℕ → ℕ
number_at words place = if is_number (word_at words place) then number_of (word_at words place) else 0

-- the one of several things that a word names
abbrev pub choice_of : {X : Type 0} → (X → List ℕ) → List X → List ℕ → Option X
choice_of text_of [] word = None
choice_of text_of (x ∷ xs) word = if bytes_eq word (text_of x) then Some x else choice_of text_of xs word
