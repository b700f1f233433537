-- Reading a mode word from its text.
use Rattle.std.specs.Prelude.{ℕ, Bool, ◌&&◌, ◌||◌, ◌==◌, nat_lt, List, Option, Some, None, option_map}
use Rattle.std.specs.Prelude.{position, drop, if◌then◌else◌, length, slice_index, bytes_eq, codes}
use Rattle.std.specs.List.{before_first, after_first}
use Rattle.std.specs.Option.{option_or}
use Rattle.std.specs.Str.{all_ascii_digits}
use Rattle.std.specs.Str.Parse.{digits_value}
use Rattle.tty_modes.specs.declared.words.Word.{Word}
use Rattle.tty_modes.specs.declared.words.Word.TheVariants.{On, Off, Cc, Raw, Sane}
use Rattle.tty_modes.specs.Names.{flag_names, character_names}

-- the place of a name in a list of names
abbrev pub place_of : List (List ℕ) → List ℕ → Option ℕ
place_of names text = position (λ name. bytes_eq name text) names

-- whether a text is decimal digits without sign or leading zero
abbrev pub is_decimal : List ℕ → Bool
is_decimal text =
    nat_lt 0 (length text) && all_ascii_digits text && (nat_lt 48 (slice_index text 0) || length text == 1)

-- the number from 0 to 255 that a text says
abbrev pub byte_of : List ℕ → Option ℕ
byte_of text = if is_decimal text && nat_lt (digits_value 10 text) 256 then Some (digits_value 10 text) else None

-- a control character with its value, where both are there
abbrev pub character_word : Option ℕ → Option ℕ → Option Word
character_word None value = None
character_word (Some place) None = None
character_word (Some place) (Some value) = Some (Cc place value)

-- the word that `NAME=N` spells
abbrev pub character_word_of : List ℕ → Option Word
character_word_of text = character_word (place_of character_names (before_first (λ b. b == 61) text))
    (byte_of (after_first (λ b. b == 61) text))

-- the word that a text spells, if it is neither `raw`, `sane` nor a flag's name
abbrev pub other_word : List ℕ → Option Word
other_word text =
    if slice_index text 0 == 45 then option_map Off (place_of flag_names (drop 1 text)) else character_word_of text

-- the word that a text spells
unfoldable pub word_of : List ℕ → Option Word
word_of text =
    if bytes_eq text (codes "raw") then Some Raw
    else if bytes_eq text (codes "sane") then Some Sane
    else option_or (option_map On (place_of flag_names text)) (other_word text)
