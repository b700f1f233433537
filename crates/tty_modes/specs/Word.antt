-- The mode words: what each is written as, and what it makes of modes.
use Rattle.std.specs.Prelude.{ℕ, ◌<◌, ◌++◌, true, false, List, [], fold, map, filter, slice_index_or, slice_set, codes}
use Rattle.std.specs.Fmt.{decimal}
use Rattle.std.specs.List.{range_with_len, join_with_byte}
use Rattle.tty_modes.specs.declared.words.Word.{Word}
use Rattle.tty_modes.specs.declared.words.Word.TheVariants.{On, Off, Cc, Raw, Sane}
use Rattle.tty_modes.specs.declared.places.TheConstants.{FLAG_COUNT, CHARACTER_COUNT}
use Rattle.tty_modes.specs.Names.{flag_names, character_names}
use Rattle.tty_modes.specs.Settings.{Settings, has_flag, character, with_flags_at, sane_modes, raw_places}

-- a word of the list: its place is within its list, and its number is a byte
abbrev pub IsModeWord : Word → Type 0
IsModeWord (On flag) = flag < FLAG_COUNT
IsModeWord (Off flag) = flag < FLAG_COUNT
IsModeWord (Cc place value) = (place < CHARACTER_COUNT) × (value < 256)
IsModeWord Raw = Unit {0}
IsModeWord Sane = Unit {0}

-- what a word is written as: a flag's name, `-` and the name, `NAME=N`, `raw` or `sane`
abbrev pub word_text : Word → List ℕ
word_text (On flag) = slice_index_or flag_names flag []
word_text (Off flag) = codes "-" ++ slice_index_or flag_names flag []
word_text (Cc place value) = slice_index_or character_names place [] ++ codes "=" ++ decimal value
word_text Raw = codes "raw"
word_text Sane = codes "sane"

-- what one word makes of modes; a place past its list changes nothing
abbrev pub after_word : Settings → Word → Settings
after_word modes (On flag) = record modes { flags = slice_set modes.flags flag true }
after_word modes (Off flag) = record modes { flags = slice_set modes.flags flag false }
after_word modes (Cc place value) = record modes { characters = slice_set modes.characters place value }
after_word modes Raw = record modes { flags = with_flags_at false raw_places modes.flags }
after_word modes Sane = sane_modes

-- what several words make of modes, one after the other
abbrev pub after_words : Settings → List Word → Settings
after_words = fold after_word

-- modes as words: an `On` for each flag that is set, in the order of the places, and a `Cc` for each control character
abbrev pub words_of : Settings → List Word
words_of modes =
    map On (filter (has_flag modes) (range_with_len 0 FLAG_COUNT))
    ++ map (λ place. Cc place (character modes place)) (range_with_len 0 CHARACTER_COUNT)

-- modes as they are printed, with a blank between two words
abbrev pub modes_text : Settings → List ℕ
modes_text modes = join_with_byte 32 (map word_text (words_of modes))
