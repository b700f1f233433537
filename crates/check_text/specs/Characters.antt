-- CHARS: `-`, or for each character the letter of its flag and its byte in hexadecimal digits, in either case.
use Rattle.std.specs.Prelude.{ℕ, ◌+◌, ◌*◌, List, [], ◌∷◌, Option, None, Some, codes, if◌then◌else◌}
use Rattle.std.specs.Str.{bytes_eq}
use Rattle.hex.specs.Hex.{hex_digit_value}
use Rattle.tty_base.specs.declared.characters.Flag.{Flag}
use Rattle.tty_base.specs.declared.characters.Flag.TheVariants as flags
use Rattle.tty_base.specs.declared.characters.Flagged.{Flagged}
use Rattle.text_lines.specs.Values.{choice_of}
use Rattle.session_print.specs.Journals.{flag_letter}

abbrev pub all_flags : List Flag
all_flags = flags.Normal ∷ flags.Break ∷ flags.Parity ∷ flags.Frame ∷ flags.Overrun ∷ []

abbrev pub flag_of : ℕ → Option Flag
flag_of letter = choice_of flag_letter all_flags (letter ∷ [])

abbrev pub char_with : Option Flag → Option ℕ → Option ℕ → Option Flagged
char_with (Some flag) (Some high) (Some low) = Some (record { byte = high * 16 + low; flag = flag })
char_with flag high low = None

abbrev pub char_of : ℕ → ℕ → ℕ → Option Flagged
char_of letter high low = char_with (flag_of letter) (hex_digit_value high) (hex_digit_value low)

abbrev pub one_more : Option Flagged → Option (List Flagged) → Option (List Flagged)
one_more (Some c) (Some chars) = Some (c ∷ chars)
one_more c chars = None

abbrev pub chars_from : List ℕ → Option (List Flagged)
chars_from [] = Some []
chars_from (letter ∷ []) = None
chars_from (letter ∷ high ∷ []) = None
chars_from (letter ∷ high ∷ low ∷ rest) = one_more (char_of letter high low) (chars_from rest)

abbrev pub chars_of : List ℕ → Option (List Flagged)
chars_of word = if bytes_eq word (codes "-") then Some [] else chars_from word
