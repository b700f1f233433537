-- Names, as the library's calls see them.
use Rattle.std.proofs.Common.{nat_le, ◌≡◌, ℕ, ◌<◌, ◌&&◌, true, List, [], ◌∷◌, length, arith}
use Rattle.std.specs.List.{list_all}
use Rattle.std.specs.Str.{IsAscii, IsUtf8}
use Rattle.std.proofs.lemmas.Bool.{and_parts}
use Rattle.std.proofs.lemmas.Str.{IsUtf8-from_ascii}
use Rattle.std.proofs.lemmas.Str.Ascii.{IsAscii-nil, IsAscii-cons}
use Rattle.tty_base.specs.Sizes.{MOST_NAME}
use Rattle.text_lines.specs.Values.{begins_name, is_name, is_name_byte}

name_byte_small : (byte : ℕ) → is_name_byte byte ≡ true → byte < 128
name_byte_small byte h = grind (arith)

names_ascii : (name : List ℕ) → list_all is_name_byte name ≡ true → IsAscii name
names_ascii [] h = IsAscii-nil
names_ascii (byte ∷ bytes) h =
    let parts = and_parts (is_name_byte byte) (list_all is_name_byte bytes) h in
    IsAscii-cons byte bytes (name_byte_small byte parts.0) (names_ascii bytes parts.1)

pub name_is_text : (name : List ℕ) → is_name name ≡ true → IsUtf8 name
name_is_text name h =
    let both = and_parts (begins_name name && list_all is_name_byte name) (nat_le (length name) MOST_NAME) h in
    let all = and_parts (begins_name name) (list_all is_name_byte name) both.0 in
    IsUtf8-from_ascii name (names_ascii name all.1)
