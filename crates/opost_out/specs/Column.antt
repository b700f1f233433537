-- The column of a posted text.
use Rattle.std.specs.Prelude.{ℕ, ◌+◌, ◌-◌, ◌*◌, ◌/◌, Bool, ◌&&◌, ◌||◌, ◌==◌, nat_lt, List, [], ◌∷◌, if◌then◌else◌, map}
use Rattle.tty_modes.specs.declared.places.TheConstants.{IUTF8}
use Rattle.tty_modes.specs.Settings.{Settings, has_flag}
use Rattle.tty_modes.specs.Utf8.{is_continuation}

-- a posted byte, and whether iutf8 was set when it was posted
pub record PostedByte : Type 0 where
  pub byte : ℕ
  pub utf8 : Bool

-- bytes as a text, all posted with iutf8 or all without
abbrev pub posted_text : Bool → List ℕ → List PostedByte
posted_text utf8 bytes = map (λ byte. record { byte = byte; utf8 = utf8 }) bytes

-- the text of bytes that were posted under these modes
abbrev pub posted_text_under : Settings → List ℕ → List PostedByte
posted_text_under modes bytes = posted_text (has_flag modes IUTF8) bytes

-- where the cursor stands after one more byte: CR goes to the line's start, TAB to the next multiple of 8, BS one to
-- the left, and another control character stays, as do NL and a continuation byte of UTF-8
abbrev pub column_after_byte : ℕ → PostedByte → ℕ
column_after_byte column sent =
    if sent.utf8 && is_continuation sent.byte then column
    else if sent.byte == 13 then 0
    else if sent.byte == 9 then 8 * (column / 8 + 1)
    else if sent.byte == 8 then column - 1
    else if nat_lt sent.byte 32 || sent.byte == 127 then column
    else column + 1

-- the column after a text that begins at a column
abbrev pub column_after : ℕ → List PostedByte → ℕ
column_after column [] = column
column_after column (sent ∷ text) = column_after (column_after_byte column sent) text

-- the column of all that was posted
abbrev pub column_of : List PostedByte → ℕ
column_of text = column_after 0 text
