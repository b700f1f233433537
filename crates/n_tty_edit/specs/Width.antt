-- How many columns a byte of the edited line takes on the screen.
use Rattle.std.specs.Prelude.{ℕ, ◌+◌, ◌-◌, ◌%◌, ◌==◌, ◌&&◌, ◌||◌, Option, Some, None, List, [], ◌∷◌}
use Rattle.std.specs.Prelude.{◌++◌, length, take, drop, fold, if◌then◌else◌, slice_index, nat_lt}
use Rattle.tty_modes.specs.Settings.{Settings, has_flag}
use Rattle.tty_modes.specs.declared.places.TheConstants.{ECHOCTL, IUTF8}
use Rattle.n_tty_edit.specs.declared.line.Gone.{Gone}
use Rattle.tty_modes.specs.Utf8.{is_continuation}
use Rattle.n_tty_edit.specs.Line.{erase_size}

-- the width of a byte other than TAB (9): NL (10) and the bytes that continue a character have none, and a control
-- character is shown in two columns or not at all
abbrev pub plain_width : Settings → ℕ → ℕ
plain_width modes byte =
    if has_flag modes IUTF8 && is_continuation byte then 0
    else if byte == 10 then 0
    else if nat_lt byte 32 || byte == 127 then (if has_flag modes ECHOCTL then 2 else 0)
    else 1

-- the widths since the last TAB of a line, or since its start plus the start column
abbrev pub width_since_tab : Settings → (start : ℕ) → List ℕ → ℕ
width_since_tab modes = fold (λ column byte. if byte == 9 then 0 else column + plain_width modes byte)

-- the width of a byte after a line that began in a start column: a TAB goes to the next multiple of 8
abbrev pub width_of : Settings → (start : ℕ) → (before : List ℕ) → ℕ → ℕ
width_of modes start before byte =
    if byte == 9 then 8 - width_since_tab modes start before % 8 else plain_width modes byte

-- the widths of several bytes after a line, together
abbrev pub total_width_of : Settings → (start : ℕ) → (before : List ℕ) → List ℕ → ℕ
total_width_of modes start before [] = 0
total_width_of modes start before (byte ∷ bytes) =
    width_of modes start before byte + total_width_of modes start (before ++ byte ∷ []) bytes

-- what ERASE removes of a line: its first byte, how many bytes, and their widths
abbrev pub gone_of : Settings → (start : ℕ) → List ℕ → Option Gone
gone_of modes start line =
    let size = erase_size (has_flag modes IUTF8) line in
    let kept = length line - size in
    if size == 0 then None else Some (record {
      first = slice_index line kept;
      bytes = size;
      width = total_width_of modes start (take kept line) (drop kept line);
    })
