-- Storing input: bytes, the ends of pieces, and what drops both.
use Rattle.std.specs.Prelude.{ℕ, ◌+◌, false, nat_le, List, [], ◌∷◌, ◌++◌, length, map, if◌then◌else◌}
use Rattle.tty_base.specs.Sizes.{MOST_LINE}
use Rattle.tty_modes.specs.Settings.{Settings, has_flag}
use Rattle.tty_modes.specs.declared.places.TheConstants.{ICANON, PARMRK}
use Rattle.line_store.specs.Unread.{Item, Byte, End, bytes_of}
use Rattle.n_tty_edit.specs.Line.{AddBytes, after_change}
use Rattle.flow_control.specs.Counting.{with_count}
use Rattle.flow_control.specs.declared.tally.Counter.TheVariants.{Cut}
use Rattle.n_tty.specs.States.{NTtyState, OnPort}

-- the column in which a line began: that of now, while the line is empty
abbrev pub start_of : (line : List ℕ) → (start column : ℕ) → ℕ
start_of [] start column = column
start_of (byte ∷ line) start column = start

-- the bytes of one character join the edited line
abbrev pub with_line_bytes : (now : ℕ) → List ℕ → NTtyState → NTtyState
with_line_bytes now bytes tty =
    record tty {
      edit = after_change tty.edit (AddBytes bytes);
      start = start_of tty.edit tty.start tty.column;
      last = now;
    }

-- the bytes of one character are unread at once
abbrev pub with_plain_bytes : (now : ℕ) → List ℕ → NTtyState → NTtyState
with_plain_bytes now bytes tty = record tty { items = tty.items ++ map Byte bytes; last = now }

-- how many bytes a character is stored as at most: with parmrk as a mark of three
abbrev pub most_stored : Settings → ℕ
most_stored modes = if has_flag modes PARMRK then 3 else 1

-- Storing the bytes of one character. In canonical mode they join the edited line, or are cut together where the line
-- would be too long.
abbrev pub after_store : Settings → (now : ℕ) → List ℕ → OnPort → OnPort
after_store modes now bytes port =
    if has_flag modes ICANON
    then (
    if nat_le (length port.tty.edit + length bytes) MOST_LINE
    then record port { tty = with_line_bytes now bytes port.tty }
    else record port { tally = record port.tally { counts = with_count port.tally.counts Cut 1 } }
    )
    else record port { tty = with_plain_bytes now bytes port.tty }

-- the edited line becomes a piece that ends with its delimiter
abbrev pub with_piece : (now : ℕ) → (delimiter : ℕ) → NTtyState → NTtyState
with_piece now delimiter tty =
    record tty { items = tty.items ++ (map Byte tty.edit ++ Byte delimiter ∷ End ∷ []); edit = []; last = now }

-- the edited line becomes a piece that ends with an EOF mark and no byte
abbrev pub with_eof_piece : NTtyState → NTtyState
with_eof_piece tty = record tty { items = tty.items ++ (map Byte tty.edit ++ End ∷ []); edit = [] }

-- unread input, the edited line and the quoting mark are dropped
abbrev pub without_input : NTtyState → NTtyState
without_input tty = record tty { items = []; edit = []; quoted = false }

-- Canonical mode is left: all that is unread becomes plain, in order.
abbrev pub with_plain_input : NTtyState → NTtyState
with_plain_input tty =
    record tty { items = map Byte (bytes_of tty.items) ++ map Byte tty.edit; edit = []; quoted = false }

-- plain bytes, if any, become one piece that ends with an EOF mark
abbrev pub plain_piece : List Item → List Item
plain_piece [] = []
plain_piece (item ∷ items) = item ∷ items ++ End ∷ []

-- after modes were changed: only whether canonical mode began or ended counts
abbrev pub after_recast : (old new : Settings) → NTtyState → NTtyState
after_recast old new tty =
    if has_flag old ICANON
    then (if has_flag new ICANON then tty else with_plain_input tty)
    else (if has_flag new ICANON then record tty { items = plain_piece tty.items } else tty)
