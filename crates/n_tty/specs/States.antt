-- The line discipline N_TTY, with the port's side that it works on.
use Rattle.std.specs.Prelude.{◌≡◌, ℕ, ◌+◌, Bool, true, false, not, ◌&&◌, ◌||◌}
use Rattle.std.specs.Prelude.{nat_le, nat_lt, List, [], ◌∷◌, length, if◌then◌else◌}
use Rattle.tty_base.specs.Sizes.{MOST_ENDS, MOST_TO_ACCEPT, MOST_TO_ACCEPT_MARKED}
use Rattle.tty_modes.specs.Settings.{Settings, has_flag}
use Rattle.tty_modes.specs.declared.places.TheConstants.{ICANON, PARMRK}
use Rattle.line_store.specs.Unread.{Item, Byte, End, bytes_of, end_count}
use Rattle.opost_out.specs.Column.{column_of}
use Rattle.flow_control.specs.Output.{Output}
use Rattle.flow_control.specs.declared.tally.Tally.{Tally}

pub record NTtyState : Type 0 where
  -- unread input: bytes and the ends of pieces
  pub items : List Item
  -- the edited line, and the column in which it began
  pub edit : List ℕ
  pub start : ℕ
  -- the next character is quoted
  pub quoted : Bool
  -- the tick at which the last byte was stored
  pub last : ℕ
  -- the column of all that was posted since the discipline was installed
  pub column : ℕ

-- at first
abbrev pub fresh_tty : NTtyState
fresh_tty = record { items = []; edit = []; start = 0; quoted = false; last = 0; column = column_of [] }

-- N_TTY on a port: its state, the port's output, and what the port counts
pub record OnPort : Type 0 where
  pub tty : NTtyState
  pub output : Output
  pub tally : Tally

abbrev pub on_port : NTtyState → Output → Tally → OnPort
on_port tty output tally = record { tty = tty; output = output; tally = tally }

-- how many bytes are unread: those in pieces or plain, and those of the edited line
abbrev pub unread_count : NTtyState → ℕ
unread_count tty = length (bytes_of tty.items) + length tty.edit

-- a piece is complete
abbrev pub has_piece : NTtyState → Bool
has_piece tty = nat_lt 0 (end_count tty.items)

-- with how many unread bytes a character is accepted in any case: with parmrk it may take three
abbrev pub most_unread : Settings → ℕ
most_unread modes = if has_flag modes PARMRK then MOST_TO_ACCEPT_MARKED else MOST_TO_ACCEPT

-- A character is accepted while there is room. In canonical mode it is also accepted where no piece is complete, so
-- that the line can be ended.
abbrev pub is_accepting : Settings → NTtyState → Bool
is_accepting modes tty =
    nat_lt (end_count tty.items) MOST_ENDS
    && (nat_le (unread_count tty) (most_unread modes) || (has_flag modes ICANON && not (has_piece tty)))

-- each byte has an end after it
abbrev pub AllEnded : List Item → Type 0
AllEnded [] = Unit {0}
AllEnded (Byte b ∷ items) = (nat_lt 0 (end_count items) ≡ true) × AllEnded items
AllEnded (End ∷ items) = AllEnded items

-- A state that fits modes: in canonical mode what is not ended is in the edited line, and else there is neither an end
-- nor an edited line.
pub record FitsModes (modes : Settings) (tty : NTtyState) : Type 0 where
  pub ended : has_flag modes ICANON ≡ true → AllEnded tty.items
  pub no_ends : has_flag modes ICANON ≡ false → end_count tty.items ≡ 0
  pub no_line : has_flag modes ICANON ≡ false → tty.edit ≡ []
