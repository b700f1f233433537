-- What a read takes of the unread input, and whether it has to wait (termios(3), canonical and noncanonical mode).
use Rattle.std.specs.Prelude.{ℕ, Bool, ◌&&◌, ◌||◌, ◌==◌, nat_lt, List, length, take, drop, if◌then◌else◌}
use Rattle.tty_modes.specs.Settings.{Settings, has_flag, character}
use Rattle.tty_modes.specs.declared.places.TheConstants.{ICANON, VMIN, VTIME}
use Rattle.line_store.specs.Unread.{bytes_of, read_size, line_of, after_line}
use Rattle.read_rule.specs.Ready.{is_ready}
use Rattle.n_tty.specs.States.{NTtyState, unread_count, has_piece}

-- The bytes that a read asking for n takes. No read in canonical mode goes past a piece; another takes what came,
-- whatever it is.
abbrev pub bytes_read : Settings → (n : ℕ) → NTtyState → List ℕ
bytes_read modes n tty =
    if has_flag modes ICANON then line_of (read_size n) tty.items else take (read_size n) (bytes_of tty.items)

-- what stays unread after it
abbrev pub after_read : Settings → (n : ℕ) → NTtyState → NTtyState
after_read modes n tty =
    record tty {
      items = if has_flag modes ICANON then after_line (read_size n) tty.items else drop (read_size n) tty.items;
    }

-- a read that must not wait, out of canonical mode: it has something to give, or is asked for nothing by MIN and TIME
abbrev pub is_ready_now : Settings → NTtyState → Bool
is_ready_now modes tty = nat_lt 0 (unread_count tty) || (character modes VMIN == 0 && character modes VTIME == 0)

-- Whether a read asking for n, which began to wait at some tick, can be answered. In canonical mode it takes a whole
-- piece to end the wait.
abbrev pub is_readable : Settings → (nonblock : Bool) → (n since now : ℕ) → NTtyState → Bool
is_readable modes nonblock n since now tty =
    if has_flag modes ICANON then has_piece tty
    else if nonblock then is_ready_now modes tty
    else is_ready n (character modes VMIN) (character modes VTIME) (unread_count tty) since tty.last now

-- what FIONREAD tells; the line that is being edited is not there yet for a reader
abbrev pub ready_count : Settings → NTtyState → ℕ
ready_count modes tty = if has_flag modes ICANON then length (bytes_of tty.items) else unread_count tty
