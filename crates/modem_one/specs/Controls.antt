-- What calls make of the modem lines of a port.
use Rattle.std.specs.Prelude.{◌==◌, Bool, true, false, not, ◌&&◌, if◌then◌else◌}
use Rattle.tty_calls.specs.Plain.{PlainCall, opens, closes, hangs_up, PlainAnswer, done}
use Rattle.tty_terminal.specs.Terminals.{Terminal, live_count}
use Rattle.modem_lines.specs.Lines.{Lines, after_open, after_shut}

abbrev pub is_done : PlainAnswer → Bool
is_done done = true
is_done other = false

abbrev pub is_open : PlainCall → Bool
is_open (opens h access nonblock) = true
is_open other = false

abbrev pub is_close : PlainCall → Bool
is_close (closes h) = true
is_close other = false

abbrev pub is_hangup : PlainCall → Bool
is_hangup (hangs_up h) = true
is_hangup other = false

-- a handle of the port is live
abbrev pub has_live : Terminal → Bool
has_live t = not (live_count t == 0)

-- what a call that was done makes of the lines, where a handle was live before it, or is now
abbrev pub lines_settled : Lines → (was_live is_live : Bool) → PlainCall → Lines
lines_settled lines was now call =
    if is_open call then (if was then lines else after_open lines)
    else if is_close call then (if was && not now then after_shut lines else lines)
    else if is_hangup call then after_shut lines
    else lines
