-- Setting modes, and waiting until output is drained (ioctl_tty(2), TCSETS, TCSETSW, TCSETSF and TCSBRK).
use Rattle.std.specs.Prelude.{◌==◌, Bool, true, not, ◌&&◌, if◌then◌else◌, length}
use Rattle.tty_calls.specs.declared.calls.When.{When}
use Rattle.tty_calls.specs.declared.calls.When.TheVariants as when
use Rattle.tty_calls.specs.Plain.{done}
use Rattle.tty_modes.specs.Settings.{Settings, has_flag}
use Rattle.tty_modes.specs.declared.places.TheConstants.{IXON}
use Rattle.flow_control.specs.Output.{Output, after_start}
use Rattle.ldisc_switch.specs.Happenings.{flush, mode_change, after_one}
use Rattle.tty_terminal.specs.Terminals.{Terminal}
use Rattle.tty_terminal.specs.Outcomes.{Outcome, waits, gives, does}

-- no output is held
abbrev pub is_drained : Terminal → Bool
is_drained t = length t.output.held == 0

-- output that STOP halted goes on where ixon is cleared
abbrev pub output_under : (old new : Settings) → Output → Output
output_under old new output = if has_flag old IXON && not (has_flag new IXON) then after_start output else output

abbrev pub with_modes : Terminal → Settings → Terminal
with_modes t new =
    record t {
      modes = new;
      disc = after_one t.disc (mode_change t.modes new);
      output = output_under t.modes new t.output;
    }

-- the unread input of the discipline is dropped: bytes with the edited line and the quoting mark, or packets
abbrev pub without_input : Terminal → Terminal
without_input t = record t { disc = after_one t.disc flush }

-- With `drain` and `flush` it waits while output is held. With `flush` input is dropped under the old modes.
abbrev pub modes_outcome : Terminal → When → Settings → Outcome
modes_outcome t when.Now new = does (with_modes t new)
modes_outcome t when.Drain new = if is_drained t then does (with_modes t new) else waits
modes_outcome t when.Flush new = if is_drained t then gives done true (with_modes (without_input t) new) else waits

abbrev pub drain_outcome : Terminal → Outcome
drain_outcome t = if is_drained t then does t else waits
