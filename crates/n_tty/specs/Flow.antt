-- Signals, and flow control of the input (termios(3), ISIG, NOFLSH, IXON and IXOFF).
use Rattle.std.specs.Prelude.{ℕ, ◌-◌, Bool, true, false, not, ◌&&◌, ◌||◌, ◌==◌}
use Rattle.std.specs.Prelude.{nat_le, nat_lt, [], ◌∷◌, ◌++◌, if◌then◌else◌}
use Rattle.tty_base.specs.declared.counters.Signal.{Signal}
use Rattle.tty_modes.specs.Settings.{Settings, has_flag, character}
use Rattle.tty_modes.specs.declared.places.TheConstants.{ICANON, IXOFF, NOFLSH, VSTART, VSTOP}
use Rattle.flow_control.specs.Output.{Output, on_wire}
use Rattle.flow_control.specs.declared.tally.Tally.{Tally}
use Rattle.n_tty.specs.States.{OnPort}
use Rattle.n_tty.specs.Storing.{without_input}

-- a signal is recorded, in room that was reserved
abbrev pub with_signal : Signal → Tally → Tally
with_signal signal tally =
    record tally { signals = record { items = tally.signals.items ++ signal ∷ []; spare = tally.signals.spare - 1 } }

-- what a signal drops: unread input, the edited line, the quoting mark and held output
abbrev pub after_drop : OnPort → OnPort
after_drop port = record port { tty = without_input port.tty; output = record port.output { held = [] } }

-- A signal is raised. With noflsh nothing is dropped.
abbrev pub after_signal : Settings → Signal → OnPort → OnPort
after_signal modes signal port =
    let raised = record port { tally = with_signal signal port.tally } in
    if has_flag modes NOFLSH then raised else after_drop raised

-- STOP is sent past a halt and noted, unless it is disabled
abbrev pub with_stop_sent : Settings → Output → Output
with_stop_sent modes output =
    if character modes VSTOP == 0 then output else record (on_wire output (character modes VSTOP ∷ [])) { noted = true }

-- the note goes, and START is sent past a halt, unless it is disabled
abbrev pub with_start_sent : Settings → Output → Output
with_start_sent modes output =
    if character modes VSTART == 0
    then record output { noted = false }
    else record (on_wire output (character modes VSTART ∷ [])) { noted = false }

-- from how many unread bytes on input fills, and down to how many the sender waits
abbrev pub HIGH_WATER : ℕ
HIGH_WATER = 3968

abbrev pub LOW_WATER : ℕ
LOW_WATER = 128

-- Input fills, and the sender was not yet told to stop. In canonical mode it is told only where a piece is complete,
-- since otherwise nobody could make room.
abbrev pub must_stop : Settings → (unread : ℕ) → (complete : Bool) → Output → Bool
must_stop modes unread complete output =
    has_flag modes IXOFF && not output.noted && nat_lt HIGH_WATER unread && (not (has_flag modes ICANON) || complete)

-- a sender that was told to stop may go on
abbrev pub may_start : Settings → (unread : ℕ) → Output → Bool
may_start modes unread output = output.noted && (nat_le unread LOW_WATER || not (has_flag modes IXOFF))

-- the rule for ixoff, with so many bytes unread, and whether a piece is complete
abbrev pub after_ixoff_rule : Settings → (unread : ℕ) → (complete : Bool) → Output → Output
after_ixoff_rule modes unread complete output =
    if must_stop modes unread complete output then with_stop_sent modes output
    else if may_start modes unread output then with_start_sent modes output
    else output
