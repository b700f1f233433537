-- How much room on the wire a character can take.
use Rattle.std.specs.Prelude.{ℕ, ◌+◌, ◌*◌, length}
use Rattle.flow_control.specs.Output.{Output}
use Rattle.n_tty.specs.States.{NTtyState}

-- How many bytes can still go to the wire for what is there: the held ones, and for each byte of the edited line the
-- 8 at most that take it off the screen.
abbrev pub pending_count : NTtyState → Output → ℕ
pending_count tty output = length output.held + 8 * length tty.edit
