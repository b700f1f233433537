-- What must hold for a character to be stored, and for it to be taken.
use Rattle.std.specs.Prelude.{◌≡◌, ◌+◌, ◌≤◌, ◌<◌, true}
use Rattle.tty_base.specs.Sizes.{COUNT_END}
use Rattle.tty_modes.specs.Settings.{Settings}
use Rattle.flow_control.specs.Output.{Output}
use Rattle.flow_control.specs.declared.tally.Tally.{Tally}
use Rattle.n_tty.specs.States.{NTtyState, is_accepting, FitsModes}
use Rattle.n_tty.specs.Spending.{pending_count}

-- a character is accepted, so that its bytes have room
pub record MayStore (modes : Settings) (tty : NTtyState) : Type 0 where
  pub accepted : is_accepting modes tty ≡ true
  pub fits : FitsModes modes tty

-- it is accepted, there is room on the wire for all that it can post and for a signal, and the column is far from its
-- end
pub record MayTake (modes : Settings) (tty : NTtyState) (output : Output) (tally : Tally) : Type 0 where
  pub accepted : is_accepting modes tty ≡ true
  pub fits : FitsModes modes tty
  pub room : pending_count tty output + 40 ≤ output.spare
  pub signal : 0 < tally.signals.spare
  pub column : tty.column < COUNT_END
