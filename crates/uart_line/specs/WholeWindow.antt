-- Whole windows of characters.
use Rattle.std.specs.Prelude.{◌≡◌, ℕ, ◌≤◌, false}
use Rattle.uart_line.specs.LineState.{LineState}

-- nothing waits, the handler is not masked, and so many characters make a window
pub record TakesWindow (line : LineState) (count : ℕ) : Type 0 where
  pub is_trigger : count ≡ line.registers.trigger
  pub some : 1 ≤ count
  pub few : count ≤ 14
  pub none_waits : line.window ≡ 0
  pub unmasked : line.masked ≡ false

-- of the line only the numbers of what was handed over differ
pub record IsHandedOver (old new : LineState) : Type 0 where
  pub registers : new.registers ≡ old.registers
  pub window : new.window ≡ old.window
  pub lost : new.report.fifo_lost ≡ old.report.fifo_lost
