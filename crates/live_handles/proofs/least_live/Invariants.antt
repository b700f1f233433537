use Rattle.std.proofs.Common.{◌≡◌, ◌<◌, ℕ, false}
use Rattle.handle_table.specs.Handles.{is_live}
use Rattle.tty_terminal.specs.Terminals.{handle_at}
use Rattle.live_handles.proofs.least_live.Given as goal

abbrev pub invariant-loop-h : goal.invariant-loop-h
invariant-loop-h l = (k : ℕ) → k < l.h → is_live (handle_at l.port.terminal k) ≡ false
