use Rattle.std.proofs.Common.{◌≡◌, ◌≤◌, take}
use Rattle.std.specs.Prelude.{count_by}
use Rattle.tty_terminal.specs.Terminals.{is_over}
use Rattle.journal_check.proofs.resting.over_of.Given as goal

abbrev pub invariant-loop-caller : goal.invariant-loop-caller
invariant-loop-caller l = record {
  count : l.count ≡ count_by is_over (take l.caller l.terminal.terminal.callers);
  most : l.count ≤ l.caller;
}
