use Rattle.std.proofs.Common.{◌≡◌, ◌≤◌, take}
use Rattle.std.specs.Prelude.{count_by}
use Rattle.tty_terminal.specs.Terminals.{is_resting}
use Rattle.journal_check.proofs.resting.resting_of.Given as goal

abbrev pub invariant-loop-caller : goal.invariant-loop-caller
invariant-loop-caller l = record {
  count : l.count ≡ count_by is_resting (take l.caller l.terminal.terminal.callers);
  most : l.count ≤ l.caller;
}
