use Rattle.std.proofs.Common.{◌≡◌, drop}
use Rattle.tty_terminal.specs.Runs.{chars_of}
use Rattle.journal_check.proofs.characters.are_chars_of.Given as goal

abbrev pub invariant-loop-place : goal.invariant-loop-place
invariant-loop-place l = record {
  goes_on : chars_of l.journal.items ≡ l.list → chars_of (drop l.place l.journal.items) ≡ l.rest;
  came : chars_of (drop l.place l.journal.items) ≡ l.rest → chars_of l.journal.items ≡ l.list;
}
