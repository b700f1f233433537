use Rattle.std.proofs.Common.{◌≡◌, ◌+◌, ◌++◌, ◌∷◌, drop, length}
use Rattle.tty_terminal.specs.Runs.{chars_of}
use Rattle.journal_check.specs.Seen.{phase_starts, line_stops}
use Rattle.journal_check.proofs.seen.taken_by.Given as goal

abbrev pub invariant-loop-place : goal.invariant-loop-place
invariant-loop-place l = record {
  starts : l.starts.items ++ phase_starts l.count (drop l.place l.journal.items) ≡ 0 ∷ phase_starts 0 l.journal.items;
  stops : l.stops.items ++ line_stops l.count (drop l.place l.journal.items) ≡ line_stops 0 l.journal.items;
  size : l.count + length (chars_of (drop l.place l.journal.items)) ≡ length (chars_of l.journal.items);
}
