use Rattle.std.proofs.Common.{◌≡◌, ◌+◌, ◌≤◌, ◌++◌, drop, length}
use Rattle.journal_check.specs.Accounts.{kept_from}
use Rattle.journal_check.proofs.lines.keep.Given as goal

abbrev pub invariant-loop-offset : goal.invariant-loop-offset
invariant-loop-offset l = record {
  kept : l.kept.items ++ (kept_from (l.place + l.offset) (drop l.offset l.chars) (drop l.next l.overruns)).chars
      ≡ l.initial.kept.items ++ (kept_from l.place l.chars l.overruns).chars;
  rest : (kept_from (l.place + l.offset) (drop l.offset l.chars) (drop l.next l.overruns)).overruns
      ≡ (kept_from l.place l.chars l.overruns).overruns;
  within : l.next ≤ length l.overruns;
  spare : l.initial.kept.spare ≤ l.kept.spare + l.offset;
  room : length l.chars ≤ l.kept.spare + l.offset;
}
