use Rattle.std.proofs.Common.{◌≡◌, ◌==◌, ◌≤◌, map, take, length}
use Rattle.std.specs.Prelude.{filter}
use Rattle.tty_calls.specs.Sessions.{script_of}
use Rattle.journal_check.proofs.judging.count_of.Given as goal

abbrev pub invariant-loop-script : goal.invariant-loop-script
invariant-loop-script l = record {
  count : l.count ≡ length (filter (λ s. s.port == l.port) (map script_of (take l.script-index l.scripts)));
  most : l.count ≤ l.script-index;
}
