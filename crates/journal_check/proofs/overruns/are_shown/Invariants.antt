use Rattle.std.proofs.Common.{◌≡◌, drop}
use Rattle.uart_line.specs.Offered.{AreShown}
use Rattle.journal_check.proofs.overruns.are_shown.Given as goal

abbrev pub invariant-loop-overrun : goal.invariant-loop-overrun
invariant-loop-overrun l = record {
  goes_on : AreShown l.capacity 0 0 l.overruns → AreShown l.capacity l.k l.floor (drop l.overrun-index l.overruns);
  came : AreShown l.capacity l.k l.floor (drop l.overrun-index l.overruns) → AreShown l.capacity 0 0 l.overruns;
  count : l.k ≡ l.overrun-index;
}
