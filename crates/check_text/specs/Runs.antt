-- A port's run as plain data: its journal, and what its line did.
use Rattle.std.specs.Prelude.{ℕ, List}
use Rattle.tty_base.specs.declared.lines.Overrun.{Overrun}
use Rattle.tty_calls.specs.declared.journals.PortRun.{PortRun}
use Rattle.tty_calls.specs.Plain.{PlainEntry}

pub record PlainRun : Type 0 where
  pub journal : List PlainEntry
  pub overruns : List Overrun
  pub arrived : ℕ
  pub lost : ℕ
  pub sent : ℕ

abbrev pub run_of : PortRun → PlainRun
run_of run = record {
  journal = run.journal.items;
  overruns = run.line.overruns.items;
  arrived = run.line.arrived;
  lost = run.line.fifo_lost;
  sent = run.line.sent;
}
