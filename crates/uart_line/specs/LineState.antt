-- What contracts see of a line, and which steps it has done.
use Rattle.std.specs.Prelude.{◌≡◌, ℕ, ◌+◌, ◌<◌, min, Bool, nat_lt, List, ◌++◌, length, take, reverse}
use Rattle.tty_base.specs.declared.characters.Flagged.{Flagged}
use Rattle.tty_base.specs.declared.lines.LineReport.{LineReport}
use Rattle.tty_base.specs.declared.lines.LineStep.{LineStep}
use Rattle.uart_regs.specs.Registers.{Registers, DEPTH}
use Rattle.uart_line.specs.Received.{is_masked, trigger_of, idle_of, received_list, lost_count, waiting_list}
use Rattle.tty_base.specs.Lines.{arrival_count}

-- the receiver; whether the handler is held back; how many characters arrived since the last cut;
-- how many were handed over; for how many arrivals there is room; and the report
pub record LineState : Type 0 where
  pub registers : Registers
  pub masked : Bool
  pub window : ℕ
  pub handed : ℕ
  pub most : ℕ
  pub report : LineReport

abbrev pub line_state : Registers → Bool → ℕ → ℕ → ℕ → LineReport → LineState
line_state registers masked window handed most report = record {
  registers = registers;
  masked = masked;
  window = window;
  handed = handed;
  most = most;
  report = report;
}

-- After the steps `past`, the last one first, these characters wait in the receiver: the first 16
-- are in its FIFO, and where there are more it has an overrun.
pub record IsWaiting (r : Registers) (past : List LineStep) (cs : List Flagged) : Type 0 where
  pub fifo : r.fifo ≡ take DEPTH cs
  pub overrun : r.overrun ≡ nat_lt DEPTH (length cs)
  pub idle : 0 < length cs → r.idle ≡ min (idle_of past) 4
  pub trigger : r.trigger ≡ trigger_of past
  pub interrupts : r.interrupts ≡ 5
  pub line_control : r.line_control ≡ 3

-- the line has done the steps `past`, the last one first, and these characters wait
pub record Stands (line : LineState) (past : List LineStep) (cs : List Flagged) : Type 0 where
  pub registers : IsWaiting line.registers past cs
  pub masked : line.masked ≡ is_masked past
  pub window : line.window ≡ length cs

-- The line has done these steps: characters wait that arrived since the last cut, all before it was
-- handed over, and the report has the numbers of the steps.
pub record HasDone (line : LineState) (steps : List LineStep) : Type 0 where
  pub stands : Stands line (reverse steps) (waiting_list steps)
  pub arrived : line.report.arrived ≡ arrival_count steps
  pub handed : line.handed ≡ length (received_list steps)
  pub lost : line.report.fifo_lost ≡ lost_count steps
  pub sent : line.report.sent + length line.report.overruns.items ≡ line.handed

-- The line that has done these further steps, by which nothing more was handed over.
pub record IsUncut (line : LineState) (before steps : List LineStep) : Type 0 where
  pub there : LineState
  pub done : HasDone there (before ++ steps)
  pub same : received_list (before ++ steps) ≡ received_list before
  pub handed : there.handed ≡ line.handed
  pub most : there.most ≡ line.most
  pub arrived : there.report.arrived ≡ line.report.arrived + arrival_count steps
  pub overruns : there.report.overruns ≡ line.report.overruns
