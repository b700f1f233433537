-- The steps of a line and the turns of its interrupt handler, on what contracts see of a line.
use Rattle.std.specs.Prelude.{◌≡◌, ℕ, ◌+◌, ◌^◌, ◌≤◌, ◌<◌, Bool, true, false, not, ◌&&◌}
use Rattle.std.specs.Prelude.{if◌then◌else◌, List, [], ◌∷◌, length, Option, Some, None}
use Rattle.tty_base.specs.declared.characters.Flagged.{Flagged}
use Rattle.tty_base.specs.declared.lines.LineStep.{LineStep}
use Rattle.tty_base.specs.declared.lines.LineStep.TheVariants.{Rx, Break, Idle, Mask, Unmask, Trigger}
use Rattle.uart_regs.specs.Registers.{Registers, after_arrival, after_idle, bit, is_pending}
use Rattle.uart_line.specs.Received.{overrun_mark}
use Rattle.tty_base.specs.Lines.{break_character}
use Rattle.uart_line.specs.LineState.{LineState}
use Rattle.uart_line.specs.Offered.{Offers}
use Rattle.uart_regs.specs.declared.Reading.{Reading}

abbrev pub with_arrival : LineState → Flagged → LineState
with_arrival line c = record line {
  registers = after_arrival line.registers c;
  window = line.window + 1;
  report = record line.report { arrived = line.report.arrived + 1 };
}

-- the line after a step, before its handler runs
abbrev pub after_line_step : LineState → LineStep → LineState
after_line_step line (Rx c) = with_arrival line c
after_line_step line Break = with_arrival line break_character
after_line_step line (Idle n) = record line { registers = after_idle line.registers n }
after_line_step line Mask = record line { masked = true }
after_line_step line Unmask = record line { masked = false }
after_line_step line (Trigger t) = record line { registers = record line.registers { trigger = t } }

-- the handler runs: an interrupt is pending and not held back
abbrev pub runs_handler : LineState → Bool
runs_handler line = is_pending line.registers && not line.masked

-- ---- one turn of the handler

-- line status and the receiver buffer, read one after the other
abbrev pub reading_of : Bool → List Flagged → Option Reading
reading_of overrun [] = None
reading_of overrun (c ∷ _) = Some (record { character = c; overrun = overrun })

abbrev pub after_turn : Registers → List Flagged → Registers
after_turn r [] = record r { overrun = false }
after_turn r (_ ∷ cs) = record r { fifo = cs; overrun = false; idle = 0 }

-- ---- a run of the handler

-- what a run puts: the FIFO, with a mark after its first character where it has overrun
abbrev pub with_mark : Bool → List Flagged → List Flagged
with_mark overrun [] = []
with_mark overrun (c ∷ cs) = c ∷ (if overrun then overrun_mark ∷ cs else cs)

-- only the FIFO, the overrun and the timeout differ
abbrev pub IsReadOff : Registers → Registers → Type 0
IsReadOff r r' = r' ≡ record r { fifo = r'.fifo; overrun = r'.overrun; idle = r'.idle }

-- a run that puts this list: what it hands over was offered, and of the line only the receiver and
-- the numbers that the offers change differ
pub record Serves
    (capacity : ℕ) (old new : LineState) (list : List Flagged) (sent sent' : List Flagged) (heads heads' : List ℕ)
    : Type 0 where
  pub offers : Offers capacity old.handed list sent sent' heads
      heads' old.report.overruns.items new.report.overruns.items
  pub handed : new.handed ≡ old.handed + length list
  pub read_off : IsReadOff old.registers new.registers
  pub masked : new.masked ≡ old.masked
  pub most : new.most ≡ old.most
  pub arrived : new.report.arrived ≡ old.report.arrived

-- ---- what holds of every line

pub record IsLine (line : LineState) : Type 0 where
  pub room : line.handed + length line.registers.fifo + bit line.registers.overrun ≤ line.report.arrived
  pub arrived : line.report.arrived ≤ line.most
  pub most : line.most < 2 ^ 32
  pub count : line.report.sent + length line.report.overruns.items ≡ line.handed
  pub spare : line.most ≤ length line.report.overruns.items + line.report.overruns.spare
  pub lost : line.report.fifo_lost + line.window ≤ line.report.arrived
  pub line_control : line.registers.line_control ≡ 3
