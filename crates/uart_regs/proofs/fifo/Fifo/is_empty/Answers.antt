use Rattle.std.proofs.Common.{sym, ap, ◌∙◌, length}
use Rattle.uart_regs.proofs.Rows.{length-row, is_empty_row}
use Rattle.uart_regs.proofs.fifo.Fifo.is_empty.Goals as goal

pub returns : goal.returns
returns c =
    is_empty_row _ _ _ (ap length (sym c.self.view_is) ∙ length-row _ _ _ c.self.invariant) c.self.invariant.in_order
