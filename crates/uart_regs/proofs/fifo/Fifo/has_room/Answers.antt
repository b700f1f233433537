use Rattle.std.proofs.Common.{sym, ap, ◌∙◌, length, arith}
use Rattle.uart_regs.proofs.Rows.{length-row, has_room_row}
use Rattle.uart_regs.proofs.fifo.Fifo.has_room.Goals as goal

pub returns-else-self-lt-FIFO_DEPTH : goal.returns-else-self-lt-FIFO_DEPTH
returns-else-self-lt-FIFO_DEPTH c =
    has_room_row _ _ _ (ap length (sym c.self.view_is) ∙ length-row _ _ _ c.self.invariant) c.self.invariant.in_order
    (omega arith)
