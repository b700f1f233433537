use Rattle.std.proofs.Common.{sym, ap, ◌∙◌, length}
use Rattle.uart_regs.proofs.Rows.{length-row}
use Rattle.uart_regs.proofs.fifo.Fifo.len.Goals as goal

pub returns : goal.returns
returns c = sym (length-row _ _ _ c.self.invariant) ∙ ap length c.self.view_is
