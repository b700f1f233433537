use Rattle.std.proofs.Common.{rules}
use Rattle.uart_regs.proofs.Uart.has_data_available.Goals as goal

pub returns-then-is_set : goal.returns-then-is_set
returns-then-is_set c = search rules steps 100000
