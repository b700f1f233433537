use Rattle.std.proofs.Common.{rules}
use Rattle.uart_regs.proofs.Uart.arrive.Goals as goal

pub returns : goal.returns
returns c = search rules steps 300000
