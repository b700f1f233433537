use Rattle.std.proofs.Common.{arith}
use Rattle.std.proofs.lemmas.Grind.{common_steps}
use Rattle.uart_regs.proofs.Uart.write_offset_1.Goals as goal

pub returns-else-selects_latches : goal.returns-else-selects_latches
returns-else-selects_latches c = grind (arith, common_steps) steps 500000
