use Rattle.std.proofs.Common.{ap, ◌∙◌}
use Rattle.uart_regs.specs.Registers.{with_front_cleared}
use Rattle.uart_regs.proofs.Rows.{row-cleared}
use Rattle.uart_regs.proofs.fifo.Fifo.clear_front.Goals as goal

pub returns-then-self : goal.returns-then-self
returns-then-self c =
    row-cleared c.self.inside.places c.self.inside.front c.self.inside.end _ c.self.invariant c.if-self.true
    ∙ ap with_front_cleared c.self.view_is
