use Rattle.std.proofs.Common.{rules}
use Rattle.uart_regs.proofs.StatusLemmas.{IsFifo, cleared_front}
use Rattle.uart_regs.proofs.Uart.read_line_status.Goals as goal

pub invariant_of-self : goal.invariant_of-self
invariant_of-self c =
    let i = c.self.invariant in
    let fifo : IsFifo c.clear_front.new.self =
    rw c.clear_front.ensures (cleared_front c.self.inside.fifo i.depth i.no_mark) in
    record {
      depth = fifo.depth;
      no_mark = fifo.no_mark;
      timeout = i.timeout;
      some_trigger = i.some_trigger;
      low_trigger = i.low_trigger;
    }

pub returns-clause-after : goal.returns-clause-after
returns-clause-after c = search rules steps 300000
