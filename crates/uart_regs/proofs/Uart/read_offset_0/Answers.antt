use Rattle.std.proofs.Common.{rules, arith}
use Rattle.uart_regs.proofs.StatusLemmas.{IsFifo, rest_of}
use Rattle.uart_regs.proofs.Uart.read_offset_0.Goals as goal

pub invariant_of-self-2 : goal.invariant_of-self-2
invariant_of-self-2 c =
    let i = c.self.invariant in
    let fifo : IsFifo c.take_front.new.self =
    rest_of c.self.inside.fifo c.take_front.new.self c.take_front.result c.take_front.ensures i.depth i.no_mark in
    record {
      depth = fifo.depth;
      no_mark = fifo.no_mark;
      timeout = omega arith;
      some_trigger = i.some_trigger;
      low_trigger = i.low_trigger;
    }

pub returns-then-selects_latches-clause-value : goal.returns-then-selects_latches-clause-value
returns-then-selects_latches-clause-value c = search rules steps 100000

pub returns-then-is_empty-clause-after : goal.returns-then-is_empty-clause-after
returns-then-is_empty-clause-after c = search rules steps 100000

pub returns-clause-after : goal.returns-clause-after
returns-clause-after c = search rules steps 300000
