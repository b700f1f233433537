use Rattle.std.proofs.Common.{arith, sym, ◌∙◌}
use Rattle.uart_regs.proofs.StatusLemmas.{IsFifo, rest_of, cleared_front, latched_reading}
use Rattle.uart_regs.proofs.Uart.read_front.Goals as goal

pub invariant_of-self-then-selects_latches : goal.invariant_of-self-then-selects_latches
invariant_of-self-then-selects_latches c =
    let i = c.self.invariant in
    let fifo : IsFifo c.clear_front.new.self =
    rw c.clear_front.ensures (cleared_front c.self.inside.fifo i.depth i.no_mark) in
    record {
      depth = fifo.depth;
      no_mark = fifo.no_mark;
      timeout = i.timeout;
      some_trigger = i.some_trigger;
      low_trigger = i.low_trigger;
    }

pub invariant_of-self-3 : goal.invariant_of-self-3
invariant_of-self-3 c =
    let i = c.self.invariant in
    let fifo : IsFifo c.take_front-character.new.self =
    rest_of c.self.inside.fifo c.take_front-character.new.self c.take_front-character.result
    c.take_front-character.ensures i.depth i.no_mark in
    record {
      depth = fifo.depth;
      no_mark = fifo.no_mark;
      timeout = omega arith;
      some_trigger = i.some_trigger;
      low_trigger = i.low_trigger;
    }

pub returns-then-selects_latches-clause-reading : goal.returns-then-selects_latches-clause-reading
returns-then-selects_latches-clause-reading c =
    latched_reading _ c.args.self.now c.front_flag-flag.result c.self.view_is c.front_flag-flag.ensures
    (sym c.selects_latches.ensures ∙ c.if-selects_latches.true) (sym c.is_empty.ensures ∙ c.if-is_empty.false)
    c.self.invariant.no_mark
