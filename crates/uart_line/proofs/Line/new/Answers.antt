use Rattle.std.proofs.Common.{◌≡◌, [], length, refl, ap, ◌∙◌, arith}
use Rattle.uart_regs.specs.Registers.{Registers, initial_registers}
use Rattle.uart_line.specs.Received.{is_masked, trigger_of, idle_of, received_list, received_list_after}
use Rattle.uart_line.specs.Received.{lost_count, lost_count_after, waiting_list, window, is_cut}
use Rattle.uart_line.specs.LineState.{IsWaiting}
use Rattle.uart_line.proofs.Line.new.Goals as goal

waits_for_none : (r : Registers) → r ≡ initial_registers → IsWaiting r [] []
unfolding trigger_of idle_of
waits_for_none r e = rw e (record {
  fifo = refl;
  overrun = refl;
  idle = λ some. absurd (omega (arith, some));
  trigger = refl;
  interrupts = refl;
  line_control = refl;
})

pub returns-clause-done : goal.returns-clause-done
unfolding is_masked trigger_of idle_of received_list received_list_after
    lost_count lost_count_after waiting_list window is_cut
returns-clause-done c = record {
  stands = record { registers = waits_for_none c.new.result c.new.ensures; masked = refl; window = refl };
  arrived = refl;
  handed = refl;
  lost = refl;
  sent = omega (arith, ap length (c.reserve.ensures.items ∙ ap (λ b. b.items) c.new-overruns.ensures));
}
