use Rattle.std.proofs.Common.{refl}
use Rattle.uart_line.specs.Received.{received_list, received_list_after, lost_count, lost_count_after}
use Rattle.uart_line.specs.Received.{window, is_cut, is_masked, trigger_of, idle_of, window_output}
use Rattle.uart_line.proofs.rows.worked_scripts_are_received.Goals as goal

pub returns-clause-burst : goal.returns-clause-burst
unfolding received_list received_list_after lost_count lost_count_after
    window is_cut is_masked trigger_of idle_of window_output
returns-clause-burst c = (refl, refl)

pub returns-clause-four_times : goal.returns-clause-four_times
unfolding received_list received_list_after lost_count lost_count_after
    window is_cut is_masked trigger_of idle_of window_output
returns-clause-four_times c = (refl, refl)

pub returns-clause-three_times : goal.returns-clause-three_times
unfolding received_list received_list_after lost_count lost_count_after
    window is_cut is_masked trigger_of idle_of window_output
returns-clause-three_times c = (refl, refl)
