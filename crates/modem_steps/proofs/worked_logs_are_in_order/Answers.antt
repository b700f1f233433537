use Rattle.std.proofs.Common.{refl}
use Rattle.uart_line.specs.Received.{is_cut, window, script}
use Rattle.modem_steps.specs.Rows.{port_of, dial_in, dial_in_log, dial_in_journal, local_line, local_line_log}
use Rattle.modem_steps.specs.Rows.{local_line_journal, no_carrier, no_carrier_log, no_carrier_journal}
use Rattle.modem_steps.proofs.WorkedTurns.{worked}
use Rattle.modem_steps.proofs.worked_logs_are_in_order.Goals as goal

pub returns-clause-dial_in : goal.returns-clause-dial_in
unfolding is_cut window script
returns-clause-dial_in c =
    worked (port_of dial_in dial_in_log dial_in_journal) dial_in_log refl refl
    (refl, (tt, (refl, (refl, (tt, (tt, tt))))))

pub returns-clause-local_line : goal.returns-clause-local_line
unfolding is_cut window script
returns-clause-local_line c =
    worked (port_of local_line local_line_log local_line_journal) local_line_log refl refl
    (tt, (refl, (refl, (refl, (refl, (refl, (refl, (refl, (tt, tt)))))))))

pub returns-clause-no_carrier : goal.returns-clause-no_carrier
unfolding is_cut window script
returns-clause-no_carrier c =
    worked (port_of no_carrier no_carrier_log no_carrier_journal) no_carrier_log refl refl (refl, (refl, tt))

-- it is the line's turn then
pub returns-clause-too_early : goal.returns-clause-too_early
unfolding is_cut window script
returns-clause-too_early c = λ order. let turn = order.turns.events.1.1.1.1.1.1.0 in cc
