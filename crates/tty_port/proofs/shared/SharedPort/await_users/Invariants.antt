use Rattle.std.proofs.Common.{◌≤◌}
use Rattle.port_cell.specs.Knowledge.{number_of, step_count}
use Rattle.port_cell.specs.Seats.{KeepsTurn}
use Rattle.tty_port.specs.Shared.{IsMarking}
use Rattle.tty_port.proofs.shared.SharedPort.await_users.Given as goal

abbrev pub invariant-loop : goal.invariant-loop
invariant-loop g l =
    (goal.iterator-loop g).can_next l.iterator'
    × (goal.iterator-loop g).is_finite l.iterator'
    × IsMarking l.self (number_of l.initial.seat) l.seat
    × KeepsTurn l.initial.seat l.seat
    × (step_count l.initial.seat ≤ step_count l.seat)
