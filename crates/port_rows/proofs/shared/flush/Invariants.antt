use Rattle.std.proofs.Common.{◌≡◌}
use Rattle.port_cell.specs.Knowledge.{list_seen}
use Rattle.tty_port.specs.Seen.{next_run}
use Rattle.tty_port.specs.Shared.{IsHere}
use Rattle.port_rows.proofs.shared.flush.Given as goal

abbrev pub invariant-loop : goal.invariant-loop
invariant-loop g l =
    (goal.iterator-loop g).can_next l.iterator'
    × (goal.iterator-loop g).is_finite l.iterator'
    × IsHere l.shared 2 l.seat
    × (next_run (list_seen l.seat) ≡ 0)
