use Rattle.std.proofs.Common.{◌≡◌, ◌+◌, ◌≤◌, false}
use Rattle.port_cell.specs.Knowledge.{list_seen}
use Rattle.tty_port.specs.Seen.{marks_at}
use Rattle.tty_port.specs.Shared.{IsHere, name_of_port}
use Rattle.many_threads.specs.Parts.{MakesTicks}
use Rattle.many_threads.proofs.clock_part.make_ticks.Given as goal

abbrev pub invariant-loop : goal.invariant-loop
invariant-loop g l =
    record {
      within : l.counter ≤ l.ticks;
      seat : IsHere l.shared ((name_of_port l.shared).callers + 2) l.seat;
      not_over : (marks_at (list_seen l.seat)).clock_over ≡ false;
      makes : MakesTicks l.counter (list_seen l.initial.seat) l.seat;
    }
