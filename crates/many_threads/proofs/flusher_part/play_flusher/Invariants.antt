use Rattle.std.proofs.Common.{◌≡◌, List}
use Rattle.port_cell.specs.Knowledge.{list_seen}
use Rattle.tty_port.specs.Seen.{next_run}
use Rattle.tty_port.specs.Shared.{IsHere, name_of_port}
use Rattle.many_threads.specs.Parts.{RunMade, FlushesRuns}
use Rattle.many_threads.proofs.flusher_part.play_flusher.Given as goal

abbrev pub invariant-loop : goal.invariant-loop
invariant-loop g l =
    record {
      can_next : (goal.iterator-loop g).can_next l.iterator';
      finite : (goal.iterator-loop g).is_finite l.iterator';
      seat : IsHere l.shared (name_of_port l.shared).callers l.seat;
      numbered : l.next ≡ next_run (list_seen l.seat);
      so_far : (runs : List RunMade) × FlushesRuns (name_of_port l.shared) l.run l.initial.seat runs l.next l.seat;
    }
