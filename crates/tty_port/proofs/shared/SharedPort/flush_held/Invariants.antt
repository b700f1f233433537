use Rattle.std.proofs.Common.{◌≤◌, length}
use Rattle.tty_base.specs.Sizes.{MOST_ENTRIES}
use Rattle.port_cell.specs.Word.{generation_in}
use Rattle.port_cell.specs.Knowledge.{list_seen, last_word}
use Rattle.port_cell.specs.Seats.{KeepsUse}
use Rattle.tty_port.specs.Flushing.{GoesOnAt}
use Rattle.tty_port.specs.Going.{IsFlushing}
use Rattle.tty_port.specs.Shared.{IsHolding, name_of_port}
use Rattle.tty_port.proofs.shared.SharedPort.flush_held.Given as goal

abbrev pub invariant-loop : goal.invariant-loop
invariant-loop g l =
    record {
      next : (goal.iterator-loop g).can_next l.iterator';
      finite : (goal.iterator-loop g).is_finite l.iterator';
      seat : IsHolding l.self (name_of_port l.self).callers l.seat;
      references : KeepsUse l.initial.seat l.seat;
      so_far : IsFlushing (name_of_port l.self) l.run l.part l.count l.initial.seat l.seat;
      piece : GoesOnAt l.run l.part (generation_in (last_word l.seat)) (list_seen l.seat);
      bounded : l.part ≤ MOST_ENTRIES;
      within : l.part ≤ length (list_seen l.seat);
    }
