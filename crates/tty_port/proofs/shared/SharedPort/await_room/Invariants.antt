use Rattle.std.proofs.Common.{◌≡◌, ℕ, List, ◌++◌}
use Rattle.std.specs.List.Sorted.{IsNonDecreasing}
use Rattle.tty_port.proofs.shared.SharedPort.await_room.Given as goal

abbrev pub invariant-loop : goal.invariant-loop
invariant-loop g l =
    record {
      can_next : (goal.iterator-loop g).can_next l.iterator';
      finite : (goal.iterator-loop g).is_finite l.iterator';
      seat : l.seat ≡ l.initial.seat;
      sent : l.putter.sent ≡ l.initial.putter.sent;
      ring : l.putter.ring ≡ l.initial.putter.ring;
      capacity : l.putter.capacity ≡ l.initial.putter.capacity;
      heads : (loaded : List ℕ) × (l.putter.heads ≡ l.initial.putter.heads ++ loaded);
      rise : IsNonDecreasing l.initial.putter.heads → IsNonDecreasing l.putter.heads;
    }
