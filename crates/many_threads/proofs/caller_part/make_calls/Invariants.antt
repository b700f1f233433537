use Rattle.std.proofs.Common.{◌≡◌, ◌+◌}
use Rattle.port_cell.specs.Knowledge.{list_seen}
use Rattle.tty_port.specs.Seen.{IsBetweenCalls}
use Rattle.tty_port.specs.Shared.{IsHere}
use Rattle.many_threads.specs.Parts.{MakesInRole}
use Rattle.many_threads.proofs.caller_part.make_calls.Given as goal

abbrev pub invariant-loop-place : goal.invariant-loop-place
invariant-loop-place g l =
    record {
      seat : IsHere l.shared l.caller l.seat;
      step_is : l.step ≡ l.first + l.place;
      between : IsBetweenCalls l.caller l.step (list_seen l.seat);
      makes : MakesInRole l.caller l.first l.calls.items (list_seen l.initial.seat) l.seat;
    }
