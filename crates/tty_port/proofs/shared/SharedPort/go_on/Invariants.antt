use Rattle.std.proofs.Common.{◌≡◌, ◌≤◌}
use Rattle.tty_calls.specs.Plain.{call_of}
use Rattle.port_cell.specs.Word.{generation_in, changing_in}
use Rattle.port_cell.specs.Knowledge.{last_word, step_count}
use Rattle.tty_port.specs.Going.{IsGoing}
use Rattle.tty_port.specs.Shared.{IsHolding}
use Rattle.tty_port.proofs.shared.SharedPort.go_on.Given as goal

abbrev pub invariant-loop : goal.invariant-loop
invariant-loop g l =
    record {
      next : (goal.iterator-loop g).can_next l.iterator';
      finite : (goal.iterator-loop g).is_finite l.iterator';
      seat : IsHolding l.self l.caller l.seat;
      found : changing_in (last_word l.seat) ≡ 0;
      steps : step_count l.initial.seat ≤ step_count l.seat;
      going : IsGoing l.caller l.step (call_of l.call) (generation_in (last_word l.seat)) l.initial.seat l.seat;
    }
