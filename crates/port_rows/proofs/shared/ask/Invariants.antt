use Rattle.port_cell.specs.Knowledge.{list_seen}
use Rattle.tty_port.specs.Seen.{IsBetweenCalls}
use Rattle.tty_port.specs.Shared.{IsHere}
use Rattle.port_rows.proofs.shared.ask.Given as goal

abbrev pub invariant-loop-step : goal.invariant-loop-step
invariant-loop-step g l = IsHere l.shared l.caller l.seat × IsBetweenCalls l.caller l.step (list_seen l.seat)
