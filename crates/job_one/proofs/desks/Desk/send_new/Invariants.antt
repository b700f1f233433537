use Rattle.std.proofs.Common.{◌≡◌, ◌-◌, length}
use Rattle.job_one.specs.Desk.{signals_of}
use Rattle.job_one.specs.Events.{new_sent_on}
use Rattle.job_one.proofs.desks.Desk.send_new.Given as goal

abbrev pub invariant-loop-signal : goal.invariant-loop-signal
invariant-loop-signal l = new_sent_on l.port l.self ≡ new_sent_on l.port l.initial.self

abbrev pub decreases-loop-signal : goal.decreases-loop-signal
decreases-loop-signal l = length (signals_of l.port.terminal) - l.self.sent
