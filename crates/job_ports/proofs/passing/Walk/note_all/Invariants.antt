use Rattle.std.proofs.Common.{◌≡◌, drop, map}
use Rattle.job_text.specs.Events.{events_on, logged_of}
use Rattle.job_ports.specs.Walked.{walked_over}
use Rattle.job_ports.proofs.passing.Walk.note_all.Given as goal

abbrev pub invariant-loop-logged : goal.invariant-loop-logged
invariant-loop-logged l =
    walked_over l.self (events_on l.port (map logged_of (drop l.logged-index l.log)))
    ≡ walked_over l.initial.self (events_on l.port (map logged_of l.log))
