use Rattle.std.proofs.Common.{◌≡◌, ◌++◌, drop, map, string_bytes}
use Rattle.job_text.specs.Events.{logged_of}
use Rattle.further_report.specs.Jobs.{signals_on}
use Rattle.further_report.proofs.jobs.put_port_signals.Given as goal

abbrev pub invariant-loop-logged : goal.invariant-loop-logged
invariant-loop-logged l =
    string_bytes l.text ++ signals_on l.port l.procs (map logged_of (drop l.logged-index l.log))
    ≡ string_bytes l.initial.text ++ signals_on l.port l.procs (map logged_of l.log)
