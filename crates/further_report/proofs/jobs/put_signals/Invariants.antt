use Rattle.std.proofs.Common.{◌≡◌, ◌-◌, ◌++◌, flat_map, map, string_bytes}
use Rattle.std.specs.List.{range_with_len}
use Rattle.job_text.specs.Events.{logged_of}
use Rattle.job_text.specs.Sessions.{bare_session_of}
use Rattle.further_report.specs.Jobs.{all_signals, port_signals}
use Rattle.further_report.proofs.jobs.put_signals.Given as goal

abbrev pub invariant-loop-port : goal.invariant-loop-port
invariant-loop-port l =
    string_bytes l.text
    ++ flat_map (port_signals (bare_session_of l.session) (map logged_of l.log))
    (range_with_len l.port (l.session.session.ports - l.port))
    ≡ string_bytes l.initial.text ++ all_signals (bare_session_of l.session) (map logged_of l.log)
