use Rattle.std.proofs.Common.{◌≡◌, ◌-◌, ◌++◌, flat_map, map}
use Rattle.std.specs.List.{range_with_len}
use Rattle.modem_text.specs.Events.{logged_of}
use Rattle.modem_text.specs.Sessions.{modem_session_of}
use Rattle.further_report.specs.Modem.{all_calls, port_calls}
use Rattle.further_report.proofs.modem.put_all.Given as goal

abbrev pub invariant-loop-port : goal.invariant-loop-port
invariant-loop-port l =
    l.text.items
    ++ flat_map (port_calls (modem_session_of l.session) (map logged_of l.log))
    (range_with_len l.port (l.session.session.ports - l.port))
    ≡ l.initial.text.items ++ all_calls (modem_session_of l.session) (map logged_of l.log)
